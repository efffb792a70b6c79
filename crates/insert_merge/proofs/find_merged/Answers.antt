use mathlib.Core.Path.{sym, ◌∙◌}
use native.Mathlib.Omega.{arith}
use Rattle.insert_merge.proofs.Staying.{one_at_most}
use Rattle.insert_merge.proofs.Reading.{merged_more, merged_end, stay_more, stay_end}
use Rattle.insert_merge.proofs.find_merged.Goals as goal

pub loop-i-preserved : goal.loop-i-preserved
loop-i-preserved c = (
  omega (arith, one_at_most c.is_staying.result c.from-stay.ensures),
  c.loop-i.invariant.1
      ∙ merged_more _ _ _ _ _ _ c.loop-i-test.true c.item_at-old.ensures c.fate_of-fate.ensures c.merge_by-result.ensures,
  omega
      (arith, c.loop-i.invariant.2, stay_more _ _ _ _ _ c.loop-i-test.true c.item_at-old.ensures c.fate_of-fate.ensures c.is_staying.ensures c.from-stay.ensures),
)

pub returns : goal.returns
returns c = record {
  result = sym (c.loop-i.invariant.1 ∙ merged_end _ _ _ _ _ _ c.loop-i-test.false);
  stay = omega (arith, c.loop-i.invariant.2, stay_end c.args.pool.now c.args.words.now c.loop-i.i c.args.to c.args.item c.loop-i-test.false);
}
