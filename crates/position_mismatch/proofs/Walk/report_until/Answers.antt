use Prim.Native.Nat.{◌/◌}
use mathlib.Core.Path.{refl, sym, ◌∙◌}
use lib.ListN.{length}
use Rattle.position_mismatch.proofs.Walks.{until_end, until_stop, until_next}
use Rattle.position_mismatch.proofs.Walk.report_until.Goals as goal

pub returns-then-to-e : goal.returns-then-to-e
returns-then-to-e c = sym (c.loop-i.invariant.1 ∙ rw c.loop-i.invariant.0 (until_stop c.args.intervals.now (length c.args.intervals.now / 2) c.loop-i.i c.loop-i.self.from c.args.to c.loop-i.self.report
    c.max.result c.min.result c.push_run.new.self c.max.ensures c.min.ensures c.push_run.ensures c.loop-i-test.true c.if-to-e.true))

pub loop-i-preserved : goal.loop-i-preserved
loop-i-preserved c = (
  refl,
  c.loop-i.invariant.1 ∙ rw c.loop-i.invariant.0 (until_next c.args.intervals.now (length c.args.intervals.now / 2) c.loop-i.i c.loop-i.self.from c.args.to c.loop-i.self.report
      c.max.result c.min.result c.push_run.new.self c.max.ensures c.min.ensures c.push_run.ensures c.loop-i-test.true c.if-to-e.false),
)

pub returns : goal.returns
returns c = sym (c.loop-i.invariant.1 ∙ rw c.loop-i.invariant.0 (until_end _ _ _ _ _ _ c.loop-i-test.false))
