use mathlib.Core.Path.{◌∙◌}
use Rattle.position_query.proofs.Builds.{counted_start, counted_some, counted_none, counted_all, counted_written}
use Rattle.position_query.proofs.query.write_ranges.Goals as goal
use Rattle.position_query.proofs.query.write_ranges.Goals.{then-range, else-range}

pub loop-i-init : goal.loop-i-init
loop-i-init c = counted_start _ _ _ _ _

pub loop-i-preserved : goal.loop-i-preserved
loop-i-preserved c =
    let is = c.clip-range.ensures ∙ rw c.item_at.ensures in
    elim c.if-range.branch [
      | then-range w ↦ rw (w.k-is, w.out-is) (counted_some c.loop-i.invariant c.clip-range.result.start c.clip-range.result.end is c.loop-i-test.true w.if-range.true w.push_pair.new.words w.push_pair.result w.push_pair.ensures.0 w.push_pair.ensures.1)
      | else-range w ↦ rw (w.k-is, w.out-is) (counted_none c.loop-i.invariant c.clip-range.result.start c.clip-range.result.end is c.loop-i-test.true w.if-range.false)
    ]

pub returns : goal.returns
returns c = record { value = counted_all c.loop-i.invariant c.loop-i-test.false; writes = counted_written c.loop-i.invariant c.loop-i-test.false }
