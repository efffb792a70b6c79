-- `intersect::pair::meet_sets` meets its contract: either may stand before the other; else the orders of starts and ends pick. Assumes nothing.
use mathlib.Core.Path.{◌≡◌}
use mathlib.Core.Bool.{true}
use Rattle.intersect.specs.Pair.{before, disjoint, meet_sets}
use Rattle.intersect.proofs.pair.meet_sets.Goals as goal

pub returns-then-is_before : goal.returns-then-is_before
unfolding meet_sets
returns-then-is_before c = let first : c.is_before.result ≡ before c.args.pool.now c.args.ours c.args.theirs = c.is_before.ensures in
    let second : c.is_before-2.result ≡ before c.args.pool.now c.args.theirs c.args.ours = c.is_before-2.ensures in
    let apart : disjoint c.args.pool.now c.args.ours c.args.theirs ≡ true = rw (← first, ← second) c.if-is_before.true in
    rw apart

pub returns : goal.returns
unfolding meet_sets
returns c = rw (
  c.overlap_by.ensures,
  c.compare_in-ends.ensures,
  c.compare_in-starts.ensures,
  ← c.is_before.ensures,
  ← c.is_before-2.ensures,
  c.if-is_before.false,
)
