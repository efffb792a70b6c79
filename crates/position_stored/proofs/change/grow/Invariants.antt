-- `grow` meets its contract. The invariant is `Growing`: the range as it has grown, over the pairs that are left, gives what the range
-- gives over all of them. Assumes nothing.
use mathlib.Core.Path.{◌≡◌}
use Rattle.position_stored.specs.Inner.{Growing}
use Rattle.position_stored.proofs.change.grow.Given as goal

abbrev pub invariant-loop-i : goal.invariant-loop-i
invariant-loop-i l = (l.grown.from ≡ l.i) × Growing l.words l.count l.from l.s l.e l.i l.grown.start l.grown.end l.grown.gone
