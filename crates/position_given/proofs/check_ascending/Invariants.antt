-- `check_ascending` meets its contract. The invariant: what is left of the positions, after the one before them, has the answer of the whole. Assumes
-- nothing.
use Prim.Native.Nat.{◌-◌}
use mathlib.Core.Path.{◌≡◌}
use lib.ListN.{get_or, drop}
use Rattle.position_given.specs.Given.{ascending_verdict, first_falling}
use Rattle.position_given.proofs.check_ascending.Given as goal

abbrev pub invariant-loop-i : goal.invariant-loop-i
invariant-loop-i l = ascending_verdict l.proved ≡ first_falling l.i (get_or l.proved (l.i - 1) 0) (drop l.i l.proved)
