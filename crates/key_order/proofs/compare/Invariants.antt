-- `key_order::compare` meets its contract. The loop's invariant: the order of the keys is that of what is left of them at `i`.
-- The measure is what is left of the shorter one. Assumes nothing.
use Prim.Native.Nat.{◌≤◌, ◌-◌, min}
use mathlib.Core.Path.{◌≡◌}
use lib.ListN.{length}
use Rattle.key_order.specs.Inner.{Reached}
use Rattle.key_order.proofs.compare.Given as goal

abbrev pub invariant-loop-i : goal.invariant-loop-i
invariant-loop-i l = (l.i ≤ l.end) × (l.end ≡ min (length l.a) (length l.b)) × Reached l.a l.b l.i

abbrev pub decreases-loop-i : goal.decreases-loop-i
decreases-loop-i l = l.end - l.i
