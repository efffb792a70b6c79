-- `last_below` meets its contract. The invariant: each position from i on, before the index asked from, is at or above x. Assumes nothing.
use Prim.Native.Nat.{ℕ, ◌≤◌, ◌<◌}
use lib.ListN.{get_or}
use Rattle.position_plan.proofs.runs.last_below.Given as goal

abbrev pub invariant-loop-i : goal.invariant-loop-i
invariant-loop-i l = (k : ℕ) → l.i ≤ k → k < l.to → l.x ≤ get_or l.proved k 0
