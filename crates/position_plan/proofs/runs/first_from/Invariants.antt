-- `first_from` meets its contract. The invariant: each position from the first asked on, before i, is below x. Assumes nothing.
use Prim.Native.Nat.{ℕ, ◌≤◌, ◌<◌, max}
use lib.ListN.{length, get_or}
use Rattle.position_plan.proofs.runs.first_from.Given as goal

abbrev pub invariant-loop-i : goal.invariant-loop-i
invariant-loop-i l = (l.i ≤ max l.from (length l.proved)) × ((k : ℕ) → l.from ≤ k → k < l.i → get_or l.proved k 0 < l.x)
