-- `goes_on` meets its contract. The invariant: the positions from the first asked on, before i, are the rows from s on, below x. Assumes nothing.
use Prim.Native.Nat.{ℕ, ◌+◌, ◌-◌, ◌≤◌, ◌<◌, max}
use mathlib.Core.Path.{◌≡◌}
use lib.ListN.{length, get_or}
use Rattle.position_plan.proofs.runs.goes_on.Given as goal

abbrev pub invariant-loop-i : goal.invariant-loop-i
invariant-loop-i l = (l.i ≤ max l.from (length l.proved)) × (l.x ≡ l.s + (l.i - l.from)) × (l.from < l.i → l.x ≤ l.e) × ((k : ℕ) → l.from ≤ k → k < l.i → (k < length l.proved) × (get_or l.proved k 0 ≡ l.s + (k - l.from)))
