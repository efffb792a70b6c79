-- `goes_back` meets its contract. The invariant: the positions from i on, before the index asked from, are the rows from x on, below e. Assumes
-- nothing.
use Prim.Native.Nat.{ℕ, ◌+◌, ◌-◌, ◌≤◌, ◌<◌}
use mathlib.Core.Path.{◌≡◌}
use lib.ListN.{get_or}
use Rattle.position_plan.proofs.runs.goes_back.Given as goal

abbrev pub invariant-loop-i : goal.invariant-loop-i
invariant-loop-i l = (l.x + (l.to - l.i) ≡ l.e) × (l.i < l.to → l.s ≤ l.x) × ((k : ℕ) → l.i ≤ k → k < l.to → get_or l.proved k 0 + (l.to - k) ≡ l.e)
