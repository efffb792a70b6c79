-- `first_past` meets its contract. The invariant: each pair from the first asked on, before i, ends at or below p. Assumes nothing.
use Prim.Native.Nat.{ℕ, ◌/◌, ◌≤◌, ◌<◌, max}
use lib.ListN.{length}
use Rattle.pairs_sort.specs.Pairs.{finish}
use Rattle.position_mismatch.proofs.gaps.first_past.Given as goal

abbrev pub invariant-loop-i : goal.invariant-loop-i
invariant-loop-i l = (l.i ≤ max l.from (length l.intervals / 2)) × ((k : ℕ) → l.from ≤ k → k < l.i → finish l.intervals k ≤ l.p)
