-- `missing_positions` meets its contract. The invariant is `Seen`: the positions so far are proved, and the others stand ahead of the walk. Assumes
-- nothing.
use Rattle.position_mismatch.proofs.Turns.{Seen}
use Rattle.position_mismatch.proofs.compare.missing_positions.Given as goal

abbrev pub invariant-loop-p : goal.invariant-loop-p
invariant-loop-p l = Seen l.intervals l.proved l.walk l.p-index
