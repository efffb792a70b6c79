-- `extra_positions` meets its contract. The invariant is `Sorted`: the report is that of the positions so far, and no pair that is passed ends
-- above one of the others. Assumes nothing.
use Rattle.position_mismatch.proofs.Turns.{Sorted}
use Rattle.position_mismatch.proofs.compare.extra_positions.Given as goal

abbrev pub invariant-loop-p : goal.invariant-loop-p
invariant-loop-p l = Sorted l.intervals l.proved l.report l.pair l.p-index
