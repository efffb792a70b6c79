-- `sheet_read::measure` meets its contract. The invariant (`Measuring`): the counts of the sheet are those so far with the rows that are left
-- added. The measure is how many bytes are left, and a good row takes one at least. Assumes nothing.
use lib.ListN.{length}
use Rattle.sheet_read.proofs.Turns.{Measuring}
use Rattle.sheet_read.proofs.measure.Given as goal

abbrev pub invariant-loop-rest : goal.invariant-loop-rest
invariant-loop-rest l = Measuring l.text l.m l.rest

abbrev pub decreases-loop-rest : goal.decreases-loop-rest
decreases-loop-rest l = length l.rest
