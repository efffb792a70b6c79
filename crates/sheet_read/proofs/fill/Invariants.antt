-- `sheet_read::fill` meets its contract. The invariant (`Filling`): what the sheet leaves in the pool and in the list is what the rows that are
-- left leave from here on. The measure is how many bytes are left, and a good row takes one at least. Assumes nothing.
use lib.ListN.{length}
use Rattle.sheet_read.proofs.Filling.{Filling}
use Rattle.sheet_read.proofs.fill.Given as goal

abbrev pub invariant-loop-row : goal.invariant-loop-row
invariant-loop-row l = Filling l.text l.initial.pool l.initial.out l.pool l.out l.rest l.n l.used

abbrev pub decreases-loop-row : goal.decreases-loop-row
decreases-loop-row l = length l.rest
