-- `count_rows` meets its contract. The invariant is `Counting`: what is left of the pairs has the verdict of the whole, and the rows so far and
-- those that are left make the whole. Assumes nothing.
use Rattle.position_given.proofs.Counting.{Counting}
use Rattle.position_given.proofs.count_rows.Given as goal

abbrev pub invariant-loop-i : goal.invariant-loop-i
invariant-loop-i l = Counting l.intervals l.count l.end l.rows l.i
