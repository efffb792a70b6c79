-- `intersect_many::right_asked` meets its contract: the test of the order of an end and a start. Assumes nothing.
use Rattle.intersect_many.specs.Sweep.{right_set}
use Rattle.intersect_many.proofs.right_asked.Goals as goal

pub returns-then-is_before : goal.returns-then-is_before
unfolding right_set
returns-then-is_before c = rw (← c.is_before.ensures, c.if-is_before.true)

pub returns : goal.returns
unfolding right_set
returns c = rw (← c.is_before.ensures, c.if-is_before.false, c.past_set.ensures)
