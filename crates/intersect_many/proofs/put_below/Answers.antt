-- `intersect_many::put_below` meets its contract: the item of the range up to the inverted start. Assumes nothing.
use Rattle.intersect_many.proofs.put_below.Goals as goal

pub returns : goal.returns
returns c = rw (← c.invert.ensures) c.put_set.ensures
