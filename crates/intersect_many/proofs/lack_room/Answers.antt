-- `intersect_many::lack_room` meets its contract: each list is asked. Assumes nothing.
use Rattle.intersect_many.proofs.lack_room.Goals as goal

pub returns : goal.returns
returns c = rw (c.passes_room-3.ensures, c.passes_room-2.ensures, c.passes_room.ensures)
