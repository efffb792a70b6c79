-- `intersect_many::Lists::count` meets its contract: the pass counts what it has no room to write. Assumes nothing.
use Rattle.intersect_many.proofs.Room.{counted}
use Rattle.intersect_many.proofs.Lists.count.Goals as goal

pub returns : goal.returns
returns c = counted _ _ _ _ c.sweep.ensures
