-- `item_lists::passes_room` meets its contract, by computation. Assumes nothing.
use mathlib.Core.Path.{refl}
use Rattle.item_lists.proofs.passes_room.Goals as goal

pub returns : goal.returns
returns c = refl
