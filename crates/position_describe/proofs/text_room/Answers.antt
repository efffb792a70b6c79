-- `position_describe::text_room` meets its contract: so many bytes are made. Assumes nothing.
use mathlib.Core.Path.{refl}
use Rattle.position_describe.proofs.text_room.Goals as goal

pub returns : goal.returns
returns c = refl
