-- `keyless::piece_item` meets its contract: of two kinds of start a piece may hold no key, of the others it is converted. Assumes nothing.
use Rattle.keyless.specs.Keyless.{keyless}
use Rattle.keyless.proofs.piece_item.Goals as goal

pub returns-in-Inclusive : goal.returns-in-Inclusive
unfolding keyless
returns-in-Inclusive c = rw c.in-Inclusive.is c.item_from.ensures

pub returns-in-ExclusiveStart : goal.returns-in-ExclusiveStart
unfolding keyless
returns-in-ExclusiveStart c = rw c.in-ExclusiveStart.is c.piece_after.ensures

pub returns-in-UnboundedStart : goal.returns-in-UnboundedStart
unfolding keyless
returns-in-UnboundedStart c = rw c.in-UnboundedStart.is c.piece_to.ensures
