-- `keyless::piece_to` meets its contract: none of what is below the empty key, else the item. Assumes nothing.
use Rattle.keyless.specs.Keyless.{keyless}
use Rattle.keyless.proofs.piece_to.Goals as goal

pub returns-then-is_below_empty : goal.returns-then-is_below_empty
unfolding keyless
returns-then-is_below_empty c = rw (← c.is_below_empty.ensures, c.if-is_below_empty.true)

pub returns : goal.returns
unfolding keyless
returns c = rw (← c.is_below_empty.ensures, c.if-is_below_empty.false) (c.item_to.ensures c.args.pool.now)
