-- `keyless::piece_after` meets its contract: none of an open range up to the next key, else the item. Assumes nothing.
use Rattle.keyless.specs.Keyless.{keyless}
use Rattle.keyless.proofs.piece_after.Goals as goal

pub returns-then-is_below_next : goal.returns-then-is_below_next
unfolding keyless
returns-then-is_below_next c = rw (← c.is_below_next.ensures, c.if-is_below_next.true)

pub returns : goal.returns
unfolding keyless
returns c = rw (← c.is_below_next.ensures, c.if-is_below_next.false) (c.item_after.ensures c.args.pool.now)
