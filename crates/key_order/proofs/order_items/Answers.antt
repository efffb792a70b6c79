-- `key_order::order_items` meets its contract: the answer of `compare` picks the reference. Assumes nothing.
use Rattle.key_order.proofs.order_items.Goals as goal

pub returns-in-Less : goal.returns-in-Less
returns-in-Less c = rw (← c.compare.ensures, c.in-Less.is)

pub returns-in-Equal : goal.returns-in-Equal
returns-in-Equal c = rw (← c.compare.ensures, c.in-Equal.is)

pub returns-in-Greater : goal.returns-in-Greater
returns-in-Greater c = rw (← c.compare.ensures, c.in-Greater.is)
