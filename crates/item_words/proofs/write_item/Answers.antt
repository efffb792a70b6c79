-- `item_words::write_item` meets its contract: the item is stored where it has room. Assumes nothing.
use borrow.Author.Tests.{lt-ltb, le-ltb}
use Rattle.query_item.specs.Items.{with_item}
use Rattle.item_words.proofs.write_item.Goals as goal

pub returns-then-i-out : goal.returns-then-i-out
unfolding with_item
returns-then-i-out c = rw (lt-ltb _ _ c.if-i-out.true) c.store_item.ensures

pub returns-else-i-out : goal.returns-else-i-out
unfolding with_item
returns-else-i-out c = rw (le-ltb _ _ c.if-i-out.false)
