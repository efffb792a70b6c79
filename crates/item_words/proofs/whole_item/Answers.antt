-- `item_words::whole_item` meets its contract: the six words are inside the list. Assumes nothing.
use mathlib.Core.Path.{refl}
use Rattle.query_item.specs.Items.{item_at}
use Rattle.item_words.proofs.whole_item.Goals as goal

pub returns : goal.returns
unfolding item_at
returns c = refl
