-- `item_lists::put_item` meets its contract: nothing, or one item. Assumes nothing.
use Rattle.query_item.specs.Items.{with_item}
use Rattle.item_lists.specs.Written.{put_all}
use mathlib.Core.Path.{refl, ap, ◌∙◌}
use Rattle.item_lists.proofs.put_item.Goals as goal

pub returns-in-None : goal.returns-in-None
unfolding put_all
returns-in-None c = rw c.in-None.is (refl, refl)

pub returns-in-Some : goal.returns-in-Some
unfolding put_all
returns-in-Some c = rw c.in-Some.is (refl, c.write_item.ensures ∙ ap (with_item c.args.out.now c.args.i) c.words_of.ensures)
