use Rattle.std.proofs.Common.{rules}
use Rattle.query_item.specs.Items.{item_at}
use Rattle.insert_order.specs.Order.{ends_below}
use Rattle.insert_order.proofs.Chains.{find_by}
use Rattle.insert.proofs.Windows.{back_by}
use Rattle.insert.proofs.window.past_asked.Goals as goal

pub returns : goal.returns
returns c =
    let first = find_by _ _ _ (λ j. ends_below c.args.pool.now c.args.item (item_at c.args.words.now j)) (search rules) (search rules) _ c.find.ensures.runs in
    back_by _ _ _ _ c.requires.0 _ c.requires.1 _ first c.unwrap_or.ensures
