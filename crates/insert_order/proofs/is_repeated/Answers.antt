use Rattle.std.proofs.Common.{rules}
use Rattle.query_item.specs.Items.{item_at}
use Rattle.insert_order.specs.Order.{same_item}
use Rattle.insert_order.proofs.Reading.{repeats_by}
use Rattle.insert_order.proofs.Chains.{any_by}
use Rattle.insert_order.proofs.is_repeated.Goals as goal

pub returns : goal.returns
returns c =
    let any = any_by _ _ _ (λ j. same_item c.args.pool.now (item_at c.args.words.now j) c.args.item) (search rules) (search rules) _ c.any.ensures.runs in
    repeats_by _ _ _ _ _ _ any.0 any.1
