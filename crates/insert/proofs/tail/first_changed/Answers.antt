use Rattle.std.proofs.Common.{rules}
use mathlib.Core.Bool.{not}
use native.Mathlib.Omega.{arith}
use Rattle.query_item.specs.Items.{item_at}
use Rattle.insert.specs.Passes.{keeps_place}
use Rattle.insert_order.proofs.Chains.{find_by}
use Rattle.insert.proofs.Windows.{first_by}
use Rattle.insert.proofs.tail.first_changed.Goals as goal

pub count_below-below-requires : goal.count_below-below-requires
count_below-below-requires c = λ j k h l. c.requires.1 j k h (omega (arith, c.requires.0))

pub returns : goal.returns
returns c =
    let first = find_by _ _ _ (λ j. not (keeps_place c.args.pool.now c.args.item c.args.res (item_at c.args.words.now j))) (search rules) (search rules) _ c.find.ensures.runs in
    first_by _ _ _ _ _ _ _ c.requires.0 c.requires.2 c.count_below-below.ensures _ first c.unwrap_or.ensures
