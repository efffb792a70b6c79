-- `insert::insert_item` meets its contract: the checks refuse, or the insertion follows. Assumes nothing.
use mathlib.Core.Path.{sym, ◌∙◌}
use Rattle.insert_order.proofs.Accepted.{input_count}
use Rattle.insert.proofs.insert_item.Goals as goal

pub insert_checked-requires : goal.insert_checked-requires
insert_checked-requires c = let ok = sym c.check_input.ensures ∙ c.in_ok-check_input.was in
    (input_count c.args.pool.now c.args.words.now c.args.count c.args.item ok, ok)
