-- `item_ask::could_contain_key` meets its contract: the table's answer about a key is that of the item's boundaries. Assumes nothing.
use Rattle.std.proofs.Common.{sym, ap}
use Rattle.std.specs.Prelude.{Ok}
use Rattle.item_ask.proofs.Between.{containment_between_lem}
use Rattle.item_ask.proofs.could_contain_key.Goals as goal

pub returns : goal.returns
returns c = rw (← c.check_item.ensures, c.in_ok-check_item.was, c.item_contains.ensures) (ap Ok (sym (containment_between_lem _ _ _)))
