-- `check_item` meets its contract: nothing, or 1 and 2, then the wrapper, then the keys. Assumes nothing.
use mathlib.Core.Path.{sym, ◌∙◌}
use Rattle.item_check.proofs.Laws.{fault_passes}
use Rattle.position_query.proofs.Clean.{clean_fault, fault_key}
use Rattle.position_query.proofs.query.check_item.Goals as goal

pub returns-then-is_clean : goal.returns-then-is_clean
returns-then-is_clean c = rw (clean_fault c.args.pool.now c.args.item (sym c.is_clean.ensures ∙ c.if-is_clean.true))

pub returns : goal.returns
returns c =
    let none = (fault_passes _ _ _).0 (sym c.check_formed.ensures ∙ c.in_ok-check_formed.was) in
    let unclean = sym c.is_clean.ensures ∙ c.if-is_clean.false in
    rw (fault_key c.args.pool.now c.args.item none c.if-item-ne0.false unclean) c.refuse-2.ensures
