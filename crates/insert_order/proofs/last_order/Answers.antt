-- `insert_order::last_order` meets its contract: there is no earlier item, or the last one is compared. Assumes nothing.
use mathlib.Core.Path.{sym, ◌∙◌}
use Rattle.insert_order.specs.Passes.{last_order}
use Rattle.insert_order.proofs.Reading.{last_before}
use Rattle.insert_order.proofs.last_order.Goals as goal

pub returns-then-i-eq0 : goal.returns-then-i-eq0
unfolding last_order
returns-then-i-eq0 c = rw c.if-i-eq0.true

pub returns : goal.returns
unfolding last_order
returns c = (rw c.item_at.ensures at c.compare_items.ensures) ∙ sym (last_before _ _ _ _ c.if-i-eq0.false)
