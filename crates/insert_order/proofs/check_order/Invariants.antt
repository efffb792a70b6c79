-- `insert_order::check_order` meets its contract: the first item that breaks the order. The invariant: the verdict on the list is that on
-- what is left at i, and the first i items are in order, the last of them, its run and the last plain one known (`Seen`).
-- Assumes nothing.
use Prim.Native.Nat.{◌-◌}
use mathlib.Core.Path.{◌≡◌}
use Rattle.query_item.specs.Items.{items_from}
use Rattle.insert_order.specs.Refusals.{first_clash, order_verdict}
use Rattle.insert_order.proofs.Seen.{earlier, Seen}
use Rattle.insert_order.proofs.check_order.Given as goal

abbrev pub invariant-loop-i : goal.invariant-loop-i
invariant-loop-i l = (order_verdict l.pool (items_from l.words 0 l.count) ≡ first_clash l.pool l.i (earlier l.pool l.words l.i) (items_from l.words l.i (l.count - l.i)))
    × Seen l.pool l.words l.i l.run l.plain_end
