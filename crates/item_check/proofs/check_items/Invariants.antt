-- `item_check::check_items` meets its contract: the invariant: the verdict of the list is that of the items left at `i`. Assumes nothing.
use Prim.Native.Nat.{◌-◌}
use mathlib.Core.Path.{◌≡◌}
use Rattle.query_item.specs.Items.{items_from}
use Rattle.item_check.specs.Checks.{upright_fault, first_bad}
use Rattle.item_check.proofs.check_items.Given as goal

abbrev pub invariant-loop-i : goal.invariant-loop-i
invariant-loop-i l = first_bad (upright_fault l.pool) l.side 0 (items_from l.words 0 l.count) ≡ first_bad (upright_fault l.pool) l.side l.i (items_from l.words l.i (l.count - l.i))
