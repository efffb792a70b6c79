-- `sheet_write::check_plain_items` meets its contract. The invariant: the verdict of the list is that of the items left at i. Assumes nothing.
use Prim.Native.Nat.{◌-◌, ◌/◌}
use mathlib.Core.Path.{◌≡◌}
use lib.ListN.{length}
use Rattle.query_item.specs.Items.{item_size, items_from}
use Rattle.item_check.specs.Checks.{first_bad}
use Rattle.sheet_write.specs.Writing.{plain_fault}
use Rattle.sheet_write.proofs.check_plain_items.Given as goal

abbrev pub invariant-loop-i : goal.invariant-loop-i
invariant-loop-i l = first_bad (plain_fault l.pool) 0 0 (items_from l.words 0 (length l.words / item_size))
    ≡ first_bad (plain_fault l.pool) 0 l.i (items_from l.words l.i (length l.words / item_size - l.i))
