-- `check_items` meets its contract. The invariant: what is left of the items has the answer of the whole. Assumes nothing.
use Prim.Native.Nat.{◌-◌, ◌/◌}
use mathlib.Core.Path.{◌≡◌}
use lib.ListN.{length}
use Rattle.query_item.specs.Items.{item_size, items_from}
use Rattle.item_check.specs.Checks.{first_bad, items_of}
use Rattle.position_query.specs.Covered.{position_fault}
use Rattle.position_query.proofs.query.check_items.Given as goal

abbrev pub invariant-loop-i : goal.invariant-loop-i
invariant-loop-i l = first_bad (position_fault l.pool) 0 0 (items_of l.items) ≡ first_bad (position_fault l.pool) 0 l.i (items_from l.items l.i (length l.items / item_size - l.i))
