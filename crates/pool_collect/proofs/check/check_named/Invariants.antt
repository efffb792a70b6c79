-- `pool_collect::check::check_named` meets its contract. The invariant: the verdict of the list's items is that of those left at i. Assumes nothing.
use Prim.Native.Nat.{◌-◌}
use mathlib.Core.Path.{◌≡◌}
use Rattle.query_item.specs.Items.{items_from}
use Rattle.item_check.specs.Checks.{item_fault, first_bad}
use Rattle.pool_collect.proofs.check.check_named.Given as goal

abbrev pub invariant-loop-i : goal.invariant-loop-i
invariant-loop-i l = first_bad (item_fault l.pool) l.side 0 (items_from l.words 0 l.i-end) ≡ first_bad (item_fault l.pool) l.side l.i (items_from l.words l.i (l.i-end - l.i))
