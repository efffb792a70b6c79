-- `item_check::check_strict` meets its contract: the invariant: the verdict of the list is that of the items left at `i`, after one that
-- ends at `end`. Assumes nothing.
use Prim.Native.Nat.{◌-◌}
use mathlib.Core.Path.{◌≡◌}
use Rattle.query_item.specs.Items.{items_from}
use Rattle.item_check.specs.Checks.{first_break, strict_verdict}
use Rattle.item_check.proofs.check_strict.Given as goal

abbrev pub invariant-loop-i : goal.invariant-loop-i
invariant-loop-i l = strict_verdict l.pool l.side (items_from l.words 0 l.count) ≡ first_break l.pool l.side l.i l.end (items_from l.words l.i (l.count - l.i))
