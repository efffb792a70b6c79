-- `insert_merge::find_merged` meets its contract: the result and how many items stay. The invariant: what the whole list comes to is what
-- the rest comes to from the result so far, and all that stay are those counted and those left.
-- Assumes nothing.
use Prim.Native.Nat.{◌+◌, ◌-◌, ◌≤◌}
use mathlib.Core.Path.{◌≡◌}
use lib.ListN.{length}
use Rattle.query_item.specs.Items.{items_from}
use Rattle.insert_merge.specs.Merge.{staying, merged_with}
use Rattle.insert_merge.proofs.find_merged.Given as goal

abbrev pub invariant-loop-i : goal.invariant-loop-i
invariant-loop-i l = (l.stay ≤ l.i)
    × (merged_with l.pool l.item l.item (items_from l.words l.from (l.to - l.from)) ≡ merged_with l.pool l.item l.result (items_from l.words l.i (l.to - l.i)))
    × (length (staying l.pool l.item (items_from l.words l.from (l.to - l.from))) ≡ l.stay + length (staying l.pool l.item (items_from l.words l.i (l.to - l.i))))
