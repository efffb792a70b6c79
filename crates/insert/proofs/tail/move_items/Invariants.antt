-- `insert::tail::move_items` meets its contract: what stays and the result stand in their places. The invariant (`Moving`): i items are
-- read and no more are written, the words from item i on stand as they were, and what is written, the item in hand and what is left make up
-- the list. The loop ends where the rest moves up by one place as it stands, or where all are read.
-- Assumes nothing.
use Rattle.query_item.specs.Items.{items_from}
use Rattle.insert_merge.specs.Merge.{staying}
use Rattle.insert.specs.Insertion.{placed}
use Rattle.insert.proofs.Moves.{Moving}
use Rattle.insert.proofs.tail.move_items.Given as goal

abbrev pub invariant-loop-i : goal.invariant-loop-i
invariant-loop-i l = Moving l.pool l.initial.tail l.count l.item (placed l.pool l.initial.hand (staying l.pool l.item (items_from l.initial.tail 0 l.count))) l.tail l.hand l.is_placed l.to l.i
