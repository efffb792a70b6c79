-- `sheet_write::put_rows` meets its contract. The invariant (`Writes`): what the items leave in the bytes is what the items left at i leave from
-- here on. Assumes nothing.
use Prim.Native.Nat.{◌/◌}
use lib.ListN.{length}
use Rattle.query_item.specs.Items.{item_size}
use Rattle.sheet_write.proofs.Rows.{Writes}
use Rattle.sheet_write.proofs.put_rows.Given as goal

abbrev pub invariant-loop-i : goal.invariant-loop-i
invariant-loop-i l = Writes l.pool l.words (length l.words / item_size) l.initial.out l.out l.at l.i
