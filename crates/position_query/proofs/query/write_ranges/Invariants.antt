-- `write_ranges` meets its contract. The invariant is `Counted`: k ranges are counted, and where there is room for all, they stand as the first pairs
-- and the others are still to come. Assumes nothing.
use Prim.Native.Nat.{◌/◌}
use lib.ListN.{length}
use Rattle.query_item.specs.Items.{item_size}
use Rattle.position_query.proofs.Builds.{Counted}
use Rattle.position_query.proofs.query.write_ranges.Given as goal

abbrev pub invariant-loop-i : goal.invariant-loop-i
invariant-loop-i l = Counted l.pool l.count l.items l.initial.out l.out (length l.items / item_size) l.k l.i
