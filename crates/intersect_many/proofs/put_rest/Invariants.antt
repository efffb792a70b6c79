-- `intersect_many::put_rest` meets its contract: the invariant: what is left of the list from `k` on is still to be written at `m`. Assumes nothing.
use Prim.Native.Nat.{◌+◌, ◌≤◌}
use Rattle.item_lists.proofs.Written.{Left}
use Rattle.intersect_many.specs.Lists.{keyed_items}
use Rattle.intersect_many.specs.Sweep.{sets_left, most_pieces}
use Rattle.intersect_many.proofs.put_rest.Given as goal

abbrev pub invariant-loop-k : goal.invariant-loop-k
invariant-loop-k l = (l.m + l.count ≤ most_pieces + l.k)
    × (Left (keyed_items l.pool (sets_left l.words (l.i + 1))) l.initial.out l.initial.m l.out l.m (keyed_items l.pool (sets_left l.words l.k)))
