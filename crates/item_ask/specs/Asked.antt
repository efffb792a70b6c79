-- What an item is asked about a key: whether it holds it, whether the key sits on an exclusive bound, and whether keys that it holds may
-- stand in a direction. Definitions only. Assumes nothing.
use Rattle.std.specs.Prelude.{ℕ, List, Bool, false, ◌||◌}
use Rattle.query_item.specs.declared.QueryItem.{QueryItem}
use Rattle.query_item.specs.declared.QueryItem.TheVariants.{
  Key,
  Range,
  RangeInclusive,
  RangeFull,
  RangeFrom,
  RangeTo,
  RangeToInclusive,
  RangeAfter,
  RangeAfterTo,
  RangeAfterToInclusive,
}
use Rattle.query_item.specs.Items.{bytes_of, same, holds}
use Rattle.query_item.specs.Boundaries.{boundary_of, to_range_set}
use Rattle.range_borrowed.specs.declared.Direction.{Direction}
use Rattle.range_borrowed.specs.declared.KeyContainmentResult.{KeyContainmentResult}
use Rattle.range_borrowed.specs.Borrowed.{result_of, may_stand}

-- 01 m2.3: whether the key sits on an exclusive bound
abbrev pub on_exclusive : List ℕ → QueryItem → List ℕ → Bool
on_exclusive pool (Key a) k = false
on_exclusive pool (Range a b) k = same k (bytes_of pool b)
on_exclusive pool (RangeInclusive a b) k = false
on_exclusive pool RangeFull k = false
on_exclusive pool (RangeFrom a) k = false
on_exclusive pool (RangeTo b) k = same k (bytes_of pool b)
on_exclusive pool (RangeToInclusive b) k = false
on_exclusive pool (RangeAfter a) k = same (bytes_of pool a) k
on_exclusive pool (RangeAfterTo a b) k = same (bytes_of pool a) k || same k (bytes_of pool b)
on_exclusive pool (RangeAfterToInclusive a b) k = same (bytes_of pool a) k

-- 01 m2.3: `could_contain_key` gives the table, plus whether the key sits on an exclusive bound
abbrev pub containment : List ℕ → QueryItem → List ℕ → KeyContainmentResult
containment pool q k = result_of (holds pool q k) (on_exclusive pool q k)

-- 01 m2.4: whether keys that an item holds may stand in a direction of a key
abbrev pub in_direction : List ℕ → QueryItem → List ℕ → Direction → Bool
in_direction pool q k d = may_stand (boundary_of pool (to_range_set q).start) (boundary_of pool (to_range_set q).end) k d
