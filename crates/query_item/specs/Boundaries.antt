-- Boundaries whose keys are parts of a pool: their order, `invert`, and both conversions. Definitions only. Assumes nothing.
use Rattle.std.specs.declared.cmp.Ordering.{Ordering}
use Rattle.std.specs.Ordering.{is_le}
use Rattle.std.specs.Prelude.{ℕ, List, Bool, cond, Option, None, Some}
use Rattle.key_order.specs.Boundary.{Boundary, compare_boundaries}
use Rattle.boundary.specs.declared.BoundaryKind.{BoundaryKind}
use Rattle.boundary.specs.declared.BoundaryKind.TheVariants as kind
use Rattle.boundary.specs.Kinds.{boundary, invert_kind}
use Rattle.query_item.specs.declared.KeyAt.{KeyAt}
use Rattle.query_item.specs.declared.ItemWords.{ItemWords}
use Rattle.query_item.specs.declared.QueryItem.{QueryItem}
use Rattle.query_item.specs.declared.QueryItem.TheVariants.{
  Key,
  Range,
  RangeInclusive,
  RangeFull,
  RangeFrom,
  RangeTo,
  RangeToInclusive,
  RangeAfter,
  RangeAfterTo,
  RangeAfterToInclusive,
}
use Rattle.query_item.specs.declared.RangeSetItem.{RangeSetItem}
use Rattle.query_item.specs.declared.RangeSetItem.TheVariants.{UnboundedStart, UnboundedEnd, Inclusive, ExclusiveStart, ExclusiveEnd}
use Rattle.query_item.specs.declared.RangeSet.{RangeSet}
use Rattle.query_item.specs.Items.{bytes_of, absent, same, query_item, item_at}

-- 01 change.1: a boundary of a pool as its kind and its key
abbrev pub kind_of : RangeSetItem → BoundaryKind
kind_of UnboundedStart = kind.UnboundedStart
kind_of UnboundedEnd = kind.UnboundedEnd
kind_of (Inclusive k) = kind.Inclusive
kind_of (ExclusiveStart k) = kind.ExclusiveStart
kind_of (ExclusiveEnd k) = kind.ExclusiveEnd

abbrev pub key_of : RangeSetItem → KeyAt
key_of UnboundedStart = absent
key_of UnboundedEnd = absent
key_of (Inclusive k) = k
key_of (ExclusiveStart k) = k
key_of (ExclusiveEnd k) = k

abbrev pub boundary_of : List ℕ → RangeSetItem → Boundary
boundary_of pool x = boundary (kind_of x) (bytes_of pool (key_of x))

-- 01 keys.7, keys.8: the order of boundaries, of those of a pool
abbrev pub compare_in : List ℕ → RangeSetItem → RangeSetItem → Ordering
compare_in pool x y = compare_boundaries (boundary_of pool x) (boundary_of pool y)

-- 01 m2.2: the boundary of a kind and a key of the pool
abbrev pub with_key : BoundaryKind → KeyAt → RangeSetItem
with_key kind.UnboundedStart k = UnboundedStart
with_key kind.UnboundedEnd k = UnboundedEnd
with_key kind.Inclusive k = Inclusive k
with_key kind.ExclusiveStart k = ExclusiveStart k
with_key kind.ExclusiveEnd k = ExclusiveEnd k

abbrev pub invert_of : RangeSetItem → Bool → RangeSetItem
invert_of x side = with_key (invert_kind (kind_of x) side) (key_of x)

-- ---- conversions (01 m2.1)

abbrev pub from_to : RangeSetItem → RangeSetItem → RangeSet
from_to s e = record { start = s; end = e }

-- 01 m2.1: an item as its two boundaries
abbrev pub to_range_set : QueryItem → RangeSet
to_range_set (Key a) = from_to (Inclusive a) (Inclusive a)
to_range_set (Range a b) = from_to (Inclusive a) (ExclusiveEnd b)
to_range_set (RangeInclusive a b) = from_to (Inclusive a) (Inclusive b)
to_range_set RangeFull = from_to UnboundedStart UnboundedEnd
to_range_set (RangeFrom a) = from_to (Inclusive a) UnboundedEnd
to_range_set (RangeTo b) = from_to UnboundedStart (ExclusiveEnd b)
to_range_set (RangeToInclusive b) = from_to UnboundedStart (Inclusive b)
to_range_set (RangeAfter a) = from_to (ExclusiveStart a) UnboundedEnd
to_range_set (RangeAfterTo a b) = from_to (ExclusiveStart a) (ExclusiveEnd b)
to_range_set (RangeAfterToInclusive a b) = from_to (ExclusiveStart a) (Inclusive b)

-- 01 m2.1, m3.7: of the item of six words, and of that at an index
abbrev pub range_of : ItemWords → RangeSet
range_of it = to_range_set (query_item it)

abbrev pub set_at : List ℕ → ℕ → RangeSet
set_at ws i = range_of (item_at ws i)

-- 01 keys.12: the item of the two boundaries, or "no item" where the table has none;
-- inclusive a to inclusive a, by bytes, is Key a with the start's offset
abbrev pub item_between : List ℕ → RangeSetItem → RangeSetItem → Option QueryItem
item_between pool (Inclusive a) (Inclusive b) = cond (same (bytes_of pool a) (bytes_of pool b)) (Some (Key a)) (Some (RangeInclusive a b))
item_between pool (Inclusive a) (ExclusiveEnd b) = Some (Range a b)
item_between pool (Inclusive a) UnboundedEnd = Some (RangeFrom a)
item_between pool (Inclusive a) UnboundedStart = None
item_between pool (Inclusive a) (ExclusiveStart b) = None
item_between pool (ExclusiveStart a) (Inclusive b) = Some (RangeAfterToInclusive a b)
item_between pool (ExclusiveStart a) (ExclusiveEnd b) = Some (RangeAfterTo a b)
item_between pool (ExclusiveStart a) UnboundedEnd = Some (RangeAfter a)
item_between pool (ExclusiveStart a) UnboundedStart = None
item_between pool (ExclusiveStart a) (ExclusiveStart b) = None
item_between pool UnboundedStart (Inclusive b) = Some (RangeToInclusive b)
item_between pool UnboundedStart (ExclusiveEnd b) = Some (RangeTo b)
item_between pool UnboundedStart UnboundedEnd = Some RangeFull
item_between pool UnboundedStart UnboundedStart = None
item_between pool UnboundedStart (ExclusiveStart b) = None
item_between pool UnboundedEnd e = None
item_between pool (ExclusiveEnd a) e = None

abbrev pub to_query_item : List ℕ → RangeSet → Option QueryItem
to_query_item pool s = item_between pool s.start s.end

-- 01 keys.9: an item is upright when its start is not above its end
abbrev pub upright : List ℕ → RangeSet → Bool
upright pool s = is_le (compare_in pool s.start s.end)
