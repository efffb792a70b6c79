-- Which keys an item holds, by its boundaries: the table of document 01 read off the order of boundaries. Assumes nothing.
use Rattle.std.specs.Prelude.{Option, None, Some}
use Rattle.std.specs.declared.cmp.Ordering.{Ordering}
use Rattle.std.specs.declared.cmp.Ordering.TheVariants.{Less, Equal, Greater}
use Rattle.std.specs.Ordering.{is_lt, is_le, is_eq}
use Prim.Native.Nat.{ℕ}
use mathlib.Core.Path.{◌≡◌, refl, sym, ap, ◌∙◌}
use mathlib.Core.Bool.{◌&&◌, and-true}
use mathlib.Core.List.{List}
use Rattle.key_order.specs.Order.{compare_numbers, compare_keys, then_by}
use Rattle.key_order.specs.Boundary.{at_key, inclusive, exclusive_start, exclusive_end, compare_boundaries, between}
use Rattle.key_order.proofs.Numbers.{flip}
use Rattle.key_order.proofs.Laws.{compare_flip, compare_same}
use Rattle.query_item.specs.declared.QueryItem.{QueryItem}
use Rattle.query_item.specs.declared.QueryItem.TheVariants.{
  Key,
  Range,
  RangeInclusive,
  RangeFull,
  RangeFrom,
  RangeTo,
  RangeToInclusive,
  RangeAfter,
  RangeAfterTo,
  RangeAfterToInclusive,
}
use Rattle.query_item.specs.declared.RangeSetItem.{RangeSetItem}
use Rattle.query_item.specs.Items.{bytes_of, holds}
use Rattle.query_item.specs.Boundaries.{boundary_of, to_range_set, item_between}
use Rattle.query_item.proofs.Between.{each_between}

-- ---- at a tie of keys the kinds decide

pub tie_equal : (o : Ordering) → is_le (then_by o Equal) ≡ is_le o
tie_equal Less = refl
tie_equal Equal = refl
tie_equal Greater = refl

pub tie_greater : (o : Ordering) → is_le (then_by o Greater) ≡ is_lt o
tie_greater Less = refl
tie_greater Equal = refl
tie_greater Greater = refl

-- equal is at most both ways
both_ways : (o : Ordering) → is_eq o ≡ is_le (flip o) && is_le o
both_ways Less = refl
both_ways Equal = refl
both_ways Greater = refl

module _ (a k : List ℕ) where
  from_inclusive : is_le (compare_boundaries (at_key a inclusive) (at_key k inclusive)) ≡ is_le (compare_keys a k)
  unfolding compare_boundaries compare_numbers
  from_inclusive = tie_equal (compare_keys a k)

  from_exclusive : is_le (compare_boundaries (at_key a exclusive_start) (at_key k inclusive)) ≡ is_lt (compare_keys a k)
  unfolding compare_boundaries compare_numbers
  from_exclusive = tie_greater (compare_keys a k)

  to_inclusive : is_le (compare_boundaries (at_key k inclusive) (at_key a inclusive)) ≡ is_le (compare_keys k a)
  unfolding compare_boundaries compare_numbers
  to_inclusive = tie_equal (compare_keys k a)

  to_exclusive : is_le (compare_boundaries (at_key k inclusive) (at_key a exclusive_end)) ≡ is_lt (compare_keys k a)
  unfolding compare_boundaries compare_numbers
  to_exclusive = tie_greater (compare_keys k a)

-- ---- an item holds a key by the table exactly where the key lies between its boundaries

module _ (pool : List ℕ) where
  pub holds_between : (q : QueryItem) (k : List ℕ)
      → holds pool q k ≡ between (boundary_of pool (to_range_set q).start) (boundary_of pool (to_range_set q).end) k
  unfolding compare_boundaries
  holds_between (Key a) k =
      rw (from_inclusive (bytes_of pool a) k, to_inclusive (bytes_of pool a) k, compare_flip k (bytes_of pool a)) (both_ways (compare_keys k (bytes_of pool a)))
  holds_between (Range a b) k = rw (from_inclusive (bytes_of pool a) k, to_exclusive (bytes_of pool b) k)
  holds_between (RangeInclusive a b) k = rw (from_inclusive (bytes_of pool a) k, to_inclusive (bytes_of pool b) k)
  holds_between RangeFull k = refl
  holds_between (RangeFrom a) k = rw (from_inclusive (bytes_of pool a) k) (sym (and-true _))
  holds_between (RangeTo b) k = rw (to_exclusive (bytes_of pool b) k)
  holds_between (RangeToInclusive b) k = rw (to_inclusive (bytes_of pool b) k)
  holds_between (RangeAfter a) k = rw (from_exclusive (bytes_of pool a) k) (sym (and-true _))
  holds_between (RangeAfterTo a b) k = rw (from_exclusive (bytes_of pool a) k, to_exclusive (bytes_of pool b) k)
  holds_between (RangeAfterToInclusive a b) k = rw (from_exclusive (bytes_of pool a) k, to_inclusive (bytes_of pool b) k)

  -- ---- conversion back keeps the boundaries, by bytes

  abbrev pub Keeps : RangeSetItem → RangeSetItem → Option QueryItem → Type 0
  Keeps s e None = Unit {0}
  Keeps s e (Some q) = (boundary_of pool (to_range_set q).start ≡ boundary_of pool s) × (boundary_of pool (to_range_set q).end ≡ boundary_of pool e)

  pub item_keeps : (s e : RangeSetItem) → Keeps s e (item_between pool s e)
  item_keeps =
      each_between pool Keeps
      (λ a b h. (refl, ap (λ (x : List ℕ). at_key x inclusive) ((compare_same (bytes_of pool a) (bytes_of pool b)).0 h)))
      (λ q h. (refl, refl))
      (λ s e h. tt)

  -- so the item that two boundaries make holds what lies between them
  pub holds_converted : (s e : RangeSetItem) (q : QueryItem) (k : List ℕ) → item_between pool s e ≡ Some q
      → holds pool q k ≡ between (boundary_of pool s) (boundary_of pool e) k
  holds_converted s e q k h =
      let keeps : Keeps s e (Some q) = rw h at (item_keeps s e) in
      holds_between q k ∙ rw (keeps.0, keeps.1)
