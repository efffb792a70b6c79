-- The table's answers about a key are those of the item's boundaries, which the borrowed range gives. Assumes nothing.
use Rattle.std.specs.declared.cmp.Ordering.{Ordering}
use Rattle.std.specs.declared.cmp.Ordering.TheVariants.{Less, Equal, Greater}
use Rattle.std.specs.Ordering.{is_eq}
use Prim.Native.Nat.{ℕ}
use mathlib.Core.Path.{◌≡◌, refl, sym, ap₂}
use mathlib.Core.Bool.{false, or-false}
use mathlib.Core.List.{List}
use Rattle.key_order.specs.Order.{compare_numbers, compare_keys, then_by}
use Rattle.key_order.specs.Boundary.{at_key, inclusive, exclusive_start, exclusive_end, compare_boundaries}
use Rattle.query_item.specs.declared.QueryItem.{QueryItem}
use Rattle.query_item.specs.declared.QueryItem.TheVariants.{
  Key,
  Range,
  RangeInclusive,
  RangeFull,
  RangeFrom,
  RangeTo,
  RangeToInclusive,
  RangeAfter,
  RangeAfterTo,
  RangeAfterToInclusive,
}
use Rattle.query_item.specs.Items.{bytes_of, same}
use Rattle.query_item.specs.Boundaries.{boundary_of, to_range_set}
use Rattle.query_item.proofs.Held.{holds_between}
use Rattle.range_borrowed.specs.Borrowed.{on_exclusive_bound, result_of, containment_between}
use Rattle.item_ask.specs.Asked.{on_exclusive, containment}

-- ---- at a tie of keys the kinds decide

tie_less : (o : Ordering) → is_eq (then_by o Less) ≡ false
tie_less Less = refl
tie_less Equal = refl
tie_less Greater = refl

tie_equal : (o : Ordering) → is_eq (then_by o Equal) ≡ is_eq o
tie_equal Less = refl
tie_equal Equal = refl
tie_equal Greater = refl

module _ (a k : List ℕ) where
  off_start : is_eq (compare_boundaries (at_key a inclusive) (at_key k exclusive_start)) ≡ false
  unfolding compare_boundaries compare_numbers
  off_start = tie_less (compare_keys a k)

  on_start : is_eq (compare_boundaries (at_key a exclusive_start) (at_key k exclusive_start)) ≡ same a k
  unfolding compare_boundaries compare_numbers
  on_start = tie_equal (compare_keys a k)

  off_end : is_eq (compare_boundaries (at_key k exclusive_end) (at_key a inclusive)) ≡ false
  unfolding compare_boundaries compare_numbers
  off_end = tie_less (compare_keys k a)

  on_end : is_eq (compare_boundaries (at_key k exclusive_end) (at_key a exclusive_end)) ≡ same k a
  unfolding compare_boundaries compare_numbers
  on_end = tie_equal (compare_keys k a)

module _ (pool : List ℕ) where
  on_exclusive_bound_lem : (q : QueryItem) (k : List ℕ)
      → on_exclusive pool q k ≡ on_exclusive_bound (boundary_of pool (to_range_set q).start) (boundary_of pool (to_range_set q).end) k
  unfolding compare_boundaries
  on_exclusive_bound_lem (Key a) k = rw (off_start (bytes_of pool a) k, off_end (bytes_of pool a) k)
  on_exclusive_bound_lem (Range a b) k = rw (off_start (bytes_of pool a) k, on_end (bytes_of pool b) k)
  on_exclusive_bound_lem (RangeInclusive a b) k = rw (off_start (bytes_of pool a) k, off_end (bytes_of pool b) k)
  on_exclusive_bound_lem RangeFull k = refl
  on_exclusive_bound_lem (RangeFrom a) k = rw (off_start (bytes_of pool a) k)
  on_exclusive_bound_lem (RangeTo b) k = rw (on_end (bytes_of pool b) k)
  on_exclusive_bound_lem (RangeToInclusive b) k = rw (off_end (bytes_of pool b) k)
  on_exclusive_bound_lem (RangeAfter a) k = rw (on_start (bytes_of pool a) k) (sym (or-false _))
  on_exclusive_bound_lem (RangeAfterTo a b) k = rw (on_start (bytes_of pool a) k, on_end (bytes_of pool b) k)
  on_exclusive_bound_lem (RangeAfterToInclusive a b) k = rw (on_start (bytes_of pool a) k, off_end (bytes_of pool b) k) (sym (or-false _))

  pub containment_between_lem : (q : QueryItem) (k : List ℕ)
      → containment pool q k ≡ containment_between (boundary_of pool (to_range_set q).start) (boundary_of pool (to_range_set q).end) k
  containment_between_lem q k = ap₂ result_of (holds_between pool q k) (on_exclusive_bound_lem q k)
