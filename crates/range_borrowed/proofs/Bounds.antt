-- A bound and a key, by one comparison: neighbours in the order of boundaries have none between them. Assumes nothing.
use Rattle.std.specs.declared.cmp.Ordering.{Ordering}
use Rattle.std.specs.declared.cmp.Ordering.TheVariants.{Less, Equal, Greater}
use Rattle.std.specs.Ordering.{is_lt, is_le}
use Prim.Native.Nat.{ℕ, zero, suc}
use mathlib.Core.Path.{◌≡◌, refl}
use mathlib.Core.Bool.{◌||◌}
use mathlib.Core.List.{List}
use native.Mathlib.Omega.{arith}
use lib.Dec.{ltb}
use borrow.Author.Tests.{le-ltb, ne_eqb}
use Rattle.key_order.specs.Order.{compare_numbers, compare_keys, then_by}
use Rattle.key_order.specs.Boundary.{Boundary, unbounded_start, unbounded_end, at_key, exclusive_end, inclusive, exclusive_start, compare_boundaries}
use Rattle.boundary.specs.declared.BoundaryKind.{BoundaryKind}
use Rattle.boundary.specs.declared.BoundaryKind.TheVariants as kind
use Rattle.query_item.specs.declared.RangeSetItem.{RangeSetItem}
use Rattle.query_item.specs.Items.{bytes_of, below}
use Rattle.query_item.specs.Boundaries.{kind_of, key_of, boundary_of}
use Rattle.range_borrowed.specs.Kinds.{kind_number, kind_numbered}
use Rattle.range_borrowed.specs.Borrowed.{lent, may_stand_left, may_stand_right}

-- the kind of a kind's number is that kind
pub kind_of_number : (k : BoundaryKind) → kind_numbered (kind_number k) ≡ k
kind_of_number kind.UnboundedStart = refl
kind_of_number kind.UnboundedEnd = refl
kind_of_number kind.Inclusive = refl
kind_of_number kind.ExclusiveStart = refl
kind_of_number kind.ExclusiveEnd = refl

-- bytes and a kind's number of a boundary of a pool give that boundary
pub lent_boundary : (pool : List ℕ) (x : RangeSetItem) {k : List ℕ} {n : ℕ}
    → k ≡ bytes_of pool (key_of x) → n ≡ kind_number (kind_of x) → lent k n ≡ boundary_of pool x
lent_boundary pool x p q = rw (p, q, kind_of_number (kind_of x))

-- ---- what a tie of keys gives

less_at_most : (o : Ordering) → is_lt (then_by o Less) ≡ is_le (then_by o Less)
less_at_most Less = refl
less_at_most Equal = refl
less_at_most Greater = refl

less_equal : (o : Ordering) → is_lt (then_by o Less) ≡ is_le (then_by o Equal)
less_equal Less = refl
less_equal Equal = refl
less_equal Greater = refl

equal_greater : (o : Ordering) → is_lt (then_by o Equal) ≡ is_le (then_by o Greater)
equal_greater Less = refl
equal_greater Equal = refl
equal_greater Greater = refl

-- a start is not above a key where it is below the exclusive start at that key
pub start_below : (s : Boundary) (k : List ℕ)
    → is_lt (compare_boundaries s (at_key k exclusive_start)) ≡ is_le (compare_boundaries s (at_key k inclusive))
unfolding compare_boundaries compare_numbers
start_below unbounded_start k = refl
start_below unbounded_end k = refl
start_below (at_key a exclusive_end) k = less_at_most (compare_keys a k)
start_below (at_key a inclusive) k = less_equal (compare_keys a k)
start_below (at_key a exclusive_start) k = equal_greater (compare_keys a k)

-- a key is not above an end where the exclusive end at that key is below it
pub end_above : (e : Boundary) (k : List ℕ)
    → is_lt (compare_boundaries (at_key k exclusive_end) e) ≡ is_le (compare_boundaries (at_key k inclusive) e)
unfolding compare_boundaries compare_numbers
end_above unbounded_start k = refl
end_above unbounded_end k = refl
end_above (at_key b exclusive_end) k = equal_greater (compare_keys k b)
end_above (at_key b inclusive) k = less_equal (compare_keys k b)
end_above (at_key b exclusive_start) k = less_at_most (compare_keys k b)

-- ---- the unbounded kinds are those below 2

-- a number above 3 is read as ExclusiveEnd
above_three : (n : ℕ) → kind_numbered (suc (suc (suc (suc n)))) ≡ kind.ExclusiveEnd
above_three n =
    let m = suc (suc (suc (suc n))) in
    rw (ne_eqb m 0 (omega arith), ne_eqb m 1 (omega arith), ne_eqb m 2 (omega arith), ne_eqb m 3 (omega arith))

pub left_unbounded : (s : List ℕ) (n : ℕ) (k : List ℕ) → ltb n 2 || below s k ≡ may_stand_left (lent s n) k
left_unbounded s zero k = refl
left_unbounded s (suc zero) k = refl
left_unbounded s (suc (suc zero)) k = refl
left_unbounded s (suc (suc (suc zero))) k = refl
left_unbounded s (suc (suc (suc (suc n)))) k = rw (le-ltb (suc (suc (suc (suc n)))) 2 (omega arith), above_three n)

pub right_unbounded : (e : List ℕ) (n : ℕ) (k : List ℕ) → ltb n 2 || below k e ≡ may_stand_right (lent e n) k
right_unbounded e zero k = refl
right_unbounded e (suc zero) k = refl
right_unbounded e (suc (suc zero)) k = refl
right_unbounded e (suc (suc (suc zero))) k = refl
right_unbounded e (suc (suc (suc (suc n)))) k = rw (le-ltb (suc (suc (suc (suc n)))) 2 (omega arith), above_three n)
