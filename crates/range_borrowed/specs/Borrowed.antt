-- What a range is asked about a key: whether the key lies in it, whether it sits on an exclusive bound, and whether keys of the range may
-- stand in a direction of it. Definitions only. Assumes nothing.
use Rattle.std.specs.Ordering.{is_eq}
use Rattle.std.specs.Prelude.{ℕ, ◌≡◌, List, Bool, true, ◌||◌}
use Rattle.key_order.specs.Boundary.{Boundary, unbounded_start, unbounded_end, at_key, exclusive_start, exclusive_end, compare_boundaries, between}
use Rattle.query_item.specs.declared.RangeSet.{RangeSet}
use Rattle.query_item.specs.Items.{bytes_of, below}
use Rattle.query_item.specs.Boundaries.{kind_of, key_of}
use Rattle.boundary.specs.Kinds.{boundary}
use Rattle.range_borrowed.specs.declared.Direction.{Direction}
use Rattle.range_borrowed.specs.declared.Direction.TheVariants.{LeftOf, RightOf}
use Rattle.range_borrowed.specs.declared.KeyContainmentResult.{KeyContainmentResult}
use Rattle.range_borrowed.specs.declared.RangeSetBorrowed.{RangeSetBorrowed}
use Rattle.range_borrowed.specs.Kinds.{kind_number, kind_numbered}

-- 01 m2.7: the borrowed range keeps its two keys as lent bytes beside their kinds
abbrev pub lent : List ℕ → ℕ → Boundary
lent k kind = boundary (kind_numbered kind) k

abbrev pub lent_start : RangeSetBorrowed → Boundary
lent_start r = lent r.start.now r.start_kind

abbrev pub lent_end : RangeSetBorrowed → Boundary
lent_end r = lent r.end.now r.end_kind

-- 01 m2.7: a range as its two keys, of the pool, and the numbers of their kinds
abbrev pub Lends : List ℕ → RangeSet → RangeSetBorrowed → Type 0
Lends pool s r =
    (r.start.now ≡ bytes_of pool (key_of s.start))
    × (r.end.now ≡ bytes_of pool (key_of s.end))
    × (r.start_kind ≡ kind_number (kind_of s.start))
    × (r.end_kind ≡ kind_number (kind_of s.end))

-- 01 m2.3: whether the key sits on an exclusive bound: the start is ExclusiveStart, or the end ExclusiveEnd, at the key's bytes
abbrev pub on_exclusive_bound : Boundary → Boundary → List ℕ → Bool
on_exclusive_bound s e k = is_eq (compare_boundaries s (at_key k exclusive_start)) || is_eq (compare_boundaries (at_key k exclusive_end) e)

-- 01 m2.3: the key is held; it sits on an exclusive bound
abbrev pub result_of : Bool → Bool → KeyContainmentResult
result_of held on = record { included = held; on_bounds_not_included = on }

-- 01 m2.3: `could_contain_key` gives whether the key lies between the two boundaries, plus whether it sits on an exclusive bound
abbrev pub containment_between : Boundary → Boundary → List ℕ → KeyContainmentResult
containment_between s e k = result_of (between s e k) (on_exclusive_bound s e k)

-- 01 m2.4: left is yes when the start is unbounded or its bytes are below the key; right mirrors it

abbrev pub may_stand_left : Boundary → List ℕ → Bool
may_stand_left unbounded_start k = true
may_stand_left unbounded_end k = true
may_stand_left (at_key a i) k = below a k

abbrev pub may_stand_right : Boundary → List ℕ → Bool
may_stand_right unbounded_start k = true
may_stand_right unbounded_end k = true
may_stand_right (at_key b i) k = below k b

-- 01 m2.4: `could_have_items_in_direction` compares one bound
abbrev pub may_stand : Boundary → Boundary → List ℕ → Direction → Bool
may_stand s e k LeftOf = may_stand_left s k
may_stand s e k RightOf = may_stand_right e k
