-- Section 2 of document 02: ranges that hold no key, told by their two boundaries. Definitions only. Assumes nothing.
use Rattle.query_item.specs.declared.QueryItem.{QueryItem}
use Rattle.std.specs.Ordering.{is_eq}
use Rattle.std.specs.Prelude.{ℕ, List, [], ◌∷◌, ◌++◌, Bool, false, cond, not, Option, None}
use Rattle.key_order.specs.Order.{compare_keys}
use Rattle.key_order.specs.Boundary.{exclusive_end, inclusive, exclusive_start, Boundary, unbounded_start, unbounded_end, at_key}
use Rattle.intervals.specs.Lists.{keep}
use Rattle.query_item.specs.declared.RangeSet.{RangeSet}
use Rattle.query_item.specs.Boundaries.{boundary_of, to_query_item}

-- 02 §2.2: a key with one zero byte more
abbrev pub next_key : List ℕ → List ℕ
next_key k = k ++ (0 ∷ [])

-- 02 §2.2: an end that is open at a key
abbrev pub opens_at : List ℕ → Boundary → Bool
opens_at k unbounded_start = false
opens_at k unbounded_end = false
opens_at k (at_key b exclusive_end) = is_eq (compare_keys k b)
opens_at k (at_key b inclusive) = false
opens_at k (at_key b exclusive_start) = false

-- 02 §2.2: just two kinds: what is below the empty key, and what is open from a key to the same one with a zero byte more
abbrev pub keyless_between : Boundary → Boundary → Bool
keyless_between unbounded_start e = opens_at [] e
keyless_between unbounded_end e = false
keyless_between (at_key a exclusive_end) e = false
keyless_between (at_key a inclusive) e = false
keyless_between (at_key a exclusive_start) e = opens_at (next_key a) e

-- 02 §2.2: the same of a range of a pool
unfoldable pub keyless : List ℕ → RangeSet → Bool
keyless pool s = keyless_between (boundary_of pool s.start) (boundary_of pool s.end)

-- 02 §2.2: of a range that is of neither kind, a key that it holds: the first at or past its start
abbrev pub first_key : Boundary → List ℕ
first_key unbounded_start = []
first_key unbounded_end = []
first_key (at_key a exclusive_end) = a
first_key (at_key a inclusive) = a
first_key (at_key a exclusive_start) = next_key a

abbrev pub first_of : List ℕ → RangeSet → List ℕ
first_of pool s = first_key (boundary_of pool s.start)

-- 02 §2.1: no such piece may stand in a result list: a list's ranges, without these
abbrev pub keyed : List ℕ → List RangeSet → List RangeSet
keyed pool S = keep (λ s. not (keyless pool s)) S

-- ---- no promise of a public call cites this

-- 02 §2.1: the item of one piece of a result list, none where it holds no key
abbrev pub piece_item : List ℕ → RangeSet → Option QueryItem
piece_item pool s = cond (keyless pool s) None (to_query_item pool s)
