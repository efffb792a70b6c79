-- Module 3 of document 01: what two ranges share, and what is left over of each. Definitions only. Assumes nothing.
use Rattle.query_item.specs.declared.QueryItem.{QueryItem}
use Rattle.std.specs.Ordering.{is_lt}
use Rattle.std.specs.Prelude.{ℕ, List, [], ◌∷◌, Bool, false, true, cond, ◌||◌, Option, None, Ok, Some}
use Rattle.key_order.specs.Order.{smaller}
use Rattle.query_item.specs.declared.ItemWords.{ItemWords}
use Rattle.query_item.specs.declared.RangeSetItem.{RangeSetItem}
use Rattle.query_item.specs.declared.RangeSet.{RangeSet}
use Rattle.query_item.specs.Boundaries.{compare_in, invert_of, from_to, range_of, to_query_item}
use Rattle.item_check.specs.Checks.{Answer, Verdict, and_then, fault_at, upright_fault, pool_verdict}
use Rattle.intersect.specs.declared.QueryItemIntersectionResult.{QueryItemIntersectionResult}

-- 01 m3.1: a's end is below b's start
abbrev pub before : List ℕ → RangeSet → RangeSet → Bool
before pool a b = is_lt (compare_in pool a.end b.start)

-- 01 m3.1: disjoint when one end is below the other start
abbrev pub disjoint : List ℕ → RangeSet → RangeSet → Bool
disjoint pool a b = before pool a b || before pool b a

-- 01 m3.2, m3.5: from the larger start to the smaller end; on equal boundaries the start takes our offset, the end theirs

abbrev pub larger_start : List ℕ → RangeSet → RangeSet → RangeSetItem
larger_start pool a b = smaller (compare_in pool a.start b.start) b.start a.start

abbrev pub smaller_end : List ℕ → RangeSet → RangeSet → RangeSetItem
smaller_end pool a b = smaller (compare_in pool a.end b.end) a.end b.end

abbrev pub overlap : List ℕ → RangeSet → RangeSet → RangeSet
overlap pool a b = from_to (larger_start pool a b) (smaller_end pool a b)

-- 01 m3.1, m3.2: nothing is shared where the two are disjoint, else the overlap
unfoldable pub meet_sets : List ℕ → RangeSet → RangeSet → List RangeSet
meet_sets pool a b = cond (disjoint pool a b) [] (overlap pool a b ∷ [])

-- 01 m3.1, m3.3: a's left leftover: the whole where a stands before b, none where it stands past b, else from the smaller start, if that is
-- a's, to the larger start inverted
abbrev pub left_part : List ℕ → RangeSet → RangeSet → List RangeSet
left_part pool a b = cond (is_lt (compare_in pool a.start b.start)) (from_to a.start (invert_of b.start false) ∷ []) []

unfoldable pub left_over : List ℕ → RangeSet → RangeSet → List RangeSet
left_over pool a b = cond (before pool a b) (a ∷ []) (cond (before pool b a) [] (left_part pool a b))

-- 01 m3.1, m3.4: a's right leftover: the whole where a stands past b, none where it stands before b, else from the smaller end inverted to the
-- larger end, if that is a's
abbrev pub right_part : List ℕ → RangeSet → RangeSet → List RangeSet
right_part pool a b = cond (is_lt (compare_in pool b.end a.end)) (from_to (invert_of b.end true) a.end ∷ []) []

unfoldable pub right_over : List ℕ → RangeSet → RangeSet → List RangeSet
right_over pool a b = cond (before pool a b) [] (cond (before pool b a) (a ∷ []) (right_part pool a b))

-- ---- converted

-- 01 change.2: a range that may be missing, as a list of at most one
abbrev pub as_sets : Option RangeSet → List RangeSet
as_sets None = []
as_sets (Some s) = s ∷ []

-- 01 m3.6: the first of a list, converted
abbrev pub converted : List ℕ → List RangeSet → Option QueryItem
converted pool [] = None
converted pool (s ∷ S) = to_query_item pool s

-- 01 m3.6: shared part and leftovers, whole ones too, are converted items; theirs are ours with sides exchanged
abbrev pub intersection : List ℕ → RangeSet → RangeSet → QueryItemIntersectionResult
intersection pool a b =
    record {
      in_both = converted pool (meet_sets pool a b);
      ours_left = converted pool (left_over pool a b);
      ours_right = converted pool (right_over pool a b);
      theirs_left = converted pool (left_over pool b a);
      theirs_right = converted pool (right_over pool b a);
    }

-- ---- the call on two items: the pool, then 1, 2, 3 of ours (side 0), then of theirs (side 1); wrappers are read through (01 refusal.6, m3.7)

abbrev pub two_verdict : ℕ → ℕ → Verdict
two_verdict ours theirs = and_then (fault_at ours 0 0) (fault_at theirs 1 0)

abbrev pub pair_verdict : List ℕ → ItemWords → ItemWords → Verdict
pair_verdict pool ours theirs = and_then (pool_verdict pool) (two_verdict (upright_fault pool ours) (upright_fault pool theirs))

abbrev pub pair_answer : List ℕ → ItemWords → ItemWords → Answer QueryItemIntersectionResult
pair_answer pool ours theirs = and_then (pair_verdict pool ours theirs) (Ok (intersection pool (range_of ours) (range_of theirs)))
