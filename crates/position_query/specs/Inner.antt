-- What private functions require and promise: items that nothing is wrong with, their ranges, and building. No public call is
-- promised by these. Definitions only. It serves 01 m6.1, m6.3, m6.4. Assumes nothing.
use Rattle.std.specs.Prelude.{ℕ, ◌*◌, ◌≤◌, ◌≡◌, Bool, cond, not, ◌&&◌, List, length, drop, leb, eqb}
use Rattle.intervals.specs.Intervals.{Interval, holds}
use Rattle.query_item.specs.declared.KeyAt.{KeyAt}
use Rattle.query_item.specs.declared.ItemWords.{ItemWords}
use Rattle.item_check.specs.Checks.{Answer, has_start, has_end, nonzero, key_out, items_of}
use Rattle.pairs_sort.specs.Pairs.{pairs}
use Rattle.position_key.specs.Keys.{key_size}
use Rattle.position_query.specs.declared.query.PositionRange.{PositionRange}
use Rattle.position_query.specs.Covered.{room_verdict, Builds}
use Rattle.position_query.specs.Ranges.{ranges}

-- ---- items that nothing is wrong with

-- a key that an item has is a position in the pool; the words of one that it does not have are 0
abbrev pub is_good : List ℕ → Bool → KeyAt → Bool
is_good pool has k = cond has (eqb k.length key_size && not (key_out pool k)) (not (nonzero k))

abbrev pub is_clean : List ℕ → ItemWords → Bool
is_clean pool it =
    leb it.code 9 && eqb it.wrapper 0 && is_good pool (has_start it.code) it.start && is_good pool (has_end it.code) it.end

-- ---- the range of an item

abbrev pub range_pair : PositionRange → Interval
range_pair r = (r.start, r.end)

-- ---- building

-- ranges are the first pairs, and later words stay
pub record Wrote (A : List Interval) (old new : List ℕ) : Type 0 where
  pub front : pairs new (length A) ≡ A
  pub later : drop (2 * length A) new ≡ drop (2 * length A) old

-- where there is room for them
abbrev pub Writes : List Interval → List ℕ → List ℕ → Type 0
Writes A old new = 2 * length A ≤ length old → Wrote A old new

-- what `build` promises of items in terms of these ranges: nothing but the room is refused
abbrev pub Building : List ℕ → List ℕ → ℕ → List ℕ → List ℕ → Answer (ℕ × ℕ) → Type 0
Building pool ws count old new r =
    Builds (room_verdict (length (ranges pool count (items_of ws))) (length old)) (holds (ranges pool count (items_of ws)))
    (length (ranges pool count (items_of ws))) old new r
