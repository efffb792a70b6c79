-- The range of positions of an item, half-open; the nonempty ranges of items below a count; and the canonical pairs that these make.
-- Definitions only. Assumes nothing.
use Rattle.std.specs.Prelude.{ℕ, ◌+◌, min, List, [], ◌∷◌, ◌++◌, Ok, Err}
use Rattle.intervals.specs.Intervals.{Interval, piece}
use Rattle.intervals.specs.Cover.{cover_all}
use Rattle.query_item.specs.declared.ItemWords.{ItemWords}
use Rattle.query_item.specs.declared.RangeSet.{RangeSet}
use Rattle.query_item.specs.declared.RangeSetItem.{RangeSetItem}
use Rattle.query_item.specs.declared.RangeSetItem.TheVariants.{UnboundedStart, UnboundedEnd, Inclusive, ExclusiveStart, ExclusiveEnd}
use Rattle.query_item.specs.Items.{bytes_of}
use Rattle.query_item.specs.Boundaries.{range_of}
use Rattle.item_check.specs.Checks.{Answer}
use Rattle.position_given.specs.Inner.{last_word}
use Rattle.position_key.specs.Keys.{position_answer}

-- ---- the range of an item (01 m6.1, m6.3)

-- 01 slip.3: the position after one, where there is one; the last u64 stays
abbrev pub after_of : Answer ℕ → Answer ℕ
after_of (Ok p) = Ok (min (p + 1) last_word)
after_of (Err r) = Err r

-- the first position that a start lets in
abbrev pub first_of : List ℕ → RangeSetItem → Answer ℕ
first_of pool UnboundedStart = Ok 0
first_of pool UnboundedEnd = Ok last_word
first_of pool (Inclusive a) = position_answer (bytes_of pool a)
first_of pool (ExclusiveStart a) = after_of (position_answer (bytes_of pool a))
first_of pool (ExclusiveEnd a) = position_answer (bytes_of pool a)

-- the first position past an end
abbrev pub past_of : List ℕ → RangeSetItem → Answer ℕ
past_of pool UnboundedStart = Ok 0
past_of pool UnboundedEnd = Ok last_word
past_of pool (Inclusive b) = after_of (position_answer (bytes_of pool b))
past_of pool (ExclusiveStart b) = after_of (position_answer (bytes_of pool b))
past_of pool (ExclusiveEnd b) = position_answer (bytes_of pool b)

-- both, or the refusal of one
abbrev pub both_of : Answer ℕ → Answer ℕ → Answer Interval
both_of (Ok s) (Ok e) = Ok (s, e)
both_of (Ok s) (Err r) = Err r
both_of (Err r) e = Err r

abbrev pub range_answer : List ℕ → RangeSet → Answer Interval
range_answer pool set = both_of (first_of pool set.start) (past_of pool set.end)

-- 01 m6.3: p < count: clipped to the count; nothing where a key is no position
abbrev pub clip_to : ℕ → Answer Interval → Interval
clip_to count (Ok a) = (a.0, min a.1 count)
clip_to count (Err r) = (0, 0)

abbrev pub clipped : List ℕ → ℕ → ItemWords → Interval
clipped pool count it = clip_to count (range_answer pool (range_of it))

-- 01 m6.5: the nonempty clipped ranges of items, in the items' order
unfoldable pub ranges : List ℕ → ℕ → List ItemWords → List Interval
ranges pool count [] = []
ranges pool count (it ∷ its) = piece (clipped pool count it).0 (clipped pool count it).1 ++ ranges pool count its

-- 01 m6.4: the result: the canonical pairs of the ranges
abbrev pub covered_pairs : List ℕ → ℕ → List ItemWords → List Interval
covered_pairs pool count its = cover_all (ranges pool count its)
