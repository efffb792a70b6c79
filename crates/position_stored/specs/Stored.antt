-- A stored list: the first count pairs of a buffer, and beside it how many rows they cover. Its checks, what the calls answer, and the words that
-- they leave. What a list is in which a range is covered or uncovered, `cover` and `uncover` of `intervals` say. Definitions only. Assumes nothing.
use Rattle.std.specs.Prelude.{ℕ, ◌-◌, ◌*◌, ◌/◌, max, cond, List, ◌++◌, length, drop, replicate, ltb, eqb, Ok}
use Rattle.intervals.specs.Intervals.{Interval}
use Rattle.intervals.specs.Cover.{cover, uncover}
use Rattle.item_check.specs.Checks.{Answer, refused, Verdict, accepted, and_then, words_by}
use Rattle.pairs_sort.specs.Pairs.{pairs, flat_pairs}
use Rattle.position_given.specs.Given.{canonical_verdict}
use Rattle.position_given.specs.Positions.{rows_of}

-- ---- the checks

-- 01 no.1, refusal.2, refusal.5: the count passes the whole pairs of the buffer: side 0, index 0
abbrev pub count_verdict : List ℕ → ℕ → Verdict
count_verdict ws count = cond (ltb (length ws / 2) count) (refused 1 0 0) accepted

-- 02 §4.10: 9 also for a wrong stored total, index the number of pairs
abbrev pub total_verdict : List Interval → ℕ → ℕ → Verdict
total_verdict A count total = cond (eqb (rows_of A) total) accepted (refused 9 0 count)

-- 02 §4.10, 01 no.9: after the pairs; reading B8: before "a start not below its end changes nothing"
abbrev pub stored_verdict : List ℕ → ℕ → ℕ → Verdict
stored_verdict ws count total =
    and_then (count_verdict ws count) (and_then (canonical_verdict (pairs ws count)) (total_verdict (pairs ws count) count total))

-- 02 §4.6: whoever reads the stored total gets what counting afresh gives
abbrev pub total_answer : List ℕ → ℕ → ℕ → Answer ℕ
total_answer ws count total = and_then (stored_verdict ws count total) (Ok (rows_of (pairs ws count)))

-- ---- the words

-- 02 §4.8: the words of the new list; freed words up to the old count become 0, later ones stay
unfoldable pub laid : List ℕ → ℕ → List Interval → List ℕ
laid ws count A = flat_pairs A ++ (replicate (2 * (count - length A)) 0 ++ drop (2 * max count (length A)) ws)

-- ---- the changes: the answers are the new number of pairs and the new total

-- 02 §4.11, §4.4: 6 exactly if the new canonical list does not fit, reading B9: it alone counts; else its number of pairs and its rows
abbrev pub list_answer : List ℕ → List Interval → Answer (ℕ × ℕ)
list_answer ws A = cond (ltb (length ws / 2) (length A)) (refused 6 0 0) (Ok (length A, rows_of A))

-- 02 §4.8: the words of a checked list that becomes A, where there is room
abbrev pub list_words : List ℕ → ℕ → List Interval → List ℕ
list_words ws count A = words_by (list_answer ws A) ws (laid ws count A)

-- 02 §4.4, §4.8, 01 demand.1: a list that becomes A: the answer, and every word

abbrev pub change_answer : List ℕ → ℕ → ℕ → List Interval → Answer (ℕ × ℕ)
change_answer ws count total A = and_then (stored_verdict ws count total) (list_answer ws A)

abbrev pub change_words : List ℕ → ℕ → ℕ → List Interval → List ℕ
change_words ws count total A = words_by (change_answer ws count total A) ws (laid ws count A)

-- 02 §4.2: cover one more half-open range

abbrev pub cover_answer : List ℕ → ℕ → ℕ → ℕ → ℕ → Answer (ℕ × ℕ)
cover_answer ws count total s e = change_answer ws count total (cover (pairs ws count) s e)

abbrev pub cover_words : List ℕ → ℕ → ℕ → ℕ → ℕ → List ℕ
cover_words ws count total s e = change_words ws count total (cover (pairs ws count) s e)

-- 02 §4.3, §4.7: uncover one; of an interval whose middle is uncovered two pairs are left

abbrev pub uncover_answer : List ℕ → ℕ → ℕ → ℕ → ℕ → Answer (ℕ × ℕ)
uncover_answer ws count total s e = change_answer ws count total (uncover (pairs ws count) s e)

abbrev pub uncover_words : List ℕ → ℕ → ℕ → ℕ → ℕ → List ℕ
uncover_words ws count total s e = change_words ws count total (uncover (pairs ws count) s e)
