-- The rows of document 01, "Thirteen rows to prove": what is given, by the definitions that the calls promise, and the result that the document
-- states. Keys are single bytes, except the empty one of P6 and the position keys of P9. `from_query_items` promises canonical pairs of the
-- covered positions; P9 and P10 give these pairs as the definition `covered_pairs` computes them, and `written_pairs` and `pairs_answered` of
-- position_query/proofs/Laws.antt say, of every query, that it writes those. Definitions only. It serves 01 rows.1
-- and, with P6's two items as lists, 02 §2.4. Assumes nothing.
use Rattle.query_item.specs.declared.QueryItem.{QueryItem}
use Rattle.std.specs.declared.cmp.Ordering.{Ordering}
use Rattle.std.specs.declared.cmp.Ordering.TheVariants.{Less}
use Rattle.std.specs.Prelude.{ℕ, ◌*◌, Bool, false, List, [], ◌∷◌, ◌++◌, map, length, Option, Ok, Err}
use Rattle.key_order.specs.Boundary.{compare_boundaries}
use Rattle.boundary.specs.declared.BoundaryKind.TheVariants.{ExclusiveEnd, Inclusive, ExclusiveStart}
use Rattle.query_item.specs.declared.KeyAt.{KeyAt}
use Rattle.query_item.specs.declared.ItemWords.{ItemWords}
use Rattle.query_item.specs.Items.{key_at, absent, item_words, flat_all, Shown, shown}
use Rattle.boundary.specs.Kinds.{boundary}
use Rattle.intervals.specs.Intervals.{Interval}
use Rattle.item_check.specs.declared.Refusal.{Refusal}
use Rattle.item_check.specs.Checks.{Answer, Verdict, items_of}
use Rattle.intersect_many.specs.declared.ManyCounts.{ManyCounts}
use Rattle.intersect.specs.declared.QueryItemIntersectionResult.{QueryItemIntersectionResult}
use Rattle.item_lists.specs.Written.{as_items}
use Rattle.intersect.specs.Pair.{pair_answer}
use Rattle.intersect_many.specs.Lists.{shared_items, only_items, many_answer}
use Rattle.insert.specs.Answers.{insert_answer, list_after}
use Rattle.pairs_sort.specs.Pairs.{flat_pairs}
use Rattle.position_intervals.specs.Asked.{contains_answer}
use Rattle.position_given.specs.Inner.{last_word}
use Rattle.position_key.specs.Keys.{key_size}
use Rattle.position_query.specs.Covered.{query_verdict}
use Rattle.position_query.specs.Ranges.{covered_pairs}
use Rattle.krl_listing.specs.Listing.{text_of_lines}
use Rattle.krl_program.specs.Program.{program_text}
use Rattle.position_report.specs.declared.PositionMismatch.{PositionMismatch}
use Rattle.position_report.specs.Reports.{report_at}
use Rattle.position_mismatch.specs.Reports.{missing_answer}

-- what a row gives: orders; the program's text; the pair's shared part, our two leftovers and their two; the three lists; pairs of positions;
-- yes or no; a report; the list after an insertion; or a refusal
pub data Result : Type 0 where
  orders : List Ordering → Result
  text : List ℕ → Result
  parts : List Shown → List Shown → List Shown → List Shown → List Shown → Result
  lists : List Shown → List Shown → List Shown → Result
  intervals : List Interval → Result
  yes_or_no : Bool → Result
  report : PositionMismatch → Result
  list : List Shown → Result
  refusing : Refusal → Result

-- ---- items, as document 01 writes them: code, keys by place in the pool 01 02 .. 09, so that the key k is the byte at k - 1

abbrev digits : List ℕ
digits = 1 ∷ 2 ∷ 3 ∷ 4 ∷ 5 ∷ 6 ∷ 7 ∷ 8 ∷ 9 ∷ []

-- an item of two keys, of one at the start, of none
abbrev two : ℕ → ℕ → ℕ → ItemWords
two code a b = item_words code 0 (key_at a 1) (key_at b 1)

abbrev one : ℕ → ℕ → ItemWords
one code a = item_words code 0 (key_at a 1) absent

abbrev full : ItemWords
full = item_words 3 0 absent absent

-- RangeFrom of the empty key
abbrev from_empty : ItemWords
from_empty = item_words 4 0 absent absent

-- ---- the calls' definitions, as results

abbrev items_shown : List ℕ → List ItemWords → List Shown
items_shown pool its = map (shown pool) its

abbrev item_shown : List ℕ → Option QueryItem → List Shown
item_shown pool m = items_shown pool (as_items m)

abbrev pair_result : List ℕ → Answer QueryItemIntersectionResult → Result
pair_result pool (Ok p) =
    parts (item_shown pool p.in_both) (item_shown pool p.ours_left) (item_shown pool p.ours_right)
    (item_shown pool p.theirs_left) (item_shown pool p.theirs_right)
pair_result pool (Err r) = refusing r

abbrev pair_of : ItemWords → ItemWords → Result
pair_of ours theirs = pair_result digits (pair_answer digits ours theirs)

-- 01 m7.3: the file that document 01 gives, and the listing that it writes, line by line
abbrev document_file : List ℕ
document_file =
    75 ∷ 82 ∷ 76 ∷ 0 ∷ 1 ∷ 0 ∷ 3 ∷ 0 ∷ 1 ∷ 0 ∷ 1 ∷ 1 ∷ 5 ∷ 3 ∷ 1 ∷ 0 ∷ 0 ∷ 0 ∷ 1 ∷ 0 ∷ 1 ∷ 1 ∷ 0 ∷ 0 ∷ 0 ∷ 2 ∷ 1 ∷ 0 ∷ 0 ∷ 0 ∷ []

abbrev document_lines : List (List ℕ)
document_lines =
    -- "shared 1"
    (115 ∷ 104 ∷ 97 ∷ 114 ∷ 101 ∷ 100 ∷ 32 ∷ 49 ∷ 10 ∷ [])
    -- "Key 03"
    ∷ (75 ∷ 101 ∷ 121 ∷ 32 ∷ 48 ∷ 51 ∷ 10 ∷ [])
    -- "ours 2"
    ∷ (111 ∷ 117 ∷ 114 ∷ 115 ∷ 32 ∷ 50 ∷ 10 ∷ [])
    -- "Range 01 03"
    ∷ (82 ∷ 97 ∷ 110 ∷ 103 ∷ 101 ∷ 32 ∷ 48 ∷ 49 ∷ 32 ∷ 48 ∷ 51 ∷ 10 ∷ [])
    -- "RangeAfterTo 03 05"
    ∷ (82 ∷ 97 ∷ 110 ∷ 103 ∷ 101 ∷ 65 ∷ 102 ∷ 116 ∷ 101 ∷ 114 ∷ 84 ∷ 111 ∷ 32 ∷ 48 ∷ 51 ∷ 32 ∷ 48 ∷ 53 ∷ 10 ∷ [])
    -- "theirs 0"
    ∷ (116 ∷ 104 ∷ 101 ∷ 105 ∷ 114 ∷ 115 ∷ 32 ∷ 48 ∷ 10 ∷ [])
    ∷ []

-- three outputs with room for three items
abbrev room : List ℕ
room = flat_all (full ∷ full ∷ full ∷ [])

abbrev list_result : List ℕ → List ℕ → List ℕ → Answer ManyCounts → Result
list_result pool ours theirs (Ok c) =
    lists (items_shown pool (shared_items pool ours theirs)) (items_shown pool (only_items pool ours theirs)) (items_shown pool (only_items pool theirs ours))
list_result pool ours theirs (Err r) = refusing r

abbrev lists_of : List ItemWords → List ItemWords → Result
lists_of ours theirs = list_result digits (flat_all ours) (flat_all theirs) (many_answer digits (flat_all ours) (flat_all theirs) room room room)

-- the pairs that a query makes, where the checks of its items accept it
abbrev query_result : List Interval → Verdict → Result
query_result A (Ok u) = intervals A
query_result A (Err r) = refusing r

abbrev pairs_of : List ℕ → List ItemWords → ℕ → List Interval
pairs_of pool its count = covered_pairs pool count (items_of (flat_all its))

abbrev query_of : List ℕ → List ItemWords → ℕ → Result
query_of pool its count = query_result (pairs_of pool its count) (query_verdict pool (flat_all its))

abbrev contains_result : Answer Bool → Result
contains_result (Ok b) = yes_or_no b
contains_result (Err r) = refusing r

abbrev missing_result : Answer PositionMismatch → Result
missing_result (Ok r) = report r
missing_result (Err r) = refusing r

-- a buffer of the list and room for three items more
abbrev insert_result : List ItemWords → Answer ℕ → Result
insert_result after (Ok n) = list (map (shown digits) after)
insert_result after (Err r) = refusing r

abbrev insert_of : List ItemWords → ItemWords → Result
insert_of its new =
    insert_result (list_after digits (flat_all its ++ room) (length its) new) (insert_answer digits (flat_all its ++ room) (length its) new)

-- what an item shows: code, wrapper, key bytes
abbrev key : ℕ → Shown
key a = (0, 0, a ∷ [], [])

abbrev range : ℕ → ℕ → ℕ → Shown
range code a b = (code, 0, a ∷ [], b ∷ [])

abbrev up_to : ℕ → ℕ → Shown
up_to code b = (code, 0, [], b ∷ [])

abbrev starts_at : ℕ → ℕ → Shown
starts_at code a = (code, 0, a ∷ [], [])

-- ---- positions: the keys of 2, 5 and 7, and the i-th of them

abbrev log_keys : List ℕ
log_keys = (0 ∷ 0 ∷ 0 ∷ 0 ∷ 0 ∷ 0 ∷ 0 ∷ 2 ∷ []) ++ ((0 ∷ 0 ∷ 0 ∷ 0 ∷ 0 ∷ 0 ∷ 0 ∷ 5 ∷ []) ++ (0 ∷ 0 ∷ 0 ∷ 0 ∷ 0 ∷ 0 ∷ 0 ∷ 7 ∷ []))

abbrev log : ℕ → KeyAt
log i = key_at (key_size * i) key_size

-- [2,5), 5, [5,7]
abbrev log_items : List ItemWords
log_items = item_words 1 0 (log 0) (log 1) ∷ item_words 0 0 (log 1) absent ∷ item_words 2 0 (log 1) (log 2) ∷ []

-- ---- the table: what is given, and the document's result

abbrev pub Row : Type 0
Row = Result × Result

abbrev pub rows : List Row
rows =
    -- 01 P1: key 05: ExclusiveEnd < Inclusive < ExclusiveStart
    (orders (compare_boundaries (boundary ExclusiveEnd (5 ∷ [])) (boundary Inclusive (5 ∷ [])) ∷ compare_boundaries (boundary Inclusive (5 ∷ [])) (boundary ExclusiveStart (5 ∷ [])) ∷ []), orders (Less ∷ Less ∷ []))
    -- 01 P2: [01,05), Key 03: as the listing
    ∷ (text (program_text document_file), text (text_of_lines document_lines))
    -- 01 P3: [01,05), [05,09]: nothing shared; ours left, theirs right
    ∷ (pair_of (two 1 0 4) (two 2 4 8), parts [] (range 1 1 5 ∷ []) [] [] (range 2 5 9 ∷ []))
    -- 01 P4: (05,09], [01,05]: nothing shared; ours right, theirs left
    ∷ (pair_of (two 9 4 8) (two 2 0 4), parts [] [] (range 9 5 9 ∷ []) (range 2 1 5 ∷ []) [])
    -- 01 P5: [05,05], full: Key 05; theirs RangeTo 05, RangeAfter 05
    ∷ (pair_of (two 2 4 4) full, parts (key 5 ∷ []) [] [] (up_to 5 5 ∷ []) (starts_at 7 5 ∷ []))
    -- 01 P6: full, RangeFrom -: RangeFrom -; ours left RangeTo -
    ∷ (pair_of full from_empty, parts ((4, 0, [], []) ∷ []) ((5, 0, [], []) ∷ []) [] [] [])
    -- 02 §2.4: P6's two items as lists of one: shared RangeFrom -, and nothing is left
    ∷ (lists_of (full ∷ []) (from_empty ∷ []), lists ((4, 0, [], []) ∷ []) [] [])
    -- 01 P7: {[01,03],[07,09]}, {[02,08]}: shared [02,03],[07,08]; ours [01,02),(08,09]; theirs (03,07)
    ∷ (lists_of (two 2 0 2 ∷ two 2 6 8 ∷ []) (two 2 1 7 ∷ []), lists (range 2 2 3 ∷ range 2 7 8 ∷ []) (range 1 1 2 ∷ range 9 8 9 ∷ []) (range 8 3 7 ∷ []))
    -- 01 P8: {}, {Key 04}: theirs Key 04
    ∷ (lists_of [] (one 0 3 ∷ []), lists [] [] (key 4 ∷ []))
    -- 01 P9: positions [2,5), 5, [5,7]: count 100: 2..8; count 6: 2..6
    ∷ (query_of log_keys log_items 100, intervals ((2, 8) ∷ []))
    ∷ (query_of log_keys log_items 6, intervals ((2, 6) ∷ []))
    -- 01 P10: full, count u64::MAX: 0..MAX; MAX not contained
    ∷ (query_of [] (full ∷ []) last_word, intervals ((0, 18446744073709551615) ∷ []))
    ∷ (contains_result (contains_answer (flat_pairs (pairs_of [] (full ∷ []) last_word)) last_word), yes_or_no false)
    -- 01 P11: 0..20, proved 3: 19 missing; 0,1,2,4 to 16
    ∷ (missing_result (missing_answer (0 ∷ 20 ∷ []) (3 ∷ [])), report (report_at 19 16 (0 ∷ 1 ∷ 2 ∷ 4 ∷ 5 ∷ 6 ∷ 7 ∷ 8 ∷ 9 ∷ 10 ∷ 11 ∷ 12 ∷ 13 ∷ 14 ∷ 15 ∷ 16 ∷ [])))
    -- 01 P12: {[01,03],05,09}, insert [02,06): {[01,06),09}
    ∷ (insert_of (two 2 0 2 ∷ one 0 4 ∷ one 0 8 ∷ []) (two 1 1 5), list (range 1 1 6 ∷ key 9 ∷ []))
    -- 01 P13: {[01,05)}, insert [05,09]: both stay
    ∷ (insert_of (two 1 0 4 ∷ []) (two 2 4 8), list (range 1 1 5 ∷ range 2 5 9 ∷ []))
    ∷ []
