-- Worked examples of the readings, and of insertions in either order, by computation. The pool has the keys 01, 03, 05, 09, 02, 04 and 05 again, at the offsets 0 to 6.
-- Assumes nothing.
use Rattle.std.specs.Prelude.{Ok}
use Prim.Native.Nat.{ℕ}
use mathlib.Core.Path.{◌≡◌, refl}
use mathlib.Core.List.{List, [], ◌∷◌, ◌++◌}
use Rattle.key_order.specs.Order.{compare_numbers, compare_keys}
use Rattle.key_order.specs.Boundary.{compare_boundaries}
use Rattle.query_item.specs.declared.KeyAt.{KeyAt}
use Rattle.query_item.specs.declared.ItemWords.{ItemWords}
use Rattle.query_item.specs.Items.{key_at, absent, item_words, item_at, items_from, flat, flat_all}
use Rattle.item_check.specs.Checks.{refused, first_bad}
use Rattle.insert_order.specs.Order.{compare_items, same_item, ends_below, clashes}
use Rattle.insert_order.specs.Refusals.{first_clash}
use Rattle.insert_merge.specs.Merge.{fate_of, staying, merged, merged_with}
use Rattle.insert.specs.Insertion.{placed, inserted}
use Rattle.insert.specs.Answers.{laid}
use Rattle.insert.specs.Sequence.{insert_all_answer, insert_all_words}

abbrev pool : List ℕ
pool = 1 ∷ 3 ∷ 5 ∷ 9 ∷ 2 ∷ 4 ∷ 5 ∷ []

abbrev at : ℕ → KeyAt
at o = key_at o 1

-- Key, Range and RangeInclusive with a wrapper

abbrev key : ℕ → ℕ → ItemWords
key w a = item_words 0 w (at a) absent

abbrev range : ℕ → ℕ → ℕ → ItemWords
range w a b = item_words 1 w (at a) (at b)

abbrev closed : ℕ → ℕ → ℕ → ItemWords
closed w a b = item_words 2 w (at a) (at b)

-- A7: an equal item is taken out and put anew
put_anew : inserted pool (closed 0 0 1) (closed 1 0 1 ∷ closed 0 0 1 ∷ []) ≡ closed 0 0 1 ∷ closed 1 0 1 ∷ []
unfolding inserted staying merged_with merged placed fate_of compare_items same_item ends_below compare_boundaries compare_keys compare_numbers
put_anew = refl

-- A8: [05,05] stays as it is in an empty list and in place of itself; merged with 05 it is Key 05

alone : inserted pool (closed 0 2 2) [] ≡ closed 0 2 2 ∷ []
unfolding inserted staying merged_with placed
alone = refl

replaced : inserted pool (closed 0 2 6) (closed 0 2 2 ∷ []) ≡ closed 0 2 6 ∷ []
unfolding inserted staying merged_with merged placed fate_of compare_items same_item ends_below compare_boundaries compare_keys compare_numbers
replaced = refl

as_key : inserted pool (closed 0 2 6) (key 0 2 ∷ []) ≡ key 0 2 ∷ []
unfolding inserted staying merged_with merged placed fate_of compare_items same_item ends_below compare_boundaries compare_keys compare_numbers
as_key = refl

-- A9: on a tie the new item's offset stays
tie : inserted pool (closed 0 6 3) (key 0 2 ∷ []) ≡ closed 0 6 3 ∷ []
unfolding inserted staying merged_with merged placed fate_of compare_items same_item ends_below compare_boundaries compare_keys compare_numbers
tie = refl

-- a wrapped item between two that merge stays, and the result goes past it, as it starts where the result does and ends before it
wrapped_between : inserted pool (closed 0 4 2) (closed 0 0 1 ∷ closed 1 0 5 ∷ range 0 2 3 ∷ []) ≡ closed 1 0 5 ∷ range 0 0 3 ∷ []
unfolding inserted staying merged_with merged placed fate_of compare_items same_item ends_below compare_boundaries compare_keys compare_numbers
wrapped_between = refl

-- ---- two items in either order (02 §10)

-- [05,05] and Key 05 make Key 05 in either order, though [05,05] alone stays as it is (A8)
converted_either : (inserted pool (key 0 2) (inserted pool (closed 0 2 2) []) ≡ key 0 2 ∷ []) × (inserted pool (closed 0 2 2) (inserted pool (key 0 2) []) ≡ key 0 2 ∷ [])
unfolding inserted staying merged_with merged placed fate_of compare_items same_item ends_below compare_boundaries compare_keys compare_numbers
converted_either = (refl, refl)

-- 02 §10.2: what an insertion makes arrives with it: count [01,03] came after the first [01,03], and before Key 02, which merges with that
arrives_anew : inserted pool (key 0 4) (inserted pool (closed 1 0 1) (closed 0 0 1 ∷ [])) ≡ closed 0 0 1 ∷ closed 1 0 1 ∷ []
unfolding inserted staying merged_with merged placed fate_of compare_items same_item ends_below compare_boundaries compare_keys compare_numbers
arrives_anew = refl

-- RangeFull with a wrapper; Key and RangeAfter of the empty key

abbrev all : ℕ → ItemWords
all w = item_words 3 w absent absent

abbrev empty : ℕ → ItemWords
empty o = item_words 0 0 (key_at o 0) absent

abbrev past : ItemWords
past = item_words 7 0 (key_at 0 0) absent

-- a pool of one byte; a place for one item, with Key of the empty key in it; another place, with words that nothing has written

abbrev byte : List ℕ
byte = 1 ∷ []

abbrev one : List ℕ
one = flat (empty 0)

abbrev spare : List ℕ
spare = 7 ∷ 7 ∷ 7 ∷ 7 ∷ 7 ∷ 7 ∷ []

-- The smallest inputs in which something differs: no key where none is needed, else the empty key alone.

-- 02 §10.2: a plain and a wrapped item of one range stand in order of arrival, the later first: RangeFull, into no list
later_first : (inserted [] (all 0) (inserted [] (all 1) []) ≡ all 0 ∷ all 1 ∷ []) × (inserted [] (all 1) (inserted [] (all 0) []) ≡ all 1 ∷ all 0 ∷ [])
unfolding inserted staying merged_with merged placed fate_of compare_items same_item ends_below compare_boundaries compare_keys compare_numbers
later_first = (refl, refl)

-- 02 §10.3: offsets differ where equal keys stand at two places: the empty key at both ends of one byte. Of two equal items the later one's stay
offsets_differ : (inserted byte (empty 1) (inserted byte (empty 0) []) ≡ empty 1 ∷ []) × (inserted byte (empty 0) (inserted byte (empty 1) []) ≡ empty 0 ∷ [])
unfolding inserted staying merged_with merged placed fate_of compare_items same_item ends_below compare_boundaries compare_keys compare_numbers
offsets_differ = (refl, refl)

-- 02 §10.1: there has to be room in both orders: beside the empty key, with a place for one item, RangeFull and then all past that key fit, as
-- they merge; the other way round the first is refused, and the second not tried
room_differs : (insert_all_answer [] one 1 (all 0 ∷ past ∷ []) ≡ Ok 1) × (insert_all_answer [] one 1 (past ∷ all 0 ∷ []) ≡ refused 6 0 0)
    × (insert_all_words [] one 1 (past ∷ all 0 ∷ []) ≡ one)
unfolding insert_all_answer insert_all_words inserted staying merged_with merged placed fate_of compare_items same_item ends_below clashes first_clash first_bad laid
    flat_all item_at items_from compare_boundaries compare_keys compare_numbers
room_differs = (refl, refl, refl)

-- 02 §10.1: with a place more the items are the same, and not the words past them: the second order has used these, and leaves 0
words_differ : (insert_all_words [] (one ++ spare) 1 (all 0 ∷ past ∷ []) ≡ flat (all 0) ++ spare)
    × (insert_all_words [] (one ++ spare) 1 (past ∷ all 0 ∷ []) ≡ flat (all 0) ++ (0 ∷ 0 ∷ 0 ∷ 0 ∷ 0 ∷ 0 ∷ []))
unfolding insert_all_words inserted staying merged_with merged placed fate_of compare_items same_item ends_below clashes first_clash first_bad laid flat_all
    item_at items_from compare_boundaries compare_keys compare_numbers
words_differ = (refl, refl)
