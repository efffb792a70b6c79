-- What `insert_item` answers and writes: the checks, the room, the words. Definitions only. Assumes nothing.
use Rattle.std.specs.Prelude.{ℕ, ◌-◌, ◌*◌, max, List, ◌++◌, cond, ◌||◌, length, drop, replicate, ltb, Ok}
use Rattle.query_item.specs.declared.ItemWords.{ItemWords}
use Rattle.query_item.specs.Items.{item_size, items_from, flat_all}
use Rattle.item_check.specs.Checks.{Answer, refused, and_then, words_by, most_items}
use Rattle.item_lists.specs.Written.{passes}
use Rattle.insert_order.specs.Refusals.{input_verdict}
use Rattle.insert.specs.Insertion as insertion

-- ---- the room

-- 01 m5.9: 6 exactly if the final count exceeds the buffer or 2,048
abbrev pub insert_room_answer : List ℕ → ℕ → Answer ℕ
insert_room_answer ws n = cond (passes n ws || ltb most_items n) (refused 6 0 0) (Ok n)

-- ---- the words

-- 01 m5.8: the words of the list; freed words up to the old count become 0, later ones stay
unfoldable pub laid : List ℕ → ℕ → List ItemWords → List ℕ
laid ws count its =
    flat_all its ++ (replicate (item_size * (count - length its)) 0 ++ drop (item_size * max count (length its)) ws)

-- ---- the call

-- 01 m5.6: the list after insertion
abbrev pub list_after : List ℕ → List ℕ → ℕ → ItemWords → List ItemWords
list_after pool ws count new = insertion.inserted pool new (items_from ws 0 count)

-- 01 m5.9: where the checks have passed: the room decides
abbrev pub checked_answer : List ℕ → List ℕ → ℕ → ItemWords → Answer ℕ
checked_answer pool ws count new = insert_room_answer ws (length (list_after pool ws count new))

abbrev pub checked_words : List ℕ → List ℕ → ℕ → ItemWords → List ℕ
checked_words pool ws count new = words_by (checked_answer pool ws count new) ws (laid ws count (list_after pool ws count new))

-- 01 refusal.6: the checks, then 6
abbrev pub insert_answer : List ℕ → List ℕ → ℕ → ItemWords → Answer ℕ
insert_answer pool ws count new = and_then (input_verdict pool ws count new) (checked_answer pool ws count new)

abbrev pub insert_words : List ℕ → List ℕ → ℕ → ItemWords → List ℕ
insert_words pool ws count new = words_by (insert_answer pool ws count new) ws (laid ws count (list_after pool ws count new))
