-- A list of plain items written as a sheet: its text, the refusals, and what is left in the bytes that are lent. Definitions only. Assumes nothing.
use Rattle.std.specs.Prelude.{ℕ, cond, List, map, length, ltb, Ok}
use Rattle.query_item.specs.declared.ItemWords.{ItemWords}
use Rattle.item_check.specs.Checks.{Answer, refused, Verdict, and_then, words_by, wrapped, first_fault, item_fault, pool_verdict, shape_verdict, first_bad, items_of}
use Rattle.lent_text.specs.Text.{laid}
use Rattle.sheet_row.specs.Lanes.{lane_at, sheet_text}

-- 02 §1.1: the text of items is a row for what each of them says
abbrev pub items_text : List ℕ → List ItemWords → List ℕ
items_text pool its = sheet_text (map (lane_at pool) its)

-- ---- refusals

-- 02 §1.11, §1.12, 01 refusal.6: of an item 1, 2, then 5 for a wrapped one; 0 where nothing is wrong. Reading B6: an item need not be upright
abbrev pub plain_fault : List ℕ → ItemWords → ℕ
plain_fault pool it = first_fault (item_fault pool it) (cond (wrapped it) 5 0)

-- 02 §1.11, reading B6: the list's shape, then item by item, side 0; a list need not be strict
abbrev pub listed_verdict : List ℕ → List ℕ → Verdict
listed_verdict pool ws = and_then (shape_verdict ws 0) (first_bad (plain_fault pool) 0 0 (items_of ws))

-- 01 refusal.6: the pool's size before that
abbrev pub plain_verdict : List ℕ → List ℕ → Verdict
plain_verdict pool ws = and_then (pool_verdict pool) (listed_verdict pool ws)

-- 02 §1.13: 6 exactly if the text lacks room; else how many bytes it has
abbrev pub text_room : List ℕ → List ℕ → Answer ℕ
text_room text out = cond (ltb (length out) (length text)) (refused 6 0 0) (Ok (length text))

-- ---- the answer, and what is left

-- 01 refusal.5: the text over the front of the lent bytes, where it has room; bytes past it stay
abbrev pub room_bytes : List ℕ → List ℕ → List ℕ
room_bytes text out = words_by (text_room text out) out (laid out text)

abbrev pub list_text : List ℕ → List ℕ → List ℕ
list_text pool ws = items_text pool (items_of ws)

abbrev pub write_answer : List ℕ → List ℕ → List ℕ → Answer ℕ
write_answer pool ws out = and_then (plain_verdict pool ws) (text_room (list_text pool ws) out)

-- 01 refusal.5, demand.1: the text over the front of the lent bytes; a refusal leaves them
abbrev pub write_bytes : List ℕ → List ℕ → List ℕ → List ℕ
write_bytes pool ws out = words_by (write_answer pool ws out) out (laid out (list_text pool ws))
