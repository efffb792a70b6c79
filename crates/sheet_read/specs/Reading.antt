-- A sheet read into a pool and a list of items: the keys packed, the items that name them, the refusals, and what is left in all that is lent.
-- Definitions only. Assumes nothing.
use Rattle.std.specs.Prelude.{ℕ, suc, ◌+◌, Bool, cond, ◌||◌, List, [], ◌∷◌, ◌++◌, length, ltb, Ok}
use Rattle.query_item.specs.declared.KeyAt.{KeyAt}
use Rattle.query_item.specs.declared.ItemWords.{ItemWords}
use Rattle.query_item.specs.Items.{key_at, absent, item_words}
use Rattle.item_check.specs.Checks.{Answer, refused, Verdict, accepted, and_then, words_by, has_start, has_end, most_items, most_key, pool_verdict}
use Rattle.item_lists.specs.Written.{passes, written}
use Rattle.lent_text.specs.Text.{laid}
use Rattle.sheet_row.specs.Lanes.{Lane, Sheet, lanes, bad_at, sheet_of}
use Rattle.sheet_read.specs.declared.SheetCounts.{SheetCounts}

-- ---- keys and items

-- 02 §1.8: the keys in the order read, start before end, one after another; equal ones each time
unfoldable pub packed_keys : List Lane → List ℕ
packed_keys [] = []
packed_keys (l ∷ ls) = (l.start ++ l.end) ++ packed_keys ls

-- 02 §1.8, reading B5: a key that an item has is named where packing stands, an empty one too; 01 keys.5: words of an absent key are 0
abbrev pub key_for : Bool → ℕ → ℕ → KeyAt
key_for present at n = cond present (key_at at n) absent

-- 02 §1.9: an item, wrapper 0, of a code and two keys that stand one after the other and have so many bytes
abbrev pub packed_item : ℕ → ℕ → ℕ → ℕ → ItemWords
packed_item c at a b = item_words c 0 (key_for (has_start c) at a) (key_for (has_end c) (at + a) b)

abbrev pub lane_item : ℕ → Lane → ItemWords
lane_item at l = packed_item l.code at (length l.start) (length l.end)

-- 02 §1.9: the items of lanes whose keys are packed from a place on
unfoldable pub packed_items : ℕ → List Lane → List ItemWords
packed_items at [] = []
packed_items at (l ∷ ls) = lane_item at l ∷ packed_items (at + (length l.start + length l.end)) ls

-- ---- refusals

-- 02 §1.11, 01 no.2: row by row 2, for a key longer than 255 bytes; side 0, the index is the row's number
abbrev pub is_long : Lane → Bool
is_long l = ltb most_key (length l.start) || ltb most_key (length l.end)

unfoldable pub first_long : ℕ → List Lane → Verdict
first_long n [] = accepted
first_long n (l ∷ ls) = cond (is_long l) (refused 2 0 n) (first_long (suc n) ls)

-- 02 §1.13: 6 exactly if the pool or the list lacks room, or the list would pass 2,048 items
abbrev pub room_verdict : ℕ → ℕ → List ℕ → List ℕ → Verdict
room_verdict items bytes pool out = cond (ltb (length pool) bytes || passes items out || ltb most_items items) (refused 6 0 0) accepted

-- 02 §1.11, readings B1, B2, B3: 12 over the whole sheet, side 0, then 1 for a lent pool over 65,536 bytes, then 2, then 6
abbrev pub sheet_verdict : Sheet → List ℕ → List ℕ → Verdict
sheet_verdict (bad_at n) pool out = refused 12 0 n
sheet_verdict (lanes ls) pool out =
    and_then (pool_verdict pool) (and_then (first_long 0 ls) (room_verdict (length ls) (length (packed_keys ls)) pool out))

-- ---- the answer, and what is left

-- 02 §1.8: the lanes of a sheet that is read; of one with a bad row, which is refused, none are asked for
abbrev pub lanes_of : Sheet → List Lane
lanes_of (lanes ls) = ls
lanes_of (bad_at n) = []

abbrev pub lanes_in : List ℕ → List Lane
lanes_in text = lanes_of (sheet_of text)

-- 02 §1.8, §1.9: how many items were read, and how many bytes their keys have
abbrev pub counts_of : List Lane → SheetCounts
counts_of ls = record { items = length ls; bytes = length (packed_keys ls) }

abbrev pub read_answer : List ℕ → List ℕ → List ℕ → Answer SheetCounts
read_answer text pool out = and_then (sheet_verdict (sheet_of text) pool out) (Ok (counts_of (lanes_in text)))

-- 02 §1.9, 01 demand.1: the keys over the front of the pool, and the items over that of the list; a refusal leaves both

abbrev pub read_pool : List ℕ → List ℕ → List ℕ → List ℕ
read_pool text pool out = words_by (read_answer text pool out) pool (laid pool (packed_keys (lanes_in text)))

abbrev pub read_list : List ℕ → List ℕ → List ℕ → List ℕ
read_list text pool out = written (read_answer text pool out) (packed_items 0 (lanes_in text)) out
