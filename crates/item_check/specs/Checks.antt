-- Refusals, their order, and the checks of items and lists. Definitions only. Assumes nothing.
use Rattle.std.specs.Ordering.{is_lt}
use Rattle.std.specs.Prelude.{ℕ, zero, suc, ◌+◌, ◌/◌, ◌%◌, List, [], ◌∷◌, Bool, cond, not, ◌||◌, ◌&&◌, length, ltb, eqb, Result, Ok, Err}
use Rattle.query_item.specs.declared.KeyAt.{KeyAt}
use Rattle.query_item.specs.declared.ItemWords.{ItemWords}
use Rattle.query_item.specs.declared.RangeSetItem.{RangeSetItem}
use Rattle.query_item.specs.declared.RangeSet.{RangeSet}
use Rattle.query_item.specs.Items.{item_size, items_from}
use Rattle.query_item.specs.Boundaries.{key_of, compare_in, range_of, upright}
use Rattle.item_check.specs.declared.Refusal.{Refusal}
use Rattle.item_check.specs.declared.Reason.{Reason}
use Rattle.item_check.specs.declared.Reason.TheVariants.{
  Malformed,
  KeyOutside,
  NotUpright,
  OutOfOrder,
  Wrapped,
  NoRoom,
  NoPosition,
  NotAscending,
  NotCanonical,
  BadFile,
  BadRow,
  AmountOutside,
  TooManyKeys,
  EmptyWindows,
}

-- ---- answers

-- 01 refusal.1: a call answers, or refuses with a number, a side (0 ours, 1 theirs) and an index
abbrev pub Answer : Type 0 → Type 0
Answer A = Result A Refusal

-- 01 refusal.1: the number of each refusal, as the papers fix it where they speak of it; no call refuses with 11 or 13
abbrev pub reason_number : Reason → ℕ
reason_number Malformed = 1
reason_number KeyOutside = 2
reason_number NotUpright = 3
reason_number OutOfOrder = 4
reason_number Wrapped = 5
reason_number NoRoom = 6
reason_number NoPosition = 7
reason_number NotAscending = 8
reason_number NotCanonical = 9
reason_number BadFile = 10
reason_number BadRow = 12
reason_number AmountOutside = 14
reason_number TooManyKeys = 15
reason_number EmptyWindows = 16

abbrev pub refusal : ℕ → ℕ → ℕ → Refusal
refusal number side index = record { number = number; side = side; index = index }

abbrev pub refused : {A : Type 0} → ℕ → ℕ → ℕ → Answer A
refused number side index = Err (refusal number side index)

abbrev pub Verdict : Type 0
Verdict = Answer (Unit {0})

abbrev pub accepted : Verdict
accepted = Ok tt

-- 01 refusal.6: an earlier check's refusal decides
abbrev pub and_then : {A : Type 0} → Verdict → Answer A → Answer A
and_then (Ok u) next = next
and_then (Err r) next = Err r

-- 01 demand.1, reading A1: words that are lent for writing, afterwards: a refusal leaves them as they were
abbrev pub words_by : {A : Type 0} → Answer A → List ℕ → List ℕ → List ℕ
words_by (Ok a) before after = after
words_by (Err r) before after = before

-- ---- limits

-- 01 no.1, no.2: how many items, bytes of a pool and bytes of a key at most
abbrev pub most_items : ℕ
most_items = 2048

abbrev pub most_pool : ℕ
most_pool = 65536

abbrev pub most_key : ℕ
most_key = 255

-- ---- an item

-- 01 keys.5: of the ten codes RangeFull (3), RangeTo (5) and RangeToInclusive (6) have no start
abbrev pub has_start : ℕ → Bool
has_start c = not (eqb c 3 || eqb c 5 || eqb c 6)

-- 01 keys.4, keys.5: Key (0), RangeFull (3), RangeFrom (4) and RangeAfter (7) have no end
abbrev pub has_end : ℕ → Bool
has_end c = not (eqb c 0 || eqb c 3 || eqb c 4 || eqb c 7)

-- 01 keys.5: a key's two words are not both 0
abbrev pub nonzero : KeyAt → Bool
nonzero k = not (eqb k.offset 0) || not (eqb k.length 0)

-- 01 no.1: unknown code or wrapper, absent key not 0
abbrev pub malformed : ItemWords → Bool
malformed it =
    ltb 9 it.code
    || ltb 3 it.wrapper
    || (not (has_start it.code) && nonzero it.start)
    || (not (has_end it.code) && nonzero it.end)

-- 01 no.2: a key longer than 255 bytes or reaching past the pool; reading A2: past it also where its length is 0
abbrev pub key_out : List ℕ → KeyAt → Bool
key_out pool k = ltb most_key k.length || ltb (length pool) (k.offset + k.length)

-- 01 no.2: a key of either boundary; a boundary that has none has the absent key, which lies in every pool
abbrev pub keys_out : List ℕ → RangeSet → Bool
keys_out pool s = key_out pool (key_of s.start) || key_out pool (key_of s.end)

-- 01 no.2: of an item
abbrev pub outside : List ℕ → ItemWords → Bool
outside pool it = keys_out pool (range_of it)

-- 01 no.5, 02 §1.12: an item that has a wrapper, where a call takes none: a position query, a sheet
abbrev pub wrapped : ItemWords → Bool
wrapped it = not (eqb it.wrapper 0)

-- 01 refusal.6: the number of what is wrong first, 0 where nothing is
abbrev pub first_fault : ℕ → ℕ → ℕ
first_fault zero next = next
first_fault (suc f) next = suc f

-- 01 no.1, no.2, refusal.6: what is wrong with an item: 1 before 2
abbrev pub item_fault : List ℕ → ItemWords → ℕ
item_fault pool it = cond (malformed it) 1 (cond (outside pool it) 2 0)

-- 01 no.3, refusal.6: and 3 after these where the item has to be upright
abbrev pub upright_fault : List ℕ → ItemWords → ℕ
upright_fault pool it = first_fault (item_fault pool it) (cond (upright pool (range_of it)) 0 3)

abbrev pub fault_at : ℕ → ℕ → ℕ → Verdict
fault_at zero side index = accepted
fault_at (suc f) side index = refused (suc f) side index

-- 01 refusal.2, refusal.6: the pool's size first, 0 and 0
abbrev pub pool_verdict : List ℕ → Verdict
pool_verdict pool = cond (ltb most_pool (length pool)) (refused 1 0 0) accepted

-- ---- a list

-- 01 no.1, refusal.2: the shape of a list gives its side and index 0
abbrev pub shape_verdict : List ℕ → ℕ → Verdict
shape_verdict ws side =
    cond (not (eqb (length ws % item_size) 0) || ltb most_items (length ws / item_size)) (refused 1 side 0) accepted

-- 01 refusal.6: item by item, the first bad item deciding, by the number that `fault` gives of what is wrong with an item
unfoldable pub first_bad : (ItemWords → ℕ) → ℕ → ℕ → List ItemWords → Verdict
first_bad fault side i [] = accepted
first_bad fault side i (it ∷ its) = and_then (fault_at (fault it) side i) (first_bad fault side (suc i) its)

-- 01 keys.10, keys.11, no.4, refusal.4: a list is strict when each item's end is below the next item's start; empty lists are strict.
-- 4 has the index of the first item that breaks this with the one before it, which ends at e

unfoldable pub first_break : List ℕ → ℕ → ℕ → RangeSetItem → List ItemWords → Verdict
first_break pool side i e [] = accepted
first_break pool side i e (it ∷ its) =
    cond (is_lt (compare_in pool e (range_of it).start)) (first_break pool side (suc i) (range_of it).end its) (refused 4 side i)

unfoldable pub strict_verdict : List ℕ → ℕ → List ItemWords → Verdict
strict_verdict pool side [] = accepted
strict_verdict pool side (it ∷ its) = first_break pool side 1 (range_of it).end its

-- 01 refusal.6: for each list its shape, its items, then 4
abbrev pub items_of : List ℕ → List ItemWords
items_of ws = items_from ws 0 (length ws / item_size)

abbrev pub whole_verdict : List ℕ → List ℕ → ℕ → Verdict
whole_verdict pool ws side = and_then (first_bad (upright_fault pool) side 0 (items_of ws)) (strict_verdict pool side (items_of ws))

abbrev pub list_verdict : List ℕ → List ℕ → ℕ → Verdict
list_verdict pool ws side = and_then (shape_verdict ws side) (whole_verdict pool ws side)

-- ---- a single item; reading A22: the pool, then 1 and 2 of the item, side 0 and index 0 (01 refusal.3)

abbrev pub single_verdict : List ℕ → ItemWords → Verdict
single_verdict pool it = and_then (pool_verdict pool) (fault_at (item_fault pool it) 0 0)

-- 01 no.2, reading A23: the pool, then the keys of both boundaries, and "no item" only after these
abbrev pub keys_verdict : List ℕ → RangeSet → Verdict
keys_verdict pool s = cond (keys_out pool s) (refused 2 0 0) accepted

abbrev pub set_verdict : List ℕ → RangeSet → Verdict
set_verdict pool s = and_then (pool_verdict pool) (keys_verdict pool s)

-- 01 refusal.6: a list for the algebra: the pool, then the list
abbrev pub check_verdict : List ℕ → List ℕ → ℕ → Verdict
check_verdict pool ws side = and_then (pool_verdict pool) (list_verdict pool ws side)
