-- Items: the keys that they name, their words and codes, and which keys they hold. Definitions only. Assumes nothing.
use Rattle.std.specs.Ordering.{is_lt, is_le, is_eq}
use Rattle.std.specs.Prelude.{ℕ, zero, suc, ◌+◌, ◌*◌, ◌/◌, ◌≡◌, List, [], ◌∷◌, ◌++◌, map, Bool, true, false, cond, ◌||◌, ◌&&◌, length, get_or, take, drop, ltb, eqb, Option, None, Some}
use Rattle.std.proofs.lemmas.List.Edits.{sets}
use Rattle.key_order.specs.Order.{compare_keys}
use Rattle.query_item.specs.declared.KeyAt.{KeyAt}
use Rattle.query_item.specs.declared.ItemWords.{ItemWords}
use Rattle.query_item.specs.declared.QueryItem.{QueryItem}
use Rattle.query_item.specs.declared.QueryItem.TheVariants.{
  Key,
  Range,
  RangeInclusive,
  RangeFull,
  RangeFrom,
  RangeTo,
  RangeToInclusive,
  RangeAfter,
  RangeAfterTo,
  RangeAfterToInclusive,
}

-- 01 keys.2: items name keys by offset and length in one lent pool; what reaches past the pool is not there
abbrev pub bytes_of : List ℕ → KeyAt → List ℕ
bytes_of pool k = take k.length (drop k.offset pool)

-- ---- the table of 01, a line for each code

-- 01 keys.3, keys.4: the item of a code, a start and an end
abbrev pub item_of : ℕ → KeyAt → KeyAt → QueryItem
item_of c a b =
    cond (eqb c 0) (Key a)
    (cond (eqb c 1) (Range a b)
    (cond (eqb c 2) (RangeInclusive a b)
    (cond (eqb c 4) (RangeFrom a)
    (cond (eqb c 5) (RangeTo b)
    (cond (eqb c 6) (RangeToInclusive b)
    (cond (eqb c 7) (RangeAfter a)
    (cond (eqb c 8) (RangeAfterTo a b)
    (cond (eqb c 9) (RangeAfterToInclusive a b)
    RangeFull))))))))

-- 01 keys.3, keys.5, keys.6: the six words of an item, plain or with a wrapper; words of an absent key are 0
abbrev pub key_at : ℕ → ℕ → KeyAt
key_at o l = record { offset = o; length = l }

abbrev pub absent : KeyAt
absent = key_at 0 0

abbrev pub item_words : ℕ → ℕ → KeyAt → KeyAt → ItemWords
item_words c w a b = record { code = c; wrapper = w; start = a; end = b }

-- 02 §6.5: an item with other keys, as where its offsets are rewritten; what else it has stays
abbrev pub with_keys : ItemWords → KeyAt → KeyAt → ItemWords
with_keys it a b = item_words it.code it.wrapper a b

abbrev pub words_of : ℕ → QueryItem → ItemWords
words_of w (Key a) = item_words 0 w a absent
words_of w (Range a b) = item_words 1 w a b
words_of w (RangeInclusive a b) = item_words 2 w a b
words_of w RangeFull = item_words 3 w absent absent
words_of w (RangeFrom a) = item_words 4 w a absent
words_of w (RangeTo b) = item_words 5 w absent b
words_of w (RangeToInclusive b) = item_words 6 w absent b
words_of w (RangeAfter a) = item_words 7 w a absent
words_of w (RangeAfterTo a b) = item_words 8 w a b
words_of w (RangeAfterToInclusive a b) = item_words 9 w a b

-- 01 keys.1: x < y and x ≤ y and x = y of keys
abbrev pub below : List ℕ → List ℕ → Bool
below x y = is_lt (compare_keys x y)

abbrev pub at_most : List ℕ → List ℕ → Bool
at_most x y = is_le (compare_keys x y)

abbrev pub same : List ℕ → List ℕ → Bool
same x y = is_eq (compare_keys x y)

-- 01 item.0, item.1, item.2, item.3, item.4, item.5, item.6, item.7, item.8, item.9: which keys an item holds
abbrev pub holds : List ℕ → QueryItem → List ℕ → Bool
holds pool (Key a) k = same k (bytes_of pool a)
holds pool (Range a b) k = at_most (bytes_of pool a) k && below k (bytes_of pool b)
holds pool (RangeInclusive a b) k = at_most (bytes_of pool a) k && at_most k (bytes_of pool b)
holds pool RangeFull k = true
holds pool (RangeFrom a) k = at_most (bytes_of pool a) k
holds pool (RangeTo b) k = below k (bytes_of pool b)
holds pool (RangeToInclusive b) k = at_most k (bytes_of pool b)
holds pool (RangeAfter a) k = below (bytes_of pool a) k
holds pool (RangeAfterTo a b) k = below (bytes_of pool a) k && below k (bytes_of pool b)
holds pool (RangeAfterToInclusive a b) k = below (bytes_of pool a) k && at_most k (bytes_of pool b)

-- 01 change.2: an item that may be missing holds no key where it is missing
abbrev pub holds_maybe : List ℕ → Option QueryItem → List ℕ → Bool
holds_maybe pool None k = false
holds_maybe pool (Some q) k = holds pool q k

-- ---- lists of items as words

-- 01 keys.3: an item is six words
abbrev pub item_size : ℕ
item_size = 6

-- 01 keys.3: the item at an index; what is past the list's end reads as 0
unfoldable pub item_at : List ℕ → ℕ → ItemWords
item_at ws i =
    item_words (get_or ws (item_size * i) 0) (get_or ws (item_size * i + 1) 0)
    (key_at (get_or ws (item_size * i + 2) 0) (get_or ws (item_size * i + 3) 0))
    (key_at (get_or ws (item_size * i + 4) 0) (get_or ws (item_size * i + 5) 0))

-- 01 keys.3: k items from index i on
unfoldable pub items_from : List ℕ → ℕ → ℕ → List ItemWords
items_from ws i zero = []
items_from ws i (suc k) = item_at ws i ∷ items_from ws (suc i) k

-- 01 m3.7: wrappers are read through
abbrev pub query_item : ItemWords → QueryItem
query_item it = item_of it.code it.start it.end

abbrev pub flat : ItemWords → List ℕ
flat it = it.code ∷ it.wrapper ∷ it.start.offset ∷ it.start.length ∷ it.end.offset ∷ it.end.length ∷ []

-- 01 keys.3: the words of a list of items
unfoldable pub flat_all : List ItemWords → List ℕ
flat_all [] = []
flat_all (it ∷ its) = flat it ++ flat_all its

-- 01 refusal.5: a list of words with an item written at an index; where it has no room nothing is written
unfoldable pub with_item : List ℕ → ℕ → ItemWords → List ℕ
with_item ws i it = cond (ltb i (length ws / item_size)) (sets ws (item_size * i) (flat it)) ws

-- 01 demand.3, 02 §10.1: items are the same by bytes where kind, wrapper and key bytes are

abbrev pub Shown : Type 0
Shown = ℕ × ℕ × List ℕ × List ℕ

abbrev pub shown : List ℕ → ItemWords → Shown
shown pool it = (it.code, it.wrapper, bytes_of pool it.start, bytes_of pool it.end)

-- 01 demand.3, 02 §6.5, §10.1: so are lists of items, one by one, whatever pools their keys stand in
abbrev pub SameShown : List ℕ → List ℕ → List ItemWords → List ItemWords → Type 0
SameShown P Q A B = map (shown P) A ≡ map (shown Q) B

-- 01 demand.2: a list holds a key when one of its items does, by the table
unfoldable pub holds_any : List ℕ → List ItemWords → List ℕ → Bool
holds_any pool [] k = false
holds_any pool (it ∷ its) k = holds pool (query_item it) k || holds_any pool its k
