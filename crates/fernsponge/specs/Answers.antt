-- The numbers that stand for answers in the C interface, and what a call returns and leaves. Definitions only. Assumes nothing.
use Rattle.query_item.specs.declared.QueryItem.{QueryItem}
use Rattle.std.specs.Prelude.{ℕ, ◌+◌, ◌*◌, min, List, [], ◌∷◌, Bool, cond, get_or, leb, Option, None, Some, Ok, Err}
use Rattle.query_item.specs.declared.ItemWords.{ItemWords}
use Rattle.query_item.specs.declared.RangeSet.{RangeSet}
use Rattle.query_item.specs.Items.{key_at, absent, item_words, words_of, flat}
use Rattle.query_item.specs.Boundaries.{kind_of, key_of, with_key, from_to}
use Rattle.range_borrowed.specs.declared.KeyContainmentResult.{KeyContainmentResult}
use Rattle.range_borrowed.specs.Kinds.{kind_number, kind_numbered}
use Rattle.item_check.specs.declared.Refusal.{Refusal}
use Rattle.item_check.specs.Checks.{Answer}
use Rattle.fernsponge.specs.declared.numbers.SetWords.{SetWords}

-- ---- numbers (01 form.11); that of an order is `order_number` of `key_order`

-- yes is 1, no is 0
abbrev pub bool_number : Bool → ℕ
bool_number b = cond b 1 0

-- the numbers of the five kinds
abbrev pub is_kind : ℕ → Bool
is_kind n = leb n 4

-- the kinds that have no key: UnboundedStart and UnboundedEnd
abbrev pub is_unbounded : ℕ → Bool
is_unbounded n = leb n 1

-- ---- two boundaries as six words of their own (01 m2.1): the kinds of start and end, then both keys. The key words of an unbounded one are 0

unfoldable pub set_words : RangeSet → SetWords
set_words s = record { from = kind_number (kind_of s.start); to = kind_number (kind_of s.end); start = key_of s.start; end = key_of s.end }

unfoldable pub set_of_words : SetWords → RangeSet
set_of_words w = from_to (with_key (kind_numbered w.from) w.start) (with_key (kind_numbered w.to) w.end)

abbrev pub set_numbers : RangeSet → List ℕ
set_numbers s =
    let w = set_words s in
    w.from ∷ w.to ∷ w.start.offset ∷ w.start.length ∷ w.end.offset ∷ w.end.length ∷ []

unfoldable pub set_words_in : List ℕ → SetWords
set_words_in ns = record {
  from = get_or ns 0 0;
  to = get_or ns 1 0;
  start = key_at (get_or ns 2 0) (get_or ns 3 0);
  end = key_at (get_or ns 4 0) (get_or ns 5 0);
}

-- ---- seven words (01 keys.3, change.2)

-- an item that may be missing: 1 and its words, which are plain, or seven times 0

abbrev pub maybe_count : Option QueryItem → ℕ
maybe_count None = 0
maybe_count (Some q) = 1

abbrev pub maybe_words : Option QueryItem → ItemWords
maybe_words None = item_words 0 0 absent absent
maybe_words (Some q) = words_of 0 q

abbrev pub maybe_numbers : Option QueryItem → List ℕ
maybe_numbers m = maybe_count m ∷ flat (maybe_words m)

-- two: the key is held; it sits on an exclusive bound
abbrev pub containment_numbers : KeyContainmentResult → List ℕ
containment_numbers c = bool_number c.included ∷ bool_number c.on_bounds_not_included ∷ []

-- ---- what a call returns, and what it leaves (01 refusal.1)

-- a greater index is told as 2 ^ 40, so that the number fits 64 bits; no accepted list has so many items
abbrev pub most_index : ℕ
most_index = 1099511627776

-- a refusal as one number
abbrev pub refusal_number : Refusal → ℕ
refusal_number r = r.number + 256 * r.side + 65536 * min r.index most_index

-- the returned number: 0 is acceptance
abbrev pub returned : {A : Type 0} → Answer A → ℕ
returned (Ok a) = 0
returned (Err r) = refusal_number r

-- a place lent for a value of the answer: the value; where the call refuses, what it held before
abbrev pub left : {A : Type 0} → {B : Type 0} → (A → B) → Answer A → B → B
left value (Ok a) held = value a
left value (Err r) held = held

-- a number that is told as it is
abbrev pub itself : ℕ → ℕ
itself n = n
