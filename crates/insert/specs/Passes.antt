-- What the passes over a list go by, an item at a time: what has to be asked, the first change, the moved tail. `proofs/` says that they give
-- what Insertion.antt and Answers.antt define. It serves 01 m5.6, m5.7, m5.8. Assumes nothing.
use Rattle.std.specs.Ordering.{is_lt}
use Rattle.std.specs.Prelude.{ℕ, suc, ◌+◌, ◌*◌, ◌-◌, ◌/◌, ◌≤◌, ◌<◌, max, ◌≡◌, List, [], ◌∷◌, ◌++◌, Bool, true, false, cond, ◌&&◌, length, take, drop, replicate, ltb}
use Rattle.std.proofs.Math.Seq.{slice}
use Rattle.query_item.specs.declared.ItemWords.{ItemWords}
use Rattle.query_item.specs.Items.{item_size, item_at, items_from, flat_all}
use Rattle.insert_order.specs.Order.{compare_items}
use Rattle.insert_merge.specs.declared.Fate.TheVariants.{Stays}
use Rattle.insert_merge.specs.Merge.{fate_of, staying, is_staying}
use Rattle.insert.specs.Insertion.{placed}

-- ---- what has to be asked

-- no item of the first count is below an earlier one
abbrev pub Ascending : List ℕ → List ℕ → ℕ → Type 0
Ascending pool ws count = (j k : ℕ) → j < k → k < count → is_lt (compare_items pool (item_at ws k) (item_at ws j)) ≡ false

-- of the first count items n are below an item, and stand first
pub record Below (pool ws : List ℕ) (count : ℕ) (it : ItemWords) (n : ℕ) : Type 0 where
  pub within : n ≤ count
  pub below : (j : ℕ) → j < n → is_lt (compare_items pool (item_at ws j) it) ≡ true
  pub others : (j : ℕ) → n ≤ j → j < count → is_lt (compare_items pool (item_at ws j) it) ≡ false

-- the items from an index up to another stay
abbrev pub Stay : List ℕ → List ℕ → ItemWords → ℕ → ℕ → Type 0
Stay pool ws new a b = (j : ℕ) → a ≤ j → j < b → fate_of pool new (item_at ws j) ≡ Stays

-- of the first count items those before an index and those from another on stay
pub record Asked (pool ws : List ℕ) (count : ℕ) (new : ItemWords) (from to : ℕ) : Type 0 where
  pub ascends : from ≤ to
  pub within : to ≤ count
  pub front : Stay pool ws new 0 from
  pub back : Stay pool ws new to count

-- ---- what changes

-- an item that stays and is below the result keeps its place
abbrev pub keeps_place : List ℕ → ItemWords → ItemWords → ItemWords → Bool
keeps_place pool new result it = is_staying (fate_of pool new it) && is_lt (compare_items pool it result)

-- how many items at the front do
unfoldable pub first_changed : List ℕ → ItemWords → ItemWords → List ItemWords → ℕ
first_changed pool new result [] = 0
first_changed pool new result (it ∷ its) = cond (keeps_place pool new result it) (suc (first_changed pool new result its)) 0

-- ---- the tail

-- of two items one, by a test
abbrev pub pick : Bool → ItemWords → ItemWords → ItemWords
pick t x y = cond t x y

-- whether the item at an index stays, where all from another index on do
abbrev pub stays_at : List ℕ → ℕ → ℕ → ItemWords → ItemWords → Bool
stays_at pool i asked new it = cond (ltb i asked) (is_staying (fate_of pool new it)) true

-- what the first count items of a tail come to
abbrev pub tail_after : List ℕ → ItemWords → ItemWords → List ℕ → ℕ → List ItemWords
tail_after pool new result tail count = placed pool result (staying pool new (items_from tail 0 count))

-- what the passes over the tail ask for: room for that, and that from an index on all stay
abbrev pub TailFits : List ℕ → List ℕ → ℕ → ℕ → ItemWords → ItemWords → Type 0
TailFits pool tail count asked new result =
    (count ≤ length tail / item_size)
    × (length (tail_after pool new result tail count) ≤ length tail / item_size)
    × Stay pool tail new asked count

-- what goes out before the item in hand, where that is not placed yet
abbrev pub goes_first : List ℕ → Bool → ItemWords → ItemWords → Bool
goes_first pool is_placed it hand = cond is_placed false (is_lt (compare_items pool it hand))

-- the front is a list's words, and what is past it and past the old count stands as it was
pub record Moved (ws : List ℕ) (count : ℕ) (its : List ItemWords) (after : List ℕ) : Type 0 where
  pub size : length after ≡ length ws
  pub front : take (item_size * length its) after ≡ flat_all its
  pub back : drop (item_size * max count (length its)) after ≡ drop (item_size * max count (length its)) ws

-- the words from one index up to another moved up by an item's size; the words that this frees stand as they were
unfoldable pub raised : List ℕ → ℕ → ℕ → List ℕ
raised ws from to = take (from + item_size) ws ++ (slice from to ws ++ drop (to + item_size) ws)

-- items set to 0 from one index up to another
unfoldable pub cleared : List ℕ → ℕ → ℕ → List ℕ
cleared ws from to =
    take (item_size * from) ws ++ (replicate (item_size * (to - from)) 0 ++ drop (item_size * max to from) ws)
