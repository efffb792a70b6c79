-- The ranges of a list that are left at an index. Assumes nothing.
use Prim.Native.Nat.{ℕ, ◌+◌, ◌-◌, ◌/◌, ◌≤◌, ◌<◌}
use mathlib.Core.Path.{◌≡◌, refl}
use mathlib.Core.List.{List, [], ◌∷◌, ◌++◌}
use native.Mathlib.Decide.{dec_lt}
use native.Mathlib.Nat.{sub-zero}
use native.Mathlib.Omega.{arith}
use lib.ListN.{length, length-append, length-map}
use Rattle.query_item.specs.declared.RangeSet.{RangeSet}
use Rattle.query_item.specs.Items.{item_size, items_from}
use Rattle.query_item.specs.Boundaries.{range_of, set_at}
use Rattle.keyless.specs.Keyless.{piece_item}
use Rattle.item_check.proofs.Laws.{items_end, items_more}
use Rattle.item_lists.specs.Written.{as_items}
use Rattle.item_lists.proofs.Written.{at_most_one}
use Rattle.item_lists.proofs.Words.{length_items}
use Rattle.intersect_many.specs.Lists.{sets_of, keyed_items}
use Rattle.intersect_many.specs.Sweep.{sets_left, with_head, rest_left}
use Rattle.intersect_many.proofs.Pieces.{keyed_none, keyed_cons}

-- at the first index all are
pub sets_all : (ws : List ℕ) → sets_left ws 0 ≡ sets_of ws
sets_all ws = rw sub-zero

module _ (ws : List ℕ) (i : ℕ) where
  pub sets_end : length ws / item_size ≤ i → sets_left ws i ≡ []
  sets_end h = rw (items_end ws i (length ws / item_size) h)

  pub sets_more : i < length ws / item_size → sets_left ws i ≡ set_at ws i ∷ sets_left ws (i + 1)
  sets_more h = rw (items_more ws i (length ws / item_size) h)

  pub rest_end : (x : RangeSet) → length ws / item_size ≤ i → rest_left ws i x ≡ []
  rest_end x h = rw (sets_end h)

  pub rest_more : (x : RangeSet) → i < length ws / item_size → rest_left ws i x ≡ x ∷ sets_left ws (i + 1)
  rest_more x h = rw (sets_more h)

  -- whole as it is in the list
  pub rest_whole : rest_left ws i (set_at ws i) ≡ sets_left ws i
  rest_whole = elim (dec_lt i (length ws / item_size)) [
    | yes h ↦ rw (rest_more (set_at ws i) h, sets_more h)
    | no h ↦ rw (rest_end (set_at ws i) (omega arith), sets_end (omega arith))
  ]

pub keyed_more : (pool ws : List ℕ) (i : ℕ) → i < length ws / item_size
    → keyed_items pool (sets_left ws i) ≡ as_items (piece_item pool (set_at ws i)) ++ keyed_items pool (sets_left ws (i + 1))
keyed_more pool ws i h = rw (sets_more ws i h) (keyed_cons pool (set_at ws i) (sets_left ws (i + 1)))

pub keyed_rest : (pool ws : List ℕ) (i : ℕ) (x : RangeSet) → i < length ws / item_size
    → keyed_items pool (rest_left ws i x) ≡ as_items (piece_item pool x) ++ keyed_items pool (sets_left ws (i + 1))
keyed_rest pool ws i x h = rw (rest_more ws i x h) (keyed_cons pool x (sets_left ws (i + 1)))

-- ---- how many items are left at most

keyed_length : (pool : List ℕ) (S : List RangeSet) → length (keyed_items pool S) ≤ length S
keyed_length pool [] = rw (keyed_none pool) (omega arith)
keyed_length pool (s ∷ S) = rw (keyed_cons pool s S, length-append) (omega (arith, at_most_one (piece_item pool s), keyed_length pool S))

length_head : (x : RangeSet) (S : List RangeSet) → length (with_head x S) ≡ length S
length_head x [] = refl
length_head x (s ∷ S) = refl

pub rest_few : (pool ws : List ℕ) (i : ℕ) (x : RangeSet) → length (keyed_items pool (rest_left ws i x)) ≤ length ws / item_size - i
rest_few pool ws i x =
    omega (arith, keyed_length pool (rest_left ws i x), length_head x (sets_left ws i), length-map (items_from ws i (length ws / item_size - i)) range_of, length_items ws i (length ws / item_size - i))
