-- What the rewriting of a tail leaves is laid; and answers and words by the room. Assumes nothing.
use Rattle.std.specs.Prelude.{Ok}
use Prim.Native.Nat.{ℕ, suc, ◌+◌, ◌-◌, ◌*◌, ◌/◌, ◌≤◌, ◌<◌, max}
use mathlib.Core.Path.{◌≡◌, sym, ap, ◌∙◌}
use mathlib.Core.List.{List, [], ◌∷◌, ◌++◌}
use native.Mathlib.Omega.{arith}
use lib.ListN.{length, drop, replicate}
use lib.Seq.{sets, drop-drop}
use borrow.Author.Tests.{lt-ltb, le-ltb}
use Rattle.intervals.specs.Intervals.{Interval}
use Rattle.item_check.specs.Checks.{refused}
use Rattle.pairs_sort.specs.Pairs.{start, finish, pairs_from, pairs, flat_pairs}
use Rattle.pairs_sort.proofs.Laws.{pairs_more, pairs_end, pairs_length}
use Rattle.position_given.specs.Positions.{rows_of}
use Rattle.position_stored.specs.Stored.{laid, change_answer, change_words}
use Rattle.position_stored.specs.Inner.{StoredList}
use Rattle.position_stored.proofs.Checks.{stored_accepts}
use Rattle.position_stored.proofs.Words.{laid_is, laid_same}

-- ---- the tail

module _ (ws : List ℕ) (count at from : ℕ) (old : count ≤ length ws / 2) where
  pub place_is : (s e : ℕ) (v w : List ℕ) → at + 1 + (count - from) ≤ length ws / 2
      → v ≡ sets ws (2 * at) (s ∷ e ∷ flat_pairs (pairs_from ws from (count - from)))
      → w ≡ sets v (2 * (at + 1 + (count - from))) (replicate (2 * count - 2 * (at + 1 + (count - from))) 0)
      → w ≡ laid ws count (pairs ws at ++ (s, e) ∷ pairs_from ws from (count - from))
  unfolding flat_pairs
  place_is s e v w new is-v is-w =
      let M : List Interval = (s, e) ∷ pairs_from ws from (count - from) in
      let m : length M ≡ suc (count - from) = ap suc (pairs_length ws (count - from) from) in
      let q : at + 1 + (count - from) ≡ at + length M = omega arith in
      is-w ∙ rw (is-v, q) (laid_is ws count at M (omega arith) (omega arith))

  pub close_none : (w : List ℕ) → at ≤ count → from ≡ count → w ≡ sets ws (2 * at) (replicate (2 * count - 2 * at) 0)
      → w ≡ laid ws count (pairs ws at ++ pairs_from ws from (count - from))
  unfolding flat_pairs
  close_none w h k is-w =
      let q : at + 0 ≡ at = omega arith in
      is-w ∙ rw (pairs_end ws from count (omega arith)) (rw q at (laid_is ws count at [] (omega arith) (omega arith)))

  pub close_some : (w : List ℕ) → from < count
      → w ≡ laid ws count (pairs ws at ++ (start ws from, finish ws from) ∷ pairs_from ws (from + 1) (count - (from + 1)))
      → w ≡ laid ws count (pairs ws at ++ pairs_from ws from (count - from))
  close_some w h is-w = is-w ∙ rw (pairs_more ws from count h)

-- words that agree from the old list's end on
pub laid_later : (ws vs : List ℕ) (count : ℕ) (A : List Interval) → drop (2 * count) vs ≡ drop (2 * count) ws → laid vs count A ≡ laid ws count A
unfolding laid
laid_later ws vs count A h =
    let k : ℕ = 2 * max count (length A) - 2 * count in
    let q : 2 * max count (length A) ≡ 2 * count + k = omega arith in
    rw (q, ← drop-drop k (2 * count) vs, ← drop-drop k (2 * count) ws, h)

-- ---- the room of an accepted list that becomes C

module _ {ws : List ℕ} {count total : ℕ} (S : StoredList ws count total) (A C : List Interval) (n : ℕ) (is : C ≡ A) (size : length A ≡ n) where
  pub room_answer : (m : ℕ) → rows_of A ≡ m → n ≤ length ws / 2 → Ok (n, m) ≡ change_answer ws count total C
  room_answer m rows h = rw (stored_accepts ws count total S, is, size, rows, le-ltb (length ws / 2) n h)

  pub room_words : n ≤ length ws / 2 → laid ws count A ≡ change_words ws count total C
  room_words h = rw (stored_accepts ws count total S, is, size, le-ltb (length ws / 2) n h)

  pub none_answer : length ws / 2 < n → refused 6 0 0 ≡ change_answer ws count total C
  none_answer h = rw (stored_accepts ws count total S, is, size, lt-ltb (length ws / 2) n h)

  pub none_words : length ws / 2 < n → ws ≡ change_words ws count total C
  none_words h = rw (stored_accepts ws count total S, is, size, lt-ltb (length ws / 2) n h)

-- one that does not change
module _ {ws : List ℕ} {count total : ℕ} (S : StoredList ws count total) (C : List Interval) (is : C ≡ pairs ws count) where
  pub same_answer : Ok (count, total) ≡ change_answer ws count total C
  same_answer = room_answer S (pairs ws count) C count is (pairs_length ws count 0) total S.right S.within

  pub same_words : ws ≡ change_words ws count total C
  same_words =
      sym (laid_same ws count (omega (arith, S.within)))
      ∙ room_words S (pairs ws count) C count is (pairs_length ws count 0) S.within
