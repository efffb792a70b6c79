-- Items as words: what is written reads back; and words that are not whole, where what is past the list's end reads as 0. Assumes nothing.
use Prim.Native.Nat.{ℕ, zero, suc, ◌+◌, ◌*◌, ◌≤◌, ◌<◌, min}
use mathlib.Core.Path.{◌≡◌, refl, sym, ap, ◌∙◌}
use mathlib.Core.Bool.{false}
use mathlib.Core.List.{List}
use native.Mathlib.Decide.{dec_le}
use native.Mathlib.Omega.{arith}
use lib.ListN.{length, get_or, get_or-eq_default}
use lib.Dec.{eqb}
use borrow.Author.Tests.{ne_eqb}
use Rattle.query_item.specs.declared.KeyAt.{KeyAt}
use Rattle.query_item.specs.declared.QueryItem.{QueryItem}
use Rattle.query_item.specs.declared.QueryItem.TheVariants.{
  Key,
  Range,
  RangeInclusive,
  RangeFull,
  RangeFrom,
  RangeTo,
  RangeToInclusive,
  RangeAfter,
  RangeAfterTo,
  RangeAfterToInclusive,
}
use Rattle.query_item.specs.Items.{item_of, key_at, item_words, words_of, query_item, item_size, item_at}

pub query_words : (w : ℕ) (q : QueryItem) → query_item (words_of w q) ≡ q
query_words w (Key a) = refl
query_words w (Range a b) = refl
query_words w (RangeInclusive a b) = refl
query_words w RangeFull = refl
query_words w (RangeFrom a) = refl
query_words w (RangeTo b) = refl
query_words w (RangeToInclusive b) = refl
query_words w (RangeAfter a) = refl
query_words w (RangeAfterTo a b) = refl
query_words w (RangeAfterToInclusive a b) = refl

pub wrapper_words : (w : ℕ) (q : QueryItem) → (words_of w q).wrapper ≡ w
wrapper_words w (Key a) = refl
wrapper_words w (Range a b) = refl
wrapper_words w (RangeInclusive a b) = refl
wrapper_words w RangeFull = refl
wrapper_words w (RangeFrom a) = refl
wrapper_words w (RangeTo b) = refl
wrapper_words w (RangeToInclusive b) = refl
wrapper_words w (RangeAfter a) = refl
wrapper_words w (RangeAfterTo a b) = refl
wrapper_words w (RangeAfterToInclusive a b) = refl

module _ (ws : List ℕ) (i f : ℕ) (e : f ≡ min i (length ws)) where
  clipped : (m n k : ℕ) → m ≡ item_size * f + k → n ≡ item_size * i + k → get_or ws m 0 ≡ get_or ws n 0
  clipped m n k p q = elim (dec_le i (length ws)) [
    | yes h ↦ let r : m ≡ n = omega arith in ap (λ (x : ℕ). get_or ws x 0) r
    | no h ↦ get_or-eq_default ws 0 {n = m} (omega arith) ∙ sym (get_or-eq_default ws 0 {n = n} (omega arith))
  ]

  -- an index past the list's end may be put back to the end
  pub item_clipped :
      item_words (get_or ws (item_size * f) 0) (get_or ws (item_size * f + 1) 0)
      (key_at (get_or ws (item_size * f + 2) 0) (get_or ws (item_size * f + 3) 0))
      (key_at (get_or ws (item_size * f + 4) 0) (get_or ws (item_size * f + 5) 0))
      ≡ item_at ws i
  unfolding item_at
  item_clipped = rw (
    clipped (item_size * f) (item_size * i) 0 (omega arith) (omega arith),
    clipped (item_size * f + 1) (item_size * i + 1) 1 (omega arith) (omega arith),
    clipped (item_size * f + 2) (item_size * i + 2) 2 (omega arith) (omega arith),
    clipped (item_size * f + 3) (item_size * i + 3) 3 (omega arith) (omega arith),
    clipped (item_size * f + 4) (item_size * i + 4) 4 (omega arith) (omega arith),
    clipped (item_size * f + 5) (item_size * i + 5) 5 (omega arith) (omega arith),
  )

-- ---- one of the ten codes

pub each_code : (P : ℕ → Type 0) → P 0 → P 1 → P 2 → P 3 → P 4 → P 5 → P 6 → P 7 → P 8 → P 9 → (c : ℕ) → c ≤ 9 → P c
each_code P p0 p1 p2 p3 p4 p5 p6 p7 p8 p9 zero h = p0
each_code P p0 p1 p2 p3 p4 p5 p6 p7 p8 p9 (suc zero) h = p1
each_code P p0 p1 p2 p3 p4 p5 p6 p7 p8 p9 (suc (suc zero)) h = p2
each_code P p0 p1 p2 p3 p4 p5 p6 p7 p8 p9 (suc (suc (suc zero))) h = p3
each_code P p0 p1 p2 p3 p4 p5 p6 p7 p8 p9 (suc (suc (suc (suc zero)))) h = p4
each_code P p0 p1 p2 p3 p4 p5 p6 p7 p8 p9 (suc (suc (suc (suc (suc zero))))) h = p5
each_code P p0 p1 p2 p3 p4 p5 p6 p7 p8 p9 (suc (suc (suc (suc (suc (suc zero)))))) h = p6
each_code P p0 p1 p2 p3 p4 p5 p6 p7 p8 p9 (suc (suc (suc (suc (suc (suc (suc zero))))))) h = p7
each_code P p0 p1 p2 p3 p4 p5 p6 p7 p8 p9 (suc (suc (suc (suc (suc (suc (suc (suc zero)))))))) h = p8
each_code P p0 p1 p2 p3 p4 p5 p6 p7 p8 p9 (suc (suc (suc (suc (suc (suc (suc (suc (suc zero))))))))) h = p9
each_code P p0 p1 p2 p3 p4 p5 p6 p7 p8 p9 (suc (suc (suc (suc (suc (suc (suc (suc (suc (suc c)))))))))) h = absurd (omega arith)

-- the item of a code, a start and an end: a line of the table, or the full range where the table has no line for the code
module _ (a b : KeyAt) where
  pub unknown_item : (c : ℕ) → 9 < c → item_of c a b ≡ RangeFull
  unknown_item c h =
      let no : (n : ℕ) → n ≤ 9 → eqb c n ≡ false = (λ n l. ne_eqb c n (λ e. omega arith)) in
      rw (
        no 0 (omega arith),
        no 1 (omega arith),
        no 2 (omega arith),
        no 4 (omega arith),
        no 5 (omega arith),
        no 6 (omega arith),
        no 7 (omega arith),
        no 8 (omega arith),
        no 9 (omega arith),
      )

  pub each_item : (P : ℕ → QueryItem → Type 0)
      → P 0 (Key a) → P 1 (Range a b) → P 2 (RangeInclusive a b) → P 3 RangeFull → P 4 (RangeFrom a) → P 5 (RangeTo b) → P 6 (RangeToInclusive b) → P 7 (RangeAfter a) → P 8 (RangeAfterTo a b) → P 9 (RangeAfterToInclusive a b)
      → ((c : ℕ) → 9 < c → P c RangeFull) → (c : ℕ) → P c (item_of c a b)
  each_item P p0 p1 p2 p3 p4 p5 p6 p7 p8 p9 more c = elim (dec_le c 9) [
    | yes h ↦ each_code (λ (d : ℕ). P d (item_of d a b)) p0 p1 p2 p3 p4 p5 p6 p7 p8 p9 c h
    | no h ↦ rw (unknown_item c (omega arith)) (more c (omega arith))
  ]
