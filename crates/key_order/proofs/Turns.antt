-- The order of two keys from a place on, as a loop over both of them meets it: a turn of eight bytes, a turn of one, the ends, and blocks that agree.
-- Assumes nothing.
use Rattle.std.specs.declared.cmp.Ordering.{Ordering}
use Rattle.std.specs.declared.cmp.Ordering.TheVariants.{Less, Equal, Greater}
use Prim.Native.Nat.{ℕ, suc, ◌+◌, ◌-◌, ◌≤◌, ◌<◌, min}
use mathlib.Core.Path.{◌≡◌, refl, sym, ap₂, ◌∙◌}
use mathlib.Core.Logic.{◌≢◌}
use mathlib.Core.List.{List, [], ◌∷◌, ◌++◌}
use native.Mathlib.Decide.{dec_lt}
use native.Mathlib.Omega.{arith}
use native.Mathlib.Numerals.{add-one}
use lib.ListN.{length, take, drop, get_or, drop_of_length-le, length-drop, take-append-drop}
use lib.Bits.{bit_or, bit_xor, or_add_and, xor_add_and, and_le_l, and_le_r}
use lib.Seq.{drop-cons, drop-drop, length-take-le}
use Rattle.key_order.specs.Order.{compare_numbers, then_by, compare_keys}
use Rattle.key_order.specs.Words.{be}
use Rattle.key_order.specs.Inner.{Reached}
use Rattle.key_order.proofs.Numbers.{Says, says_unique, numbers_say, numbers_of_says}
use Rattle.key_order.proofs.Words.{Bytes, bytes_take, bytes_drop, be_says}

-- ---- eight bytes

then_by_then : (o p q : Ordering) → then_by (then_by o p) q ≡ then_by o (then_by p q)
then_by_then Less p q = refl
then_by_then Equal p q = refl
then_by_then Greater p q = refl

-- numbers that differ leave nothing to decide
then_apart : (x y : ℕ) → x ≢ y → (r : Ordering) → then_by (compare_numbers x y) r ≡ compare_numbers x y
then_apart x y d = go (compare_numbers x y) (numbers_say x y)
  where
    go : (o : Ordering) → Says o x y → (r : Ordering) → then_by o r ≡ o
    go Less s r = refl
    go Equal s r = absurd (d s)
    go Greater s r = refl

-- keys that begin with parts of one length: the parts decide, and then what follows
compare_append : (x y k l : List ℕ) → length x ≡ length y → compare_keys (x ++ k) (y ++ l) ≡ then_by (compare_keys x y) (compare_keys k l)
unfolding compare_keys
compare_append [] [] k l e = refl
compare_append [] (d ∷ y) k l e = absurd (omega arith)
compare_append (c ∷ x) [] k l e = absurd (omega arith)
compare_append (c ∷ x) (d ∷ y) k l e =
    rw (compare_append x y k l (omega arith)) (sym (then_by_then (compare_numbers c d) (compare_keys x y) (compare_keys k l)))

module _ (a b : List ℕ) (i : ℕ) (h : i + 8 ≤ length a) (k : i + 8 ≤ length b) where
  abbrev eight : List ℕ → List ℕ
  eight l = take 8 (drop i l)

  long : (l : List ℕ) → i + 8 ≤ length l → length (eight l) ≡ 8
  long l h = length-take-le 8 (drop i l) (rw (length-drop i l) (omega arith))

  apart : (l : List ℕ) → drop i l ≡ eight l ++ drop (i + 8) l
  apart l = sym (take-append-drop 8 (drop i l)) ∙ rw (drop-drop 8 i l)

  word_turn : compare_keys (drop i a) (drop i b) ≡ then_by (compare_keys (eight a) (eight b)) (compare_keys (drop (i + 8) a) (drop (i + 8) b))
  word_turn = ap₂ compare_keys (apart a) (apart b) ∙ compare_append (eight a) (eight b) _ _ (long a h ∙ sym (long b k))

  -- x and y are read from the parts of eight bytes
  module _ (s : Bytes a) (t : Bytes b) {x y : ℕ} (p : x ≡ be (take (i + 8 - i) (drop i a))) (q : y ≡ be (take (i + 8 - i) (drop i b))) where
    word_is : (o : Ordering) → Says o x y → compare_keys (eight a) (eight b) ≡ o
    word_is o says =
        let e : i + 8 - i ≡ 8 = omega arith in
        says_unique _ o _ _ (be_says (eight a) (eight b) (long a h ∙ sym (long b k)) (bytes_take 8 _ (bytes_drop i a s)) (bytes_take 8 _ (bytes_drop i b t)))
        (rw (p, q, e) at says)

    pub word_decides : x ≢ y → compare_keys (drop i a) (drop i b) ≡ compare_numbers x y
    word_decides d = word_turn ∙ rw (word_is (compare_numbers x y) (numbers_say x y)) (then_apart x y d _)

    pub word_same : x ≡ y → compare_keys (drop i a) (drop i b) ≡ compare_keys (drop (i + 8) a) (drop (i + 8) b)
    word_same e = word_turn ∙ rw (word_is Equal e)

-- ---- one byte, and the ends

module _ (a b : List ℕ) (i : ℕ) where
  -- at a place that both keys have, their bytes there decide, and then what follows
  pub turn : i < length a → i < length b
      → compare_keys (drop i a) (drop i b) ≡ then_by (compare_numbers (get_or a i 0) (get_or b i 0)) (compare_keys (drop (suc i) a) (drop (suc i) b))
  unfolding compare_keys
  turn h k = rw (drop-cons a i 0, drop-cons b i 0)

  pub same_here : i < length a → i < length b → get_or a i 0 ≡ get_or b i 0
      → compare_keys (drop i a) (drop i b) ≡ compare_keys (drop (i + 1) a) (drop (i + 1) b)
  same_here h k e = rw (turn, add-one, numbers_of_says Equal)

  pub byte_decides : i < length a → i < length b → get_or a i 0 ≢ get_or b i 0
      → compare_keys (drop i a) (drop i b) ≡ compare_numbers (get_or a i 0) (get_or b i 0)
  byte_decides h k d = turn h k ∙ then_apart (get_or a i 0) (get_or b i 0) d _

  -- where the shorter one has ended the lengths decide
  pub lengths_decide : i ≤ length a → i ≤ length b → min (length a) (length b) ≤ i
      → compare_keys (drop i a) (drop i b) ≡ compare_numbers (length a) (length b)
  unfolding compare_keys
  lengths_decide h k e = elim (dec_lt i (length a)) [
    | yes l ↦ let s : length b ≤ i = omega arith in rw (drop_of_length-le b, drop-cons a i 0) (sym (numbers_of_says Greater _ _ (omega arith)))
    | no l ↦ let s : length a ≤ i = omega arith in elim (dec_lt i (length b)) [
      | yes m ↦ rw (drop_of_length-le a, drop-cons b i 0) (sym (numbers_of_says Less _ _ (omega arith)))
      | no m ↦ let t : length b ≤ i = omega arith in rw (drop_of_length-le a, drop_of_length-le b) (sym (numbers_of_says Equal _ _ (omega arith)))
    ]
  ]

-- ---- places from which on the keys stand as they do as a whole

pub reached_start : (a b : List ℕ) → Reached a b 0
reached_start a b = record { first = omega arith; second = omega arith; order = refl }

pub reached_byte : (a b : List ℕ) (i : ℕ) → i < length a → i < length b → get_or a i 0 ≡ get_or b i 0 → Reached a b i → Reached a b (i + 1)
reached_byte a b i h k e r = record { first = omega arith; second = omega arith; order = r.order ∙ same_here a b i h k e }

-- bits that differ, gathered in one number: none did, and none does here
pub none_apart : (g x y : ℕ) → bit_or g (bit_xor x y) ≡ 0 → (g ≡ 0) × (x ≡ y)
none_apart g x y e =
    let z : (g ≡ 0) × (bit_xor x y ≡ 0) =
    (omega (arith, or_add_and g (bit_xor x y), and_le_l g (bit_xor x y), and_le_r g (bit_xor x y)), omega (arith, or_add_and g (bit_xor x y), and_le_l g (bit_xor x y), and_le_r g (bit_xor x y))) in
    (z.0, omega (arith, z.1, xor_add_and x y, and_le_l x y, and_le_r x y))
