-- Decimal digits, and bytes stored one after another. Assumes nothing.
use Prim.Native.Nat.{ℕ, zero, suc, ◌+◌, ◌/◌, ◌%◌, ◌^◌, ◌≤◌, ◌<◌, min}
use mathlib.Core.Path.{◌≡◌, refl, sym, ap, ◌∙◌}
use mathlib.Core.List.{List, [], ◌∷◌, ◌++◌}
use native.Mathlib.Decide.{dec_lt}
use native.Mathlib.Nat.{pow-suc}
use native.Mathlib.Numerals.{add-one}
use native.Mathlib.Omega.{arith}
use lib.ListN.{length, get_or, take, drop, set, length-append, length-set, drop_of_length-le}
use lib.Seq.{sets, sets-eq, set_out, drop-cons}
use Rattle.std.proofs.lemmas.List.{take_all}
use borrow.Author.Tests.{lt-ltb, le-ltb}
use Rattle.lent_text.specs.Text.{digits, decimal, stored}

-- ---- digits

digits_one : (k n : ℕ) → n < 10 → digits (suc k) n ≡ (48 + n) ∷ []
unfolding digits
digits_one k n h = rw (lt-ltb n 10 h)

digits_many : (k n : ℕ) → 10 ≤ n → digits (suc k) n ≡ digits k (n / 10) ++ (48 + n % 10) ∷ []
unfolding digits
digits_many k n h = rw (le-ltb n 10 h)

-- more places than are needed change nothing
digits_same : (k n : ℕ) → n < 10 ^ suc k → digits (suc (suc k)) n ≡ digits (suc k) n
digits_same zero n h = digits_one 1 n (omega (arith, pow-suc 10 0, h)) ∙ sym (digits_one 0 n (omega (arith, pow-suc 10 0, h)))
digits_same (suc k) n h = elim (dec_lt n 10) [
  | yes l ↦ digits_one (suc (suc k)) n l ∙ sym (digits_one (suc k) n l)
  | no l ↦ rw (digits_many (suc (suc k)) n (omega arith), digits_many (suc k) n (omega arith), digits_same k (n / 10) (omega (arith, pow-suc 10 (suc k), h)))
]

pub decimal_one : (n : ℕ) → n < 10 → decimal n ≡ (48 + n) ∷ []
decimal_one n h = digits_one 19 n h

pub decimal_many : (n : ℕ) → 10 ≤ n → n < 18446744073709551616 → decimal n ≡ decimal (n / 10) ++ (48 + n % 10) ∷ []
decimal_many n h l = digits_many 19 n h ∙ ap (λ (d : List ℕ). d ++ (48 + n % 10) ∷ []) (sym (digits_same 18 (n / 10) (small (n / 10) (omega arith))))
  where
    small : (m : ℕ) → m < 10000000000000000000 → m < 10 ^ 19
    small m h = h

digits_few : (k n : ℕ) → length (digits k n) ≤ k
digits_few zero n = unfold digits in omega arith
digits_few (suc k) n = elim (dec_lt n 10) [
  | yes l ↦ rw (digits_one k n l) (omega arith)
  | no l ↦ rw (digits_many k n (omega arith), length-append (digits k (n / 10)) ((48 + n % 10) ∷ [])) (omega (arith, digits_few k (n / 10)))
]

pub decimal_few : (n : ℕ) → length (decimal n) ≤ 20
decimal_few n = digits_few 20 n

pub decimal_two : (n : ℕ) → n < 100 → length (decimal n) ≤ 2
decimal_two n h = elim (dec_lt n 10) [
  | yes l ↦ rw (digits_one 19 n l) (omega arith)
  | no l ↦ rw (digits_many 19 n (omega arith), digits_one 18 (n / 10) (omega arith)) (omega arith)
]

-- ---- bytes stored

sets_append : (xs ys l : List ℕ) (at : ℕ) → sets (sets l at xs) (at + length xs) ys ≡ sets l at (xs ++ ys)
sets_append [] ys l at = let q : at + 0 ≡ at = omega arith in rw q
sets_append (x ∷ xs) ys l at = let q : at + suc (length xs) ≡ suc at + length xs = omega arith in rw q (sets_append xs ys (set l at x) (suc at))

sets_past : (xs l : List ℕ) (at : ℕ) → length l ≤ at → sets l at xs ≡ l
sets_past [] l at h = refl
sets_past (x ∷ xs) l at h = rw (set_out l at x h) (sets_past xs l (suc at) (omega arith))

-- what has no room is left out
sets_short : (xs l : List ℕ) (at n : ℕ) → length l ≤ at + n → sets l at (take n xs) ≡ sets l at xs
sets_short [] l at n h = rw (take_all {A = ℕ} n [] (omega arith))
sets_short (x ∷ xs) l at zero h = sym (sets_past (x ∷ xs) l at (omega arith))
sets_short (x ∷ xs) l at (suc n) h = sets_short xs (set l at x) (suc at) n (omega (arith, length-set {A = ℕ}))

pub stored_append : (l : List ℕ) (at : ℕ) (xs ys : List ℕ) → stored (stored l at xs) (at + length xs) ys ≡ stored l at (xs ++ ys)
unfolding stored
stored_append l at xs ys = sets_append xs ys l at

pub stored_none : (l : List ℕ) (at : ℕ) → stored l at [] ≡ l
unfolding stored
stored_none l at = refl

-- nothing is stored past the end
pub stored_past : (l : List ℕ) (at : ℕ) (xs : List ℕ) → length l ≤ at → stored l at xs ≡ l
unfolding stored
stored_past l at xs h = sets_past xs l at h

-- nor what has no room
pub stored_short : (l : List ℕ) (at x : ℕ) (xs : List ℕ) → length l ≤ at + 1 → stored l at (x ∷ []) ≡ stored l at (x ∷ xs)
unfolding stored
stored_short l at x xs h = sets_short (x ∷ xs) l at 1 h

-- a place that is capped is past the end, as the one that it stands for
pub stored_capped : (l : List ℕ) (at most j : ℕ) (xs : List ℕ) → j ≡ min at most → length l ≤ most → stored l j xs ≡ stored l at xs
stored_capped l at most j xs e h = elim (dec_lt most at) [
  | yes p ↦ stored_past l j xs (omega arith) ∙ sym (stored_past l at xs (omega arith))
  | no p ↦ let q : j ≡ at = omega arith in rw q
]

-- ---- a text byte by byte

pub text_turn : (l m text : List ℕ) (at i : ℕ) → i < length text → m ≡ stored l (at + i) (get_or text i 0 ∷ [])
    → stored m (at + (i + 1)) (drop (i + 1) text) ≡ stored l (at + i) (drop i text)
text_turn l m text at i h is =
    let q : at + (i + 1) ≡ at + i + 1 = omega arith in
    rw (is, q, add-one i, drop-cons text i 0 h) (stored_append l (at + i) (get_or text i 0 ∷ []) (drop (suc i) text))

pub text_done : (l text : List ℕ) (at i : ℕ) → length text ≤ i → stored l at (drop i text) ≡ l
text_done l text at i h = rw (drop_of_length-le text {i = i} h) (stored_none l at)

pub text_start : (l text : List ℕ) (at : ℕ) → stored l (at + 0) (drop 0 text) ≡ stored l at text
text_start l text at = let q : at + 0 ≡ at = omega arith in rw q

-- texts one after another, of j, k, .. bytes

pub stored_next : (l m o : List ℕ) (at j k : ℕ) (xs ys : List ℕ) → m ≡ stored l at xs → j ≡ length xs → o ≡ stored m (at + j) ys → k ≡ length ys
    → (j + k ≡ length (xs ++ ys)) × (o ≡ stored l at (xs ++ ys))
stored_next l m o at j k xs ys is_m is-j is-o is-k =
    (omega (arith, length-append xs ys), is-o ∙ rw (is_m, is-j) (stored_append l at xs ys))

-- the same from the front on

pub stored_two : (l m o : List ℕ) (j k : ℕ) (xs ys : List ℕ) → m ≡ stored l 0 xs → j ≡ length xs → o ≡ stored m j ys → k ≡ length ys
    → (j + k ≡ length (xs ++ ys)) × (o ≡ stored l 0 (xs ++ ys))
stored_two l m o j k xs ys is_m is-j is-o is-k =
    let z : 0 + j ≡ j = omega arith in
    stored_next l m o 0 j k xs ys is_m is-j (rw z is-o) is-k

pub stored_three : (l m o p : List ℕ) (j k n : ℕ) (xs ys zs : List ℕ) → m ≡ stored l 0 xs → j ≡ length xs → o ≡ stored m j ys → k ≡ length ys
    → p ≡ stored o (j + k) zs → n ≡ length zs → (j + k + n ≡ length (xs ++ (ys ++ zs))) × (p ≡ stored l 0 (xs ++ (ys ++ zs)))
stored_three l m o p j k n xs ys zs is_m is-j is-o is-k is-p is-n =
    let later = stored_next m o p j k n ys zs is-o is-k is-p is-n in
    let all = stored_two l m p j (k + n) xs (ys ++ zs) is_m is-j later.1 later.0 in
    (omega (arith, all.0), all.1)

pub stored_four : (l m o p q : List ℕ) (j k n r : ℕ) (xs ys zs us : List ℕ) → m ≡ stored l 0 xs → j ≡ length xs → o ≡ stored m j ys → k ≡ length ys
    → p ≡ stored o (j + k) zs → n ≡ length zs → q ≡ stored p (j + k + n) us → r ≡ length us
    → (j + k + n + r ≡ length (xs ++ (ys ++ (zs ++ us)))) × (q ≡ stored l 0 (xs ++ (ys ++ (zs ++ us))))
stored_four l m o p q j k n r xs ys zs us is_m is-j is-o is-k is-p is-n is-q is-r =
    let later = stored_next o p q (j + k) n r zs us is-p is-n is-q is-r in
    let all = stored_three l m o q j k (n + r) xs ys (zs ++ us) is_m is-j is-o is-k later.1 later.0 in
    (omega (arith, all.0), all.1)

pub stored_whole : (l text : List ℕ) → length text ≤ length l → stored l 0 text ≡ text ++ drop (length text) l
unfolding stored
stored_whole l text h = let z : 0 + length text ≡ length text = omega arith in sets-eq text l 0 (omega arith) ∙ rw z
