-- Digits and their bytes, one after another. Assumes nothing.
use Prim.Native.Nat.{ℕ, zero, suc, ◌+◌, ◌*◌, ◌-◌, ◌/◌, ◌%◌, ◌≤◌, ◌<◌}
use mathlib.Core.Path.{◌≡◌, refl}
use mathlib.Core.Bool.{Bool, true, false, cond, not, ◌&&◌, ◌||◌, false≢true}
use mathlib.Core.List.{List, [], ◌∷◌, ◌++◌}
use native.Mathlib.Omega.{arith}
use lib.ListN.{length, get_or}
use lib.Dec.{leb, eqb}
use borrow.Author.Tests.{leb-true, eqb-true}
use Rattle.lent_text.specs.Text.{stored}
use Rattle.lent_text.proofs.Laws.{stored_append, stored_none}
use Rattle.item_name.proofs.Laws.{other_length}
use Rattle.key_order.proofs.Bools.{both_true}
use Rattle.sheet_read.specs.Passes.{Digits}
use Rattle.sheet_row.specs.Lanes.{is_decimal, is_upper, is_lower, is_hex, hex_value, all_hex, is_key, fits_field, hex_bytes}

-- ---- a digit

pub within : (lo hi c : ℕ) → leb lo c && leb c hi ≡ true → (lo ≤ c) × (c ≤ hi)
within lo hi c h = go (leb lo c) (leb c hi) refl refl h
  where
    go : (s t : Bool) → leb lo c ≡ s → leb c hi ≡ t → s && t ≡ true → (lo ≤ c) × (c ≤ hi)
    go true true d e q = (leb-true lo c d, leb-true c hi e)
    go true false d e q = absurd (false≢true q)
    go false t d e q = absurd (false≢true q)

-- what a digit counts by its last four bits
pub value_hex : (c : ℕ) → is_hex c ≡ true → (c % 16 + 9 * (c / 64) ≡ hex_value c) × (c % 16 + 9 * (c / 64) < 16)
unfolding hex_value
value_hex c h = go (is_decimal c) (is_upper c) (is_lower c) refl refl refl h
  where
    go : (d u l : Bool) → is_decimal c ≡ d → is_upper c ≡ u → is_lower c ≡ l → d || u || l ≡ true
        → (c % 16 + 9 * (c / 64) ≡ cond d (c - 48) (cond u (c - 55) (cond l (c - 87) 0))) × (c % 16 + 9 * (c / 64) < 16)
    go true u l d e f q = (omega (arith, within 48 57 c d), omega (arith, within 48 57 c d))
    go false true l d e f q = (omega (arith, within 65 70 c e), omega (arith, within 65 70 c e))
    go false false true d e f q = (omega (arith, within 97 102 c f), omega (arith, within 97 102 c f))
    go false false false d e f q = absurd (false≢true q)

-- ---- two by two

pub digits_turn : (p r : List ℕ) → length p ≡ 2 → Digits (p ++ r)
    → ((is_hex (get_or p 0 0) ≡ true) × (is_hex (get_or p 1 0) ≡ true)) × Digits r
digits_turn [] r e h = absurd (omega arith)
digits_turn (c ∷ []) r e h = absurd (omega arith)
digits_turn (c ∷ d ∷ x ∷ p) r e h = absurd (omega arith)
digits_turn (c ∷ d ∷ []) r e h = (
  h 0 (omega arith),
  λ i l.
      let even : 2 * (i + 1) ≡ suc (suc (2 * i)) = omega arith in
      let odd : 2 * (i + 1) + 1 ≡ suc (suc (2 * i + 1)) = omega arith in
      let both = h (i + 1) (omega arith) in
      (rw even at both.0, rw odd at both.1),
)

pub bytes_turn : (l m p r : List ℕ) (at i b : ℕ) → length p ≡ 2 → b ≡ 16 * hex_value (get_or p 0 0) + hex_value (get_or p 1 0)
    → m ≡ stored l (at + i) (b ∷ []) → stored m (at + (i + 1)) (hex_bytes r) ≡ stored l (at + i) (hex_bytes (p ++ r))
unfolding hex_bytes
bytes_turn l m [] r at i b e is_b is = absurd (omega arith)
bytes_turn l m (c ∷ []) r at i b e is_b is = absurd (omega arith)
bytes_turn l m (c ∷ d ∷ x ∷ p) r at i b e is_b is = absurd (omega arith)
bytes_turn l m (c ∷ d ∷ []) r at i b e is_b is =
    let q : at + (i + 1) ≡ at + i + 1 = omega arith in
    rw (is, q, is_b) (stored_append l (at + i) ((16 * hex_value c + hex_value d) ∷ []) (hex_bytes r))

hex_bytes_few : (s : List ℕ) → length s ≤ 1 → hex_bytes s ≡ []
unfolding hex_bytes
hex_bytes_few [] h = refl
hex_bytes_few (c ∷ []) h = refl
hex_bytes_few (c ∷ d ∷ s) h = absurd (omega arith)

pub bytes_done : (l r : List ℕ) (at : ℕ) → length r < 2 → stored l at (hex_bytes r) ≡ l
bytes_done l r at h = rw (hex_bytes_few r (omega arith)) (stored_none l at)

-- ---- the digits of a field that fits

hex_step : (c : ℕ) (rest : Bool) → cond (is_hex c) rest false ≡ true → (is_hex c ≡ true) × (rest ≡ true)
hex_step c rest h = go (is_hex c) refl h
  where
    go : (t : Bool) → is_hex c ≡ t → cond t rest false ≡ true → (is_hex c ≡ true) × (rest ≡ true)
    go true e q = (e, q)
    go false e q = absurd (false≢true q)

all_hex_lem : (s : List ℕ) → all_hex s ≡ true → (i : ℕ) → i < length s → is_hex (get_or s i 0) ≡ true
unfolding all_hex
all_hex_lem [] h i l = absurd (omega arith)
all_hex_lem (c ∷ s) h zero l = (hex_step c (all_hex s) h).0
all_hex_lem (c ∷ s) h (suc i) l = all_hex_lem s (hex_step c (all_hex s) h).1 i (omega arith)

key_digits : (s : List ℕ) → is_key s ≡ true → Digits s
key_digits s h i l =
    let long = rw (other_length s (45 ∷ []) (λ e. omega arith)) at h in
    let every = all_hex_lem s (both_true (not (eqb (length s) 0) && eqb (length s % 2) 0) (all_hex s) long).1 in
    (every (2 * i) (omega arith), every (2 * i + 1) (omega arith))

pub field_digits : (p : Bool) (s : List ℕ) → fits_field p s ≡ true → Digits s
field_digits true s h = key_digits s (or_none (is_key s) h)
  where
    or_none : (t : Bool) → t || false ≡ true → t ≡ true
    or_none true q = q
    or_none false q = q
field_digits false s h = λ i l. absurd (omega (arith, eqb-true (length s) 0 h))
