-- How long the text of a key is, and its digits stored byte by byte. Assumes nothing.
use Prim.Native.Nat.{ℕ, suc, ◌+◌, ◌*◌, ◌≤◌, ◌<◌}
use mathlib.Core.Path.{◌≡◌, refl, ap, ◌∙◌}
use mathlib.Core.List.{List, [], ◌∷◌}
use native.Mathlib.Numerals.{add-one}
use native.Mathlib.Omega.{arith}
use lib.ListN.{length, get_or, drop, length-take, drop_of_length-le}
use lib.Seq.{drop-cons}
use Rattle.query_item.specs.declared.KeyAt.{KeyAt}
use Rattle.query_item.specs.Items.{bytes_of}
use Rattle.lent_text.specs.Text.{stored}
use Rattle.lent_text.proofs.Laws.{stored_append, stored_none, stored_next}
use Rattle.key_text.specs.Text.{hex_byte, hex_text, key_text, marked_key, spaced_key}

-- ---- how long it is

pub length_hex : (k : List ℕ) → length (hex_text k) ≡ 2 * length k
unfolding hex_text
length_hex [] = omega arith
length_hex (b ∷ k) = omega (arith, length_hex k)

pub key_none : (k : List ℕ) → length k ≡ 0 → key_text k ≡ 45 ∷ []
unfolding key_text
key_none [] h = refl
key_none (b ∷ k) h = absurd (omega arith)

pub key_some : (k : List ℕ) → 0 < length k → key_text k ≡ hex_text k
unfolding key_text
key_some [] h = absurd (omega arith)
key_some (b ∷ k) h = refl

key_few : (k : List ℕ) (n : ℕ) → length k ≤ n → 0 < n → length (key_text k) ≤ 2 * n
key_few [] n h l = rw (key_none [] refl) (omega arith)
key_few (b ∷ k) n h l = rw (key_some (b ∷ k) (omega arith), length_hex (b ∷ k)) (omega arith)

pub spaced_few : (pool : List ℕ) (k : KeyAt) (n : ℕ) → k.length ≤ n → 0 < n → length (spaced_key pool k) ≤ 1 + 2 * n
spaced_few pool k n h l =
    omega (arith, key_few (bytes_of pool k) n (omega (arith, length-take k.length (drop k.offset pool))) l)

-- the bytes of a key are fewer than 2^32
pub key_short : (pool : List ℕ) (k : KeyAt) (bs : List ℕ) → bs ≡ bytes_of pool k → k.length < 4294967296 → length bs < 4294967296
key_short pool k bs is h = rw is (omega (arith, length-take k.length (drop k.offset pool)))

-- ---- a byte and a key stored

pub marked_stored : (l m o : List ℕ) (at n mark : ℕ) (pool : List ℕ) (k : KeyAt) (bs : List ℕ) → bs ≡ bytes_of pool k
    → m ≡ stored l at (mark ∷ []) → n ≡ length (key_text bs) → o ≡ stored m (at + 1) (key_text bs)
    → (1 + n ≡ length (marked_key mark pool k)) × (o ≡ stored l at (marked_key mark pool k))
marked_stored l m o at n mark pool k bs is is_m is-n is-o =
    let two = stored_next l m o at 1 n (mark ∷ []) (key_text bs) is_m refl is-o is-n in
    let same : key_text bs ≡ key_text (bytes_of pool k) = ap key_text is in
    (two.0 ∙ ap (λ (x : List ℕ). length (mark ∷ x)) same, two.1 ∙ ap (λ (x : List ℕ). stored l at (mark ∷ x)) same)

-- ---- a turn over a key's bytes: storing what is left gives what storing from this byte on gives

pub hex_turn : (l m k : List ℕ) (at i : ℕ) → i < length k → m ≡ stored l (at + (1 + 2 * i)) (hex_byte (get_or k i 0))
    → stored m (at + (1 + 2 * (i + 1))) (hex_text (drop (i + 1) k)) ≡ stored l (at + (1 + 2 * i)) (hex_text (drop i k))
unfolding hex_text
hex_turn l m k at i h is =
    let q : at + (1 + 2 * (i + 1)) ≡ at + (1 + 2 * i) + 2 = omega arith in
    rw (is, q, add-one i, drop-cons k i 0 h) (stored_append l (at + (1 + 2 * i)) (hex_byte (get_or k i 0)) (hex_text (drop (suc i) k)))

pub hex_done : (l k : List ℕ) (at i : ℕ) → length k ≤ i → stored l at (hex_text (drop i k)) ≡ l
unfolding hex_text
hex_done l k at i h = rw (drop_of_length-le k {i = i} h) (stored_none l at)
