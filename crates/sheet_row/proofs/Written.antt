-- What is written is read: keys, fields, rows, sheets. Assumes nothing.
use Prim.Native.Nat.{ℕ, zero, suc, ◌+◌, ◌*◌, ◌/◌, ◌%◌, ◌≤◌, ◌<◌}
use mathlib.Core.Path.{◌≡◌, refl, sym, ap}
use mathlib.Core.Bool.{Bool, true, false, ◌&&◌, or-true}
use mathlib.Core.List.{List, [], ◌∷◌, ◌++◌, append_assoc}
use native.Mathlib.Decide.{dec_lt}
use native.Mathlib.Omega.{arith}
use lib.ListN.{length, get_or, length-append}
use lib.Dec.{eqb, ltb, leb}
use lib.Seq.{take-append_seam, drop-append_seam}
use borrow.Author.Tests.{ltb-true, leb-true, lt-ltb, le-ltb, le-leb, lt-leb, ne_eqb}
use Rattle.key_order.specs.Order.{compare_numbers, compare_keys}
use Rattle.key_order.proofs.Bools.{both_true}
use Rattle.item_check.specs.Checks.{has_start, has_end}
use Rattle.key_text.specs.Text.{hex_digit, hex_text, key_text}
use Rattle.key_text.proofs.Laws.{length_hex}
use Rattle.item_name.specs.Names.{name_of}
use Rattle.query_item.proofs.Laws.{each_code}
use Rattle.item_name.proofs.Laws.{code_name}
use Rattle.sheet_row.specs.Fields.{
  split,
  comma,
  quote,
  carriage_return,
  line_feed,
  is_text,
  leading,
  unquoted,
  field,
  after_comma,
  row_end,
}
use Rattle.sheet_row.specs.Lanes.{
  is_hex,
  hex_value,
  all_hex,
  hex_bytes,
  is_dash,
  is_key,
  fits_field,
  Lane,
  row,
  first_row,
  lanes,
  then_rows,
  rows_from,
  sheet_of,
  key_field,
  row_text,
  sheet_text,
}

-- ---- digits and keys

-- a letter stands past the decimal digits, from 65 to 70
letter : (d : ℕ) → 10 ≤ d → d < 16
    → (ltb d 10 ≡ false) × (leb 48 (55 + d) ≡ true) × (leb (55 + d) 57 ≡ false) × (leb 65 (55 + d) ≡ true) × (leb (55 + d) 70 ≡ true)
letter d h l = (
  le-ltb d 10 (omega arith),
  le-leb 48 (55 + d) (omega arith),
  lt-leb (55 + d) 57 (omega arith),
  le-leb 65 (55 + d) (omega arith),
  le-leb (55 + d) 70 (omega arith),
)

value_digit : (d : ℕ) → d < 16 → hex_value (hex_digit d) ≡ d
unfolding hex_digit hex_value
value_digit d h = elim (dec_lt d 10) [
  | yes l ↦ rw (lt-ltb d 10 l, le-leb 48 (48 + d) (omega arith), le-leb (48 + d) 57 (omega arith)) (omega arith)
  | no l ↦
      let t = letter d (omega arith) h in
      rw (t.0, t.1, t.2, t.3, t.4) (omega arith)
]

digit_hex : (d : ℕ) → d < 16 → is_hex (hex_digit d) ≡ true
unfolding hex_digit
digit_hex d h = elim (dec_lt d 10) [
  | yes l ↦ rw (lt-ltb d 10 l, le-leb 48 (48 + d) (omega arith), le-leb (48 + d) 57 (omega arith))
  | no l ↦
      let t = letter d (omega arith) h in
      rw (t.0, t.1, t.2, t.3, t.4)
]

abbrev pub Bytes : List ℕ → Type 0
Bytes k = (i : ℕ) → get_or k i 0 < 256

pub bytes_hex : (k : List ℕ) → Bytes k → hex_bytes (hex_text k) ≡ k
unfolding hex_bytes hex_text
bytes_hex [] h = refl
bytes_hex (b ∷ k) h =
    let low : b < 256 = h 0 in
    let whole : 16 * (b / 16) + b % 16 ≡ b = omega arith in
    rw (value_digit (b / 16) (omega arith), value_digit (b % 16) (omega arith), whole, bytes_hex k (λ (i : ℕ). h (suc i)))

hex_hex : (k : List ℕ) → Bytes k → all_hex (hex_text k) ≡ true
unfolding all_hex hex_text
hex_hex [] h = refl
hex_hex (b ∷ k) h =
    let low : b < 256 = h 0 in
    rw (digit_hex (b / 16) (omega arith), digit_hex (b % 16) (omega arith)) (hex_hex k (λ (i : ℕ). h (suc i)))

even_half : (n : ℕ) → 2 * n % 2 ≡ 0
even_half n = omega arith

pub key_reads : (k : List ℕ) → Bytes k → hex_bytes (key_text k) ≡ k
unfolding hex_bytes key_text
key_reads [] h = refl
key_reads (b ∷ k) h = bytes_hex (b ∷ k) h

pub key_is : (k : List ℕ) → Bytes k → is_key (key_text k) ≡ true
unfolding compare_numbers compare_keys key_text
key_is [] h = refl
key_is (b ∷ k) h =
    rw (hex_hex (b ∷ k) h, length_hex (b ∷ k), even_half (length (b ∷ k)), ne_eqb (2 * suc (length k)) 0 (λ e. omega arith))
    (or-true (is_dash (hex_text (b ∷ k))))

-- ---- fields: names and keys have no byte below `-`, and so none that ends a field

unfoldable large : List ℕ → Bool
large [] = true
large (b ∷ s) = leb 45 b && large s

text_large : (c : ℕ) → 45 ≤ c → is_text c ≡ true
text_large c h =
    rw (ne_eqb c 34 (λ e. omega arith), ne_eqb c 44 (λ e. omega arith), ne_eqb c 13 (λ e. omega arith), ne_eqb c 10 (λ e. omega arith))

leading_large : (f s : List ℕ) (c : ℕ) → large f ≡ true → is_text c ≡ false → leading is_text (f ++ c ∷ s) ≡ length f
unfolding leading large
leading_large [] s c h e = rw e
leading_large (b ∷ f) s c h e =
    rw (text_large b (leb-true 45 b (both_true (leb 45 b) (large f) h).0)) (ap suc (leading_large f s c (both_true (leb 45 b) (large f) h).1 e))

unquoted_large : (f s : List ℕ) (c : ℕ) → large f ≡ true → is_text c ≡ false → unquoted (f ++ c ∷ s) ≡ split f (c ∷ s)
unfolding unquoted
unquoted_large f s c h e = rw (leading_large f s c h e, take-append_seam f (c ∷ s), drop-append_seam f (c ∷ s))

field_large : (f s : List ℕ) (c : ℕ) → large f ≡ true → is_text c ≡ false → eqb c quote ≡ false → field (f ++ c ∷ s) ≡ split f (c ∷ s)
unfolding field large
field_large [] s c h e q = rw q (unquoted_large [] s c h e)
field_large (b ∷ f) s c h e q =
    let l = leb-true 45 b (both_true (leb 45 b) (large f) h).0 in
    rw (ne_eqb b 34 (λ w. omega arith)) (unquoted_large (b ∷ f) s c h e)

digit_large : (d : ℕ) → 45 ≤ hex_digit d
unfolding hex_digit
digit_large d = elim (dec_lt d 10) [
  | yes l ↦ rw (lt-ltb d 10 l) (omega arith)
  | no l ↦ rw (le-ltb d 10 (omega arith)) (omega arith)
]

hex_large : (k : List ℕ) → large (hex_text k) ≡ true
unfolding large hex_text
hex_large [] = refl
hex_large (b ∷ k) =
    rw (le-leb 45 (hex_digit (b / 16)) (digit_large (b / 16)), le-leb 45 (hex_digit (b % 16)) (digit_large (b % 16))) (hex_large k)

key_large : (k : List ℕ) → large (key_text k) ≡ true
unfolding large key_text
key_large [] = refl
key_large (b ∷ k) = hex_large (b ∷ k)

-- ---- names

name_large : (c : ℕ) → c < 10 → large (name_of c) ≡ true
unfolding large name_of
name_large c h = each_code (λ (c : ℕ). large (name_of c) ≡ true) refl refl refl refl refl refl refl refl refl refl c (omega arith)

name_long : (c : ℕ) → c < 10 → 0 < length (name_of c)
unfolding name_of
name_long c h =
    ltb-true 0 (length (name_of c)) (each_code (λ (c : ℕ). ltb 0 (length (name_of c)) ≡ true) refl refl refl refl refl refl refl refl refl refl c (omega arith))

-- ---- rows

-- a lane that an item can say: a known code, bytes, and no key where the item has none
pub record Sound (l : Lane) : Type 0 where
  pub known : l.code < 10
  pub start : Bytes l.start
  pub end : Bytes l.end
  pub no_start : has_start l.code ≡ false → l.start ≡ []
  pub no_end : has_end l.code ≡ false → l.end ≡ []

field_fits : (p : Bool) (k : List ℕ) → Bytes k → fits_field p (key_field p k) ≡ true
field_fits true k h = rw (key_is k h)
field_fits false k h = refl

field_reads : (p : Bool) (k : List ℕ) → Bytes k → (p ≡ false → k ≡ []) → hex_bytes (key_field p k) ≡ k
unfolding hex_bytes
field_reads true k h e = key_reads k h
field_reads false k h e = sym (e refl)

field_text : (p : Bool) (k : List ℕ) → large (key_field p k) ≡ true
unfolding large
field_text true k = key_large k
field_text false k = refl

pub first_text : (l : Lane) (s : List ℕ) → Sound l → first_row (row_text l ++ s) ≡ row l s
unfolding row_text first_row after_comma row_end
first_text l s h =
    let c = l.code in
    let A = key_field (has_start c) l.start in
    let B = key_field (has_end c) l.end in
    let rest = carriage_return ∷ line_feed ∷ s in
    let crlf = carriage_return ∷ line_feed ∷ [] in
    let apart : row_text l ++ s ≡ name_of c ++ (comma ∷ (A ++ (comma ∷ (B ++ rest)))) =
    rw (append_assoc (name_of c) (comma ∷ (A ++ (comma ∷ (B ++ crlf)))) s, append_assoc A (comma ∷ (B ++ crlf)) s, append_assoc B crlf s)
    in
    rw (apart, field_large (name_of c) (A ++ (comma ∷ (B ++ rest))) comma (name_large c h.known) refl refl)
    (rw (field_large A (B ++ rest) comma (field_text (has_start c) l.start) refl refl)
    (rw (
      field_large B (line_feed ∷ s) carriage_return (field_text (has_end c) l.end) refl refl,
      code_name c h.known,
      lt-ltb c 10 h.known,
      field_fits (has_start c) l.start h.start,
      field_fits (has_end c) l.end h.end,
      field_reads (has_start c) l.start h.start h.no_start,
      field_reads (has_end c) l.end h.end h.no_end,
    )))

-- ---- sheets

pub rows_step : (k n : ℕ) (s : List ℕ) → 0 < length s → rows_from (suc k) n s ≡ then_rows n (rows_from k (suc n)) (first_row s)
unfolding rows_from
rows_step k n [] h = absurd (omega arith)
rows_step k n (b ∷ s) h = refl

pub rows_none : (k n : ℕ) → rows_from k n [] ≡ lanes []
unfolding rows_from
rows_none zero n = refl
rows_none (suc k) n = refl

pub data SoundAll : List Lane → Type 0 where
  none : SoundAll []
  more : {l : Lane} {ls : List Lane} → Sound l → SoundAll ls → SoundAll (l ∷ ls)

row_long : (l : Lane) (s : List ℕ) → Sound l → suc (length s) ≤ length (row_text l ++ s)
unfolding row_text
row_long l s h = rw (length-append (row_text l) s) (rw length-append (omega (arith, name_long l.code h.known)))

sheet_long : (ls : List Lane) → SoundAll ls → length ls ≤ length (sheet_text ls)
unfolding sheet_text
sheet_long [] none = omega arith
sheet_long (l ∷ ls) (more h hs) = omega (arith, row_long l (sheet_text ls) h, sheet_long ls hs)

rows_text : (ls : List Lane) (k n : ℕ) → SoundAll ls → length ls ≤ k → rows_from k n (sheet_text ls) ≡ lanes ls
unfolding sheet_text
rows_text [] k n none h = rows_none k n
rows_text (l ∷ ls) zero n (more s ss) h = absurd (omega arith)
rows_text (l ∷ ls) (suc k) n (more s ss) h =
    rw (
      rows_step k n (row_text l ++ sheet_text ls) (omega (arith, row_long l (sheet_text ls) s)),
      first_text l (sheet_text ls) s,
      rows_text ls k (suc n) ss (omega arith),
    )

-- reading what was written gives the lanes
pub sheet_text_lem : (ls : List Lane) → SoundAll ls → sheet_of (sheet_text ls) ≡ lanes ls
sheet_text_lem ls h = rows_text ls (length (sheet_text ls)) 0 h (sheet_long ls h)
