-- Runs of bytes, and the fields that are cut at their ends. Assumes nothing.
use Prim.Native.Nat.{ℕ, suc, ◌+◌, ◌≤◌, ◌<◌}
use mathlib.Core.Path.{◌≡◌, refl, sym, ◌∙◌}
use mathlib.Core.Bool.{Bool, true, false, cond, ◌&&◌, and-true}
use mathlib.Core.List.{List, [], ◌∷◌}
use native.Mathlib.Omega.{arith}
use lib.ListN.{length, get_or, take, drop}
use lib.Dec.{eqb, ltb}
use Rattle.std.specs.List.{fold, prefix_len, position, take_while}
use Rattle.std.proofs.lemmas.List.{length-take}
use Rattle.std.proofs.Common.{Option, Some, None}
use Rattle.std.proofs.lemmas.Grind.{common_steps}
use Rattle.sheet_row.specs.Fields.{split, broken, quote, is_text, leading, unquoted}
use Rattle.sheet_row.specs.Lanes.{is_hex, all_hex}
use Rattle.sheet_read.specs.Scan.{not_quote, short_quoted, short_field}

-- ---- runs of bytes, as the library has them

pub leading_prefix : (t : ℕ → Bool) (s : List ℕ) → leading t s ≡ prefix_len t s
unfolding leading
leading_prefix t [] = refl
leading_prefix t (b ∷ s) = go (t b) (leading_prefix t s)
  where
    go : (u : Bool) → leading t s ≡ prefix_len t s → cond u (suc (leading t s)) 0 ≡ cond u (1 + prefix_len t s) 0
    go true e = omega arith
    go false e = refl

leading_few : (t : ℕ → Bool) (s : List ℕ) → leading t s ≤ length s
unfolding leading
leading_few t [] = omega arith
leading_few t (b ∷ s) = go (t b) (leading_few t s)
  where
    go : (u : Bool) → leading t s ≤ length s → cond u (suc (leading t s)) 0 ≤ suc (length s)
    go true h = omega arith
    go false h = omega arith

text_leading : (s : List ℕ) → length (take_while is_text s) ≡ leading is_text s
text_leading s = omega (arith, length-take (prefix_len is_text s) s, leading_prefix is_text s, leading_few is_text s)

quote_leading : (s : List ℕ) → position (λ b. eqb b quote) s ≡ cond (ltb (leading not_quote s) (length s)) (Some (leading not_quote s)) None
quote_leading s = rw (leading_prefix not_quote s)

pub hex_fold : (s : List ℕ) → fold (λ all c. all && is_hex c) true s ≡ all_hex s
unfolding all_hex
hex_fold s = go true s
  where
    step : (all t rest : Bool) → (all && t) && rest ≡ all && cond t rest false
    step true true rest = refl
    step true false rest = refl
    step false t rest = refl

    go : (all : Bool) (s : List ℕ) → fold (λ all c. all && is_hex c) all s ≡ all && all_hex s
    go all [] = sym (and-true all)
    go all (c ∷ s) = go (all && is_hex c) s ∙ step all (is_hex c) (all_hex s)

-- ---- fields

module _ (s : List ℕ) (n : ℕ) where
  pub unquoted_found : n ≡ length (take_while is_text s) → split (take n s) (drop n s) ≡ unquoted s
  unfolding unquoted
  unquoted_found is = rw (is, text_leading s)

  pub quoted_found : Some n ≡ position (λ b. eqb b quote) s → split (take n s) (drop (n + 1) s) ≡ short_quoted s
  unfolding short_quoted
  quoted_found is = go (ltb (leading not_quote s) (length s)) refl (is ∙ quote_leading s)
    where
      go : (t : Bool) → ltb (leading not_quote s) (length s) ≡ t → Some n ≡ cond t (Some (leading not_quote s)) None
          → split (take n s) (drop (n + 1) s) ≡ short_quoted s
      go true e q =
          let l : n ≡ leading not_quote s = cc in
          let next : n + 1 ≡ suc n = omega arith in
          rw (e, ← l, next)
      go false e q = cc

-- without a quote
pub quoted_never : (s : List ℕ) → None ≡ position (λ b. eqb b quote) s → broken ≡ short_quoted s
unfolding short_quoted
quoted_never s is = go (ltb (leading not_quote s) (length s)) refl (is ∙ quote_leading s)
  where
    go : (t : Bool) → ltb (leading not_quote s) (length s) ≡ t → ◌≡◌ {A = Option ℕ} None (cond t (Some (leading not_quote s)) None)
        → broken ≡ short_quoted s
    go true e q = cc
    go false e q = rw e

-- ---- where a quote comes first, and where none does

pub short_is_quoted : (s : List ℕ) {f t : List ℕ} → split f t ≡ unquoted s → length f < 1 → 0 < length t → get_or t 0 0 ≡ quote
    → short_field s ≡ short_quoted (drop 1 t)
unfolding short_field unquoted leading
short_is_quoted [] is none some first = grind (arith, common_steps)
short_is_quoted (b ∷ s) is none some first = grind (arith, common_steps)

pub short_is_unquoted : (s : List ℕ) {f t : List ℕ} → split f t ≡ unquoted s → (length f < 1 → 0 < length t → get_or t 0 0 ≡ quote → ⊥)
    → split f t ≡ short_field s
unfolding short_field unquoted leading
short_is_unquoted [] is other = grind (arith, common_steps)
short_is_unquoted (b ∷ s) is other = grind (arith, common_steps)
