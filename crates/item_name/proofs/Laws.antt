-- The code of a name that is read or written. Assumes nothing.
use borrow.Author.Tests.{ne_eqb}
use Prim.Native.Nat.{ℕ, ◌<◌}
use mathlib.Core.Path.{◌≡◌, refl, sym, ap, ◌∙◌}
use mathlib.Core.Bool.{Bool, true, false, cond, ◌&&◌, false≢true, true≢false}
use mathlib.Core.List.{List}
use native.Mathlib.Omega.{arith}
use lib.ListN.{length}
use lib.Dec.{eqb}
use lib.Pointwise.{pointwise, bytes_decides}
use borrow.Author.Tests.{eq-eqb}
use Rattle.key_order.specs.Order.{compare_numbers, compare_keys}
use Rattle.key_order.proofs.Laws.{compare_same}
use Rattle.query_item.specs.Items.{same}
use Rattle.query_item.proofs.Laws.{each_code}
use Rattle.item_name.specs.Names.{
  key_name,
  range_name,
  range_inclusive_name,
  range_full_name,
  range_from_name,
  range_to_name,
  range_to_inclusive_name,
  range_after_name,
  range_after_to_name,
  range_after_to_inclusive_name,
  name_of,
  no_code,
  code_of,
}

-- ---- what is written is read

pub code_name : (c : ℕ) → c < 10 → code_of (name_of c) ≡ c
unfolding compare_numbers compare_keys name_of code_of
code_name c h = each_code (λ (c : ℕ). code_of (name_of c) ≡ c) refl refl refl refl refl refl refl refl refl refl c (omega arith)

-- ---- names are the same where their bytes are

pub same_bytes : (s w : List ℕ) → pointwise eqb s w ≡ same s w
same_bytes s w = go (pointwise eqb s w) (same s w) refl refl
  where
    go : (t u : Bool) → pointwise eqb s w ≡ t → same s w ≡ u → t ≡ u
    go true true e f = refl
    go true false e f = absurd (true≢false (sym ((compare_same s w).1 ((bytes_decides s w).0 e)) ∙ f))
    go false true e f = absurd (true≢false (sym ((bytes_decides s w).1 ((compare_same s w).0 f)) ∙ e))
    go false false e f = refl

-- ---- a name of another length is another name

pub other_length : (s w : List ℕ) → (length s ≡ length w → ⊥) → same s w ≡ false
other_length s w h = go (same s w) refl
  where
    go : (t : Bool) → same s w ≡ t → t ≡ false
    go true e = absurd (h (ap length ((compare_same s w).0 e)))
    go false e = refl

module _ (s : List ℕ) where
  -- so that a test of the length in front of a comparison changes nothing
  length_first : (n : ℕ) (w : List ℕ) → length s ≡ n → eqb n (length w) && same s w ≡ same s w
  length_first n w h = go (eqb n (length w)) refl
    where
      go : (t : Bool) → eqb n (length w) ≡ t → t && same s w ≡ same s w
      go true e = refl
      go false e = sym (other_length s w (λ q. false≢true (sym e ∙ eq-eqb n (length w) (sym h ∙ q))))

  -- the code with these tests in front: at a length that is known, all but the names of that length fall away
  pub code_by_length : (n : ℕ) → length s ≡ n
      → code_of s
      ≡ cond (eqb n (length key_name) && same s key_name) 0
      (cond (eqb n (length range_name) && same s range_name) 1
      (cond (eqb n (length range_inclusive_name) && same s range_inclusive_name) 2
      (cond (eqb n (length range_full_name) && same s range_full_name) 3
      (cond (eqb n (length range_from_name) && same s range_from_name) 4
      (cond (eqb n (length range_to_name) && same s range_to_name) 5
      (cond (eqb n (length range_to_inclusive_name) && same s range_to_inclusive_name) 6
      (cond (eqb n (length range_after_name) && same s range_after_name) 7
      (cond (eqb n (length range_after_to_name) && same s range_after_to_name) 8
      (cond (eqb n (length range_after_to_inclusive_name) && same s range_after_to_inclusive_name) 9
      no_code)))))))))
  unfolding code_of
  code_by_length n h =
      rw (
        length_first n key_name h,
        length_first n range_name h,
        length_first n range_inclusive_name h,
        length_first n range_full_name h,
        length_first n range_from_name h,
        length_first n range_to_name h,
        length_first n range_to_inclusive_name h,
        length_first n range_after_name h,
        length_first n range_after_to_name h,
        length_first n range_after_to_inclusive_name h,
      )

  pub code_of_none : (length s ≡ 3 → ⊥) → (length s ≡ 5 → ⊥) → (length s ≡ 7 → ⊥) → (length s ≡ 9 → ⊥)
      → (length s ≡ 10 → ⊥) → (length s ≡ 12 → ⊥) → (length s ≡ 14 → ⊥) → (length s ≡ 16 → ⊥) → (length s ≡ 21 → ⊥)
      → code_of s ≡ no_code
  unfolding code_of
  code_of_none h3 h5 h7 h9 h10 h12 h14 h16 h21 =
      rw (
        other_length s key_name h3,
        other_length s range_name h5,
        other_length s range_inclusive_name h14,
        other_length s range_full_name h9,
        other_length s range_from_name h9,
        other_length s range_to_name h7,
        other_length s range_to_inclusive_name h16,
        other_length s range_after_name h10,
        other_length s range_after_to_name h12,
        other_length s range_after_to_inclusive_name h21,
      )

-- a code past the other nine
pub name_last : (c : ℕ) → (c ≡ 0 → ⊥) → (c ≡ 1 → ⊥) → (c ≡ 2 → ⊥) → (c ≡ 3 → ⊥) → (c ≡ 4 → ⊥)
    → (c ≡ 5 → ⊥) → (c ≡ 6 → ⊥) → (c ≡ 7 → ⊥) → (c ≡ 8 → ⊥)
    → name_of c ≡ range_after_to_inclusive_name
unfolding name_of
name_last c h0 h1 h2 h3 h4 h5 h6 h7 h8 =
    rw (
      ne_eqb c 0 h0,
      ne_eqb c 1 h1,
      ne_eqb c 2 h2,
      ne_eqb c 3 h3,
      ne_eqb c 4 h4,
      ne_eqb c 5 h5,
      ne_eqb c 6 h6,
      ne_eqb c 7 h7,
      ne_eqb c 8 h8,
    )
