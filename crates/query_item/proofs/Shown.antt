-- Items that show the same, of one pool or of two, hold the same keys, and one is upright where the other is. Assumes nothing.
use Prim.Native.Nat.{ℕ}
use mathlib.Core.Path.{◌≡◌, refl, sym, ap, ap₂, ◌∙◌}
use mathlib.Core.Bool.{◌||◌}
use mathlib.Core.List.{List, [], ◌∷◌, map}
use native.Mathlib.Omega.{arith}
use lib.ListN.{length, length-map}
use Rattle.query_item.specs.declared.ItemWords.{ItemWords}
use Rattle.query_item.specs.Items.{query_item, holds, holds_any, shown, SameShown}
use Rattle.query_item.specs.Boundaries.{range_of, upright}
use Rattle.query_item.proofs.Held.{holds_between}
use Rattle.query_item.proofs.Told.{shown_range}

module _ (P Q : List ℕ) where
  pub upright_shown : (x y : ItemWords) → shown P x ≡ shown Q y → upright P (range_of x) ≡ upright Q (range_of y)
  upright_shown x y e = let r = shown_range P Q x y e in rw (r.0, r.1)

  pub holds_shown : (x y : ItemWords) → shown P x ≡ shown Q y → (k : List ℕ) → holds P (query_item x) k ≡ holds Q (query_item y) k
  holds_shown x y e k =
      let r = shown_range P Q x y e in
      holds_between P (query_item x) k ∙ rw (r.0, r.1) (sym (holds_between Q (query_item y) k))

  -- lists that show the same are as long
  pub length_shown : (A B : List ItemWords) → SameShown P Q A B → length A ≡ length B
  length_shown A B e = omega (arith, ap length e, length-map A (shown P), length-map B (shown Q))

  -- of lists: each item holds a key where the other list's does, and so one of them does where one of the others does

  pub holds_each_shown : (A B : List ItemWords) → map (shown P) A ≡ map (shown Q) B → (k : List ℕ)
      → map (λ it. holds P (query_item it) k) A ≡ map (λ it. holds Q (query_item it) k) B
  holds_each_shown [] [] e k = refl
  holds_each_shown [] (b ∷ B) e k = absurd (omega (arith, ap length e))
  holds_each_shown (a ∷ A) [] e k = absurd (omega (arith, ap length e))
  holds_each_shown (a ∷ A) (b ∷ B) e k =
      let head : shown P a ≡ shown Q b = cc in
      let tail : map (shown P) A ≡ map (shown Q) B = cc in
      ap₂ ◌∷◌ (holds_shown a b head k) (holds_each_shown A B tail k)

  pub holds_any_shown : (A B : List ItemWords) → map (shown P) A ≡ map (shown Q) B → (k : List ℕ) → holds_any P A k ≡ holds_any Q B k
  unfolding holds_any
  holds_any_shown [] [] e k = refl
  holds_any_shown [] (b ∷ B) e k = absurd (omega (arith, ap length e))
  holds_any_shown (a ∷ A) [] e k = absurd (omega (arith, ap length e))
  holds_any_shown (a ∷ A) (b ∷ B) e k =
      let head : shown P a ≡ shown Q b = cc in
      let tail : map (shown P) A ≡ map (shown Q) B = cc in
      ap₂ ◌||◌ (holds_shown a b head k) (holds_any_shown A B tail k)
