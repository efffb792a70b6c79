-- Lists that show the same, of one pool or of two, are strict, or break at the same place. Assumes nothing.
use Prim.Native.Nat.{ℕ, suc}
use mathlib.Core.Path.{◌≡◌, refl, ap}
use mathlib.Core.List.{List, [], ◌∷◌, map}
use native.Mathlib.Omega.{arith}
use lib.ListN.{length}
use Rattle.query_item.specs.declared.ItemWords.{ItemWords}
use Rattle.query_item.specs.declared.RangeSetItem.{RangeSetItem}
use Rattle.query_item.specs.Items.{shown}
use Rattle.query_item.specs.Boundaries.{boundary_of, range_of}
use Rattle.query_item.proofs.Laws.{shown_range}
use Rattle.item_check.specs.Checks.{first_break, strict_verdict}

module _ (P Q : List ℕ) (side : ℕ) where
  break_shown : (i : ℕ) (d e : RangeSetItem) (A B : List ItemWords) → boundary_of P d ≡ boundary_of Q e → map (shown P) A ≡ map (shown Q) B
      → first_break P side i d A ≡ first_break Q side i e B
  unfolding first_break
  break_shown i d e [] [] q s = refl
  break_shown i d e [] (b ∷ B) q s = absurd (omega (arith, ap length s))
  break_shown i d e (a ∷ A) [] q s = absurd (omega (arith, ap length s))
  break_shown i d e (a ∷ A) (b ∷ B) q s =
      let r = shown_range P Q a b cc in
      rw (q, r.0, break_shown (suc i) (range_of a).end (range_of b).end A B r.1 cc)

  pub strict_shown : (A B : List ItemWords) → map (shown P) A ≡ map (shown Q) B → strict_verdict P side A ≡ strict_verdict Q side B
  unfolding strict_verdict
  strict_shown [] [] s = refl
  strict_shown [] (b ∷ B) s = absurd (omega (arith, ap length s))
  strict_shown (a ∷ A) [] s = absurd (omega (arith, ap length s))
  strict_shown (a ∷ A) (b ∷ B) s =
      let r = shown_range P Q a b cc in
      break_shown 1 (range_of a).end (range_of b).end A B r.1 cc
