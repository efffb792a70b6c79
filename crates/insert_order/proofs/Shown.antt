-- Lists that show the same, of one pool or of two, are in order, or break it at the same place. Assumes nothing.
use Prim.Native.Nat.{ℕ, suc}
use mathlib.Core.Path.{◌≡◌, refl, ap, ap₂}
use mathlib.Core.List.{List, [], ◌∷◌, map}
use native.Mathlib.Omega.{arith}
use lib.ListN.{length}
use Rattle.query_item.specs.declared.ItemWords.{ItemWords}
use Rattle.query_item.specs.Items.{Shown, shown}
use Rattle.insert_order.specs.Order.{clash, clashes}
use Rattle.insert_order.specs.Refusals.{first_clash, order_verdict}
use Rattle.insert_order.proofs.Ranked.{order_shown, ends_shown, equal_shown}

module _ (P Q : List ℕ) where
  clash_shown : (x y a b : ItemWords) → shown P x ≡ shown Q y → shown P a ≡ shown Q b → clash P x a ≡ clash Q y b
  clash_shown x y a b e f = rw (
    order_shown P Q a b x y f e,
    ends_shown P Q x y a b e f,
    equal_shown P Q x y a b e f,
    ap (λ (s : Shown). s.1) e,
    ap (λ (s : Shown). s.1) f,
  )

  clashes_shown : (a b : ItemWords) → shown P a ≡ shown Q b → (A B : List ItemWords) → map (shown P) A ≡ map (shown Q) B
      → clashes P A a ≡ clashes Q B b
  unfolding clashes
  clashes_shown a b f [] [] s = refl
  clashes_shown a b f [] (y ∷ B) s = absurd (omega (arith, ap length s))
  clashes_shown a b f (x ∷ A) [] s = absurd (omega (arith, ap length s))
  clashes_shown a b f (x ∷ A) (y ∷ B) s = rw (clash_shown x y a b cc f, clashes_shown a b f A B cc)

  first_clash_shown : (i : ℕ) (D E A B : List ItemWords) → map (shown P) D ≡ map (shown Q) E → map (shown P) A ≡ map (shown Q) B
      → first_clash P i D A ≡ first_clash Q i E B
  unfolding first_clash
  first_clash_shown i D E [] [] q s = refl
  first_clash_shown i D E [] (b ∷ B) q s = absurd (omega (arith, ap length s))
  first_clash_shown i D E (a ∷ A) [] q s = absurd (omega (arith, ap length s))
  first_clash_shown i D E (a ∷ A) (b ∷ B) q s =
      let head : shown P a ≡ shown Q b = cc in
      rw (clashes_shown a b head D E q, first_clash_shown (suc i) (a ∷ D) (b ∷ E) A B (ap₂ ◌∷◌ head q) cc)

  pub order_verdict_shown : (A B : List ItemWords) → map (shown P) A ≡ map (shown Q) B → order_verdict P A ≡ order_verdict Q B
  order_verdict_shown A B s = first_clash_shown 0 [] [] A B refl s
