-- Lists of things of any type in another order. Assumes nothing.
use Prim.Native.Nat.{suc}
use mathlib.Core.Path.{◌≡◌, refl, ap, ◌∙◌}
use mathlib.Core.List.{List, [], ◌∷◌, ◌++◌}
use lib.ListN.{length}
use Rattle.intervals.specs.Lists.{Reordered}
use Rattle.intervals.proofs.Lists.{All}

module _ {X : Type 0} where
  -- two things, and the other first
  pub reordered_two : (a b : X) → Reordered (a ∷ b ∷ []) (b ∷ a ∷ [])
  reordered_two a b = (a ∷ [], [], refl, ([], [], refl, refl))

  -- what holds of a list and itself, and of lists in which the first two things are exchanged, and is kept behind one more thing and from list to
  -- list, holds of any order
  module _ (R : List X → List X → Type 0) (same : (A : List X) → R A A) (exchanged : (a b : X) (A : List X) → R (a ∷ b ∷ A) (b ∷ a ∷ A))
      (behind : (a : X) (A B : List X) → R A B → R (a ∷ A) (a ∷ B)) (further : (A B C : List X) → R A B → R B C → R A C) where
    taken : (before : List X) (b : X) (after : List X) → R (before ++ (b ∷ after)) (b ∷ (before ++ after))
    taken [] b after = same (b ∷ after)
    taken (a ∷ before) b after =
        further (a ∷ (before ++ (b ∷ after))) (a ∷ b ∷ (before ++ after)) (b ∷ a ∷ (before ++ after))
        (behind a (before ++ (b ∷ after)) (b ∷ (before ++ after)) (taken before b after)) (exchanged a b (before ++ after))

    pub reordered_by : (A B : List X) → Reordered A B → R A B
    reordered_by A [] r = rw r (same [])
    reordered_by A (b ∷ B) r =
        let rest = r.0 ++ r.1 in
        rw r.2 (further (r.0 ++ (b ∷ r.1)) (b ∷ rest) (b ∷ B) (taken r.0 b r.1) (behind b rest B (reordered_by rest B r.3)))

  -- as many things; what holds of all of the first holds of all of the second

  pub length_reordered : (A B : List X) → Reordered A B → length A ≡ length B
  length_reordered =
      reordered_by (λ A B. length A ≡ length B) (λ A. refl) (λ a b A. refl) (λ a A B e. ap suc e) (λ A B C p q. p ∙ q)

  pub all_reordered : (P : X → Type 0) (A B : List X) → Reordered A B → All P A → All P B
  all_reordered P =
      reordered_by (λ A B. All P A → All P B) (λ A h. h) (λ a b A h. (h.1.0, (h.0, h.1.1))) (λ a A B f h. (h.0, f h.1)) (λ A B C f g h. g (f h))
