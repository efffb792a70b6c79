-- `shared_of` and `without_of` of nothing, of one list after another, of things of which something holds, and read as other things.
-- Assumes nothing.
use mathlib.Core.Path.{◌≡◌, refl, ◌∙◌}
use mathlib.Core.List.{List, [], ◌∷◌, ◌++◌, append_assoc, map, map-append}
use Rattle.intervals.specs.Lists.{meets_of, shared_of, cuts_of, without_of}

module _ {X Y : Type 0} (meet : X → X → List Y) where
  pub meets_append : (a : X) (B B' : List X) → meets_of meet a (B ++ B') ≡ meets_of meet a B ++ meets_of meet a B'
  unfolding meets_of
  meets_append a [] B' = refl
  meets_append a (b ∷ B) B' = rw (meets_append a B B', append_assoc)

  pub shared_append : (A A' B : List X) → shared_of meet (A ++ A') B ≡ shared_of meet A B ++ shared_of meet A' B
  unfolding shared_of
  shared_append [] A' B = refl
  shared_append (a ∷ A) A' B = rw (shared_append A A' B, append_assoc)

  pub shared_nil : (A : List X) → shared_of meet A [] ≡ []
  unfolding shared_of meets_of
  shared_nil [] = refl
  shared_nil (a ∷ A) = shared_nil A

module _ {X : Type 0} (cut : X → X → List X) where
  pub cuts_append : (A A' : List X) (b : X) → cuts_of cut (A ++ A') b ≡ cuts_of cut A b ++ cuts_of cut A' b
  unfolding cuts_of
  cuts_append [] A' b = refl
  cuts_append (a ∷ A) A' b = rw (cuts_append A A' b, append_assoc)

  pub without_append : (A A' B : List X) → without_of cut (A ++ A') B ≡ without_of cut A B ++ without_of cut A' B
  unfolding without_of
  without_append A A' [] = refl
  without_append A A' (b ∷ B) = rw (cuts_append A A' b) (without_append (cuts_of cut A b) (cuts_of cut A' b) B)

  pub without_nil : (B : List X) → without_of cut [] B ≡ []
  unfolding without_of cuts_of
  without_nil [] = refl
  without_nil (b ∷ B) = without_nil B

-- ---- what holds of every thing of a list

abbrev pub All : {X : Type 0} → (X → Type 0) → List X → Type 0
All P [] = Unit {0}
All P (a ∷ A) = P a × All P A

pub all_append : {X : Type 0} (P : X → Type 0) (A B : List X) → All P A → All P B → All P (A ++ B)
all_append P [] B h k = k
all_append P (a ∷ A) B h k = (h.0, all_append P A B h.1 k)

-- what holds of all things
pub all_of : {X : Type 0} (P : X → Type 0) (A : List X) → ((a : X) → P a) → All P A
all_of P [] h = tt
all_of P (a ∷ A) h = (h a, all_of P A h)

module _ {X Y : Type 0} (P : X → Type 0) (Q : Y → Type 0) (meet : X → X → List Y) (kept : (a b : X) → P a → P b → All Q (meet a b)) where
  all_meets : (a : X) (B : List X) → P a → All P B → All Q (meets_of meet a B)
  unfolding meets_of
  all_meets a [] p h = tt
  all_meets a (b ∷ B) p h = all_append Q (meet a b) (meets_of meet a B) (kept a b p h.0) (all_meets a B p h.1)

  pub all_shared : (A B : List X) → All P A → All P B → All Q (shared_of meet A B)
  unfolding shared_of
  all_shared [] B h k = tt
  all_shared (a ∷ A) B h k = all_append Q (meets_of meet a B) (shared_of meet A B) (all_meets a B h.0 k) (all_shared A B h.1 k)

module _ {X : Type 0} (P : X → Type 0) (cut : X → X → List X) (kept : (a b : X) → P a → P b → All P (cut a b)) where
  pub all_cuts : (A : List X) (b : X) → All P A → P b → All P (cuts_of cut A b)
  unfolding cuts_of
  all_cuts [] b h p = tt
  all_cuts (a ∷ A) b h p = all_append P (cut a b) (cuts_of cut A b) (kept a b h.0 p) (all_cuts A b h.1 p)

  pub all_without : (A B : List X) → All P A → All P B → All P (without_of cut A B)
  unfolding without_of
  all_without A [] h k = h
  all_without A (b ∷ B) h k = all_without (cuts_of cut A b) B (all_cuts A b h k.0) k.1

-- ---- a reading of things as others that carries `meet` and `cut` over carries the lists over

module _ {X Y X' Y' : Type 0} (f : X → X') (g : Y → Y') (P : X → Type 0) (meet : X → X → List Y) (meet' : X' → X' → List Y')
    (carried : (a b : X) → P a → P b → map g (meet a b) ≡ meet' (f a) (f b)) where
  map_meets : (a : X) (B : List X) → P a → All P B → map g (meets_of meet a B) ≡ meets_of meet' (f a) (map f B)
  unfolding meets_of
  map_meets a [] p h = refl
  map_meets a (b ∷ B) p h = map-append g (meet a b) (meets_of meet a B) ∙ rw (carried a b p h.0, map_meets a B p h.1)

  pub map_shared : (A B : List X) → All P A → All P B → map g (shared_of meet A B) ≡ shared_of meet' (map f A) (map f B)
  unfolding shared_of
  map_shared [] B h k = refl
  map_shared (a ∷ A) B h k = map-append g (meets_of meet a B) (shared_of meet A B) ∙ rw (map_meets a B h.0 k, map_shared A B h.1 k)

module _ {X X' : Type 0} (f : X → X') (P : X → Type 0) (cut : X → X → List X) (cut' : X' → X' → List X')
    (kept : (a b : X) → P a → P b → All P (cut a b)) (carried : (a b : X) → P a → P b → map f (cut a b) ≡ cut' (f a) (f b)) where
  map_cuts : (A : List X) (b : X) → All P A → P b → map f (cuts_of cut A b) ≡ cuts_of cut' (map f A) (f b)
  unfolding cuts_of
  map_cuts [] b h p = refl
  map_cuts (a ∷ A) b h p = map-append f (cut a b) (cuts_of cut A b) ∙ rw (carried a b h.0 p, map_cuts A b h.1 p)

  pub map_without : (A B : List X) → All P A → All P B → map f (without_of cut A B) ≡ without_of cut' (map f A) (map f B)
  unfolding without_of
  map_without A [] h k = refl
  map_without A (b ∷ B) h k = map_without (cuts_of cut A b) B (all_cuts P cut kept A b h k.0) k.1 ∙ rw (map_cuts A b h k.0)
