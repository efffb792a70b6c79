-- Those of a list that a test keeps. Where the parts of what it drops are dropped too, it may be asked before or after two lists are shared, and
-- before or after one is removed from the other. The things are of any type. Assumes nothing.
use Prim.Native.Nat.{suc, ◌+◌}
use mathlib.Core.Path.{◌≡◌, refl, sym, ap, ap₂, ◌∙◌}
use mathlib.Core.Bool.{Bool, true, false, cond, not}
use mathlib.Core.List.{List, [], ◌∷◌, ◌++◌, map}
use native.Mathlib.Omega.{arith}
use lib.ListN.{length}
use Rattle.intervals.specs.Lists.{meets_of, shared_of, cuts_of, without_of, keep}
use Rattle.intervals.proofs.Lists.{All, all_append, all_cuts, without_append}

module _ {X : Type 0} (f : X → Bool) where
  abbrev pub Dropped : X → Type 0
  Dropped x = f x ≡ false

  pub keep_append : (A B : List X) → keep f (A ++ B) ≡ keep f A ++ keep f B
  unfolding keep
  keep_append [] B = refl
  keep_append (a ∷ A) B = go (f a) (keep_append A B)
    where
      go : (t : Bool) → keep f (A ++ B) ≡ keep f A ++ keep f B
          → cond t (a ∷ keep f (A ++ B)) (keep f (A ++ B)) ≡ cond t (a ∷ keep f A) (keep f A) ++ keep f B
      go true e = ap (◌∷◌ a) e
      go false e = e

  -- what f keeps, and what it does not, make the whole
  pub keep_parts : (A : List X) → length A ≡ length (keep f A) + length (keep (λ x. not (f x)) A)
  unfolding keep
  keep_parts [] = refl
  keep_parts (a ∷ A) = go (f a) (keep_parts A)
    where
      go : (t : Bool) → length A ≡ length (keep f A) + length (keep (λ x. not (f x)) A)
          → suc (length A) ≡ length (cond t (a ∷ keep f A) (keep f A)) + length (cond (not t) (a ∷ keep (λ x. not (f x)) A) (keep (λ x. not (f x)) A))
      go true r = omega arith
      go false r = omega arith

  keep_nothing : (A : List X) → All Dropped A → keep f A ≡ []
  unfolding keep
  keep_nothing [] h = refl
  keep_nothing (a ∷ A) h = rw h.0 (keep_nothing A h.1)

  pub all_keep : (P : X → Type 0) (A : List X) → All P A → All P (keep f A)
  unfolding keep
  all_keep P [] h = tt
  all_keep P (a ∷ A) h = go (f a) (all_keep P A h.1)
    where
      go : (t : Bool) → All P (keep f A) → All P (cond t (a ∷ keep f A) (keep f A))
      go true k = (h.0, k)
      go false k = k

  -- what is kept passes the test
  pub keep_passes : (A : List X) → All (λ x. f x ≡ true) (keep f A)
  unfolding keep
  keep_passes [] = tt
  keep_passes (a ∷ A) = go (f a) refl (keep_passes A)
    where
      go : (t : Bool) → f a ≡ t → All (λ x. f x ≡ true) (keep f A) → All (λ x. f x ≡ true) (cond t (a ∷ keep f A) (keep f A))
      go true e k = (e, k)
      go false e k = k

-- a test of what things are read as
pub map_keep : {X Y : Type 0} (g : X → Y) (f : Y → Bool) (A : List X) → map g (keep (λ x. f (g x)) A) ≡ keep f (map g A)
unfolding keep
map_keep g f [] = refl
map_keep g f (a ∷ A) = go (f (g a)) (map_keep g f A)
  where
    go : (t : Bool) → map g (keep (λ x. f (g x)) A) ≡ keep f (map g A)
        → map g (cond t (a ∷ keep (λ x. f (g x)) A) (keep (λ x. f (g x)) A)) ≡ cond t (g a ∷ keep f (map g A)) (keep f (map g A))
    go true e = ap (◌∷◌ (g a)) e
    go false e = e

-- ---- what ours that is dropped shares is dropped

module _ {X : Type 0} (f : X → Bool) (P : X → Type 0) (meet : X → X → List X)
    (first : (a b : X) → P a → P b → f a ≡ false → All (Dropped f) (meet a b)) where
  dropped_meets : (a : X) (B : List X) → P a → f a ≡ false → All P B → All (Dropped f) (meets_of meet a B)
  unfolding meets_of
  dropped_meets a [] p d h = tt
  dropped_meets a (b ∷ B) p d h = all_append (Dropped f) (meet a b) (meets_of meet a B) (first a b p h.0 d) (dropped_meets a B p d h.1)

  pub keep_shared : (A B : List X) → All P A → All P B → keep f (shared_of meet (keep f A) B) ≡ keep f (shared_of meet A B)
  unfolding keep shared_of
  keep_shared [] B h k = refl
  keep_shared (a ∷ A) B h k = go (f a) refl (keep_shared A B h.1 k) ∙ sym (keep_append f (meets_of meet a B) (shared_of meet A B))
    where
      go : (t : Bool) → f a ≡ t → keep f (shared_of meet (keep f A) B) ≡ keep f (shared_of meet A B)
          → keep f (shared_of meet (cond t (a ∷ keep f A) (keep f A)) B) ≡ keep f (meets_of meet a B) ++ keep f (shared_of meet A B)
      go true e i = keep_append f (meets_of meet a B) (shared_of meet (keep f A) B) ∙ ap (◌++◌ (keep f (meets_of meet a B))) i
      go false e i = rw (keep_nothing f (meets_of meet a B) (dropped_meets a B h.0 e k)) i

-- ---- what theirs that is dropped shares is dropped

module _ {X : Type 0} (f : X → Bool) (P : X → Type 0) (meet : X → X → List X)
    (second : (a b : X) → P a → P b → f b ≡ false → All (Dropped f) (meet a b)) where
  keep_meets : (a : X) (B : List X) → P a → All P B → keep f (meets_of meet a (keep f B)) ≡ keep f (meets_of meet a B)
  unfolding keep meets_of
  keep_meets a [] p k = refl
  keep_meets a (b ∷ B) p k = go (f b) refl (keep_meets a B p k.1) ∙ sym (keep_append f (meet a b) (meets_of meet a B))
    where
      go : (t : Bool) → f b ≡ t → keep f (meets_of meet a (keep f B)) ≡ keep f (meets_of meet a B)
          → keep f (meets_of meet a (cond t (b ∷ keep f B) (keep f B))) ≡ keep f (meet a b) ++ keep f (meets_of meet a B)
      go true e i = keep_append f (meet a b) (meets_of meet a (keep f B)) ∙ ap (◌++◌ (keep f (meet a b))) i
      go false e i = rw (keep_nothing f (meet a b) (second a b p k.0 e)) i

  pub keep_shared_second : (A B : List X) → All P A → All P B → keep f (shared_of meet A (keep f B)) ≡ keep f (shared_of meet A B)
  unfolding shared_of
  keep_shared_second [] B h k = refl
  keep_shared_second (a ∷ A) B h k =
      keep_append f (meets_of meet a (keep f B)) (shared_of meet A (keep f B))
      ∙ ap₂ ◌++◌ (keep_meets a B h.0 k) (keep_shared_second A B h.1 k)
      ∙ sym (keep_append f (meets_of meet a B) (shared_of meet A B))

-- ---- what is left of ours that is dropped is dropped

module _ {X : Type 0} (f : X → Bool) (P : X → Type 0) (cut : X → X → List X) (good : (a b : X) → P a → P b → All P (cut a b))
    (part : (a b : X) → P a → P b → f a ≡ false → All (Dropped f) (cut a b)) where
  dropped_cuts : (A : List X) (b : X) → All P A → All (Dropped f) A → P b → All (Dropped f) (cuts_of cut A b)
  unfolding cuts_of
  dropped_cuts [] b h d p = tt
  dropped_cuts (a ∷ A) b h d p = all_append (Dropped f) (cut a b) (cuts_of cut A b) (part a b h.0 p d.0) (dropped_cuts A b h.1 d.1 p)

  dropped_without : (A B : List X) → All P A → All (Dropped f) A → All P B → All (Dropped f) (without_of cut A B)
  unfolding without_of
  dropped_without A [] h d k = d
  dropped_without A (b ∷ B) h d k = dropped_without (cuts_of cut A b) B (all_cuts P cut good A b h k.0) (dropped_cuts A b h d k.0) k.1

  pub keep_without : (A B : List X) → All P A → All P B → keep f (without_of cut (keep f A) B) ≡ keep f (without_of cut A B)
  unfolding keep
  keep_without [] B h k = refl
  keep_without (a ∷ A) B h k =
      go (f a) refl (keep_without A B h.1 k)
      ∙ sym (keep_append f (without_of cut (a ∷ []) B) (without_of cut A B))
      ∙ ap (keep f) (sym (without_append cut (a ∷ []) A B))
    where
      go : (t : Bool) → f a ≡ t → keep f (without_of cut (keep f A) B) ≡ keep f (without_of cut A B)
          → keep f (without_of cut (cond t (a ∷ keep f A) (keep f A)) B) ≡ keep f (without_of cut (a ∷ []) B) ++ keep f (without_of cut A B)
      go true e i =
          ap (keep f) (without_append cut (a ∷ []) (keep f A) B)
          ∙ keep_append f (without_of cut (a ∷ []) B) (without_of cut (keep f A) B)
          ∙ ap (◌++◌ (keep f (without_of cut (a ∷ []) B))) i
      go false e i = rw (keep_nothing f (without_of cut (a ∷ []) B) (dropped_without (a ∷ []) B (h.0, tt) (e, tt) k)) i
