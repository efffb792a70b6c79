-- `shared_of` and `without_of` in one pass over both lists: of the two heads, the one that ends first is done with.
-- Each thing has a low and a high rank; on lists that ascend, a pass gives what the definition says. Assumes nothing.
use Prim.Native.Nat.{ℕ, ◌≤◌, ◌<◌}
use mathlib.Core.Path.{◌≡◌, refl, sym, ◌∙◌}
use mathlib.Core.Bool.{Bool, true, false, cond}
use mathlib.Core.List.{List, [], ◌∷◌, ◌++◌, append_assoc, append-nil}
use native.Mathlib.Omega.{arith}
use Rattle.intervals.specs.Lists.{meets_of, shared_of, cuts_of, without_of}
use Rattle.intervals.proofs.Lists.{shared_nil, without_append, without_nil}

-- ---- the passes. `rest` goes on without a

unfoldable pub sweep_from : {X Y : Type 0} → (X → X → List Y) → (X → X → Bool) → X → (List X → List Y) → List X → List Y
sweep_from meet first a rest [] = []
sweep_from meet first a rest (b ∷ B) = meet a b ++ cond (first a b) (rest (b ∷ B)) (sweep_from meet first a rest B)

unfoldable pub sweep_of : {X Y : Type 0} → (X → X → List Y) → (X → X → Bool) → List X → List X → List Y
sweep_of meet first [] B = []
sweep_of meet first (a ∷ A) B = sweep_from meet first a (sweep_of meet first A) B

-- left: what stands below b is out; right: what stands past b, where b ends first, is still to do
unfoldable pub strip_from : {X : Type 0} → (X → X → List X) → (X → X → X) → (X → X → Bool) → X → (List X → List X)
    → List X → List X
strip_from left right first a rest [] = a ∷ rest []
strip_from left right first a rest (b ∷ B) =
    left a b ++ cond (first a b) (rest (b ∷ B)) (strip_from left right first (right a b) rest B)

unfoldable pub strip_of : {X : Type 0} → (X → X → List X) → (X → X → X) → (X → X → Bool) → List X → List X → List X
strip_of left right first [] B = []
strip_of left right first (a ∷ A) B = strip_from left right first a (strip_of left right first A) B

-- ---- the steps of a pass

module _ {X Y : Type 0} (meet : X → X → List Y) (first : X → X → Bool) where
  pub sweep_first : (a : X) (A : List X) (b : X) (B : List X) → first a b ≡ true
      → sweep_of meet first (a ∷ A) (b ∷ B) ≡ meet a b ++ sweep_of meet first A (b ∷ B)
  unfolding sweep_of sweep_from
  sweep_first a A b B h = rw h

  pub sweep_second : (a : X) (A : List X) (b : X) (B : List X) → first a b ≡ false
      → sweep_of meet first (a ∷ A) (b ∷ B) ≡ meet a b ++ sweep_of meet first (a ∷ A) B
  unfolding sweep_of sweep_from
  sweep_second a A b B h = rw h

  pub sweep_nil : (A : List X) → sweep_of meet first A [] ≡ []
  unfolding sweep_of sweep_from
  sweep_nil [] = refl
  sweep_nil (a ∷ A) = refl

module _ {X : Type 0} (left : X → X → List X) (right : X → X → X) (first : X → X → Bool) where
  pub strip_first : (a : X) (A : List X) (b : X) (B : List X) → first a b ≡ true
      → strip_of left right first (a ∷ A) (b ∷ B) ≡ left a b ++ strip_of left right first A (b ∷ B)
  unfolding strip_of strip_from
  strip_first a A b B h = rw h

  pub strip_second : (a : X) (A : List X) (b : X) (B : List X) → first a b ≡ false
      → strip_of left right first (a ∷ A) (b ∷ B) ≡ left a b ++ strip_of left right first (right a b ∷ A) B
  unfolding strip_of strip_from
  strip_second a A b B h = rw h

-- ---- what the laws ask of the things and of the lists

-- good things of which each starts at or after the end of the one before it, and the first at or after lo
abbrev pub AboveOf : {X : Type 0} → (X → Type 0) → (X → ℕ) → (X → ℕ) → ℕ → List X → Type 0
AboveOf Good low high lo [] = Unit {0}
AboveOf Good low high lo (a ∷ A) = (lo ≤ low a) × Good a × AboveOf Good low high (high a) A

-- good things that end at or before hi
abbrev pub BelowOf : {X : Type 0} → (X → Type 0) → (X → ℕ) → ℕ → List X → Type 0
BelowOf Good high hi [] = Unit {0}
BelowOf Good high hi (a ∷ A) = (high a ≤ hi) × Good a × BelowOf Good high hi A

-- a good thing starts below its end, and `first` tells which of two ends first
pub record Spanned {X : Type 0} (first : X → X → Bool) (Good : X → Type 0) (low high : X → ℕ) : Type 0 where
  pub proper : (a : X) → Good a → low a < high a
  pub sooner : (a b : X) → Good a → Good b → first a b ≡ true → high a ≤ high b
  pub later : (a b : X) → Good a → Good b → first a b ≡ false → high b < high a

-- things that do not overlap share nothing
pub record Meeting {X Y : Type 0} (meet : X → X → List Y) (first : X → X → Bool) (Good : X → Type 0)
    (low high : X → ℕ) : Type 0 where
  pub spanned : Spanned first Good low high
  pub none_below : (a b : X) → Good a → Good b → high a ≤ low b → meet a b ≡ []
  pub none_past : (a b : X) → Good a → Good b → high b ≤ low a → meet a b ≡ []

-- a cut keeps what stands below b and, where b ends first, what stands past b; it keeps a whole where the two do not overlap
pub record Cutting {X : Type 0} (cut left : X → X → List X) (right : X → X → X) (first : X → X → Bool) (Good : X → Type 0)
    (low high : X → ℕ) : Type 0 where
  pub spanned : Spanned first Good low high
  pub cut_first : (a b : X) → Good a → Good b → high a ≤ high b → cut a b ≡ left a b
  pub cut_second : (a b : X) → Good a → Good b → high b < high a → cut a b ≡ left a b ++ (right a b ∷ [])
  pub whole_below : (a b : X) → Good a → Good b → high a ≤ low b → cut a b ≡ a ∷ []
  pub whole_past : (a b : X) → Good a → Good b → high b ≤ low a → cut a b ≡ a ∷ []
  pub left_below : (a b : X) → Good a → Good b → BelowOf Good high (low b) (left a b)
  pub right_good : (a b : X) → Good a → Good b → high b < high a → Good (right a b)
  pub right_high : (a b : X) → Good a → Good b → high b < high a → high (right a b) ≡ high a

-- ---- `sweep_of` is `shared_of`

module _ {X Y : Type 0} {meet : X → X → List Y} {first : X → X → Bool} {Good : X → Type 0} {low high : X → ℕ}
    (M : Meeting meet first Good low high) where
  pub meets_past : (lo : ℕ) (a : X) (B : List X) → Good a → AboveOf Good low high lo B → high a ≤ lo → meets_of meet a B ≡ []
  unfolding meets_of
  meets_past lo a [] g h_b h = refl
  meets_past lo a (b ∷ B) g h_b h =
      let p = M.spanned.proper b h_b.1 in
      rw (M.none_below a b g h_b.1 (omega arith), meets_past (high b) a B g h_b.2 (omega arith))

  shared_past : (lo : ℕ) (A : List X) (b : X) (B : List X) → Good b → AboveOf Good low high lo A → high b ≤ lo
      → shared_of meet A (b ∷ B) ≡ shared_of meet A B
  unfolding shared_of meets_of
  shared_past lo [] b B g h_a h = refl
  shared_past lo (a ∷ A) b B g h_a h =
      let p = M.spanned.proper a h_a.1 in
      rw (M.none_past a b h_a.1 g (omega arith), shared_past (high a) A b B g h_a.2 (omega arith))

  sweep_from_is : (lo : ℕ) (a : X) (A : List X) → Good a → AboveOf Good low high (high a) A
      → ((lo : ℕ) (B : List X) → AboveOf Good low high lo B → sweep_of meet first A B ≡ shared_of meet A B)
      → (B : List X) → AboveOf Good low high lo B
      → sweep_from meet first a (sweep_of meet first A) B ≡ meets_of meet a B ++ shared_of meet A B
  unfolding sweep_from meets_of
  sweep_from_is lo a A g h_a ih [] h_b = sym (shared_nil meet A)
  sweep_from_is lo a A g h_a ih (b ∷ B) h_b = go (first a b) refl (sweep_from_is (high b) a A g h_a ih B h_b.2)
    where
      go : (t : Bool) → first a b ≡ t
          → sweep_from meet first a (sweep_of meet first A) B ≡ meets_of meet a B ++ shared_of meet A B
          → meet a b ++ cond t (sweep_of meet first A (b ∷ B)) (sweep_from meet first a (sweep_of meet first A) B)
          ≡ (meet a b ++ meets_of meet a B) ++ shared_of meet A (b ∷ B)
      go true e r =
          let l = M.spanned.sooner a b g h_b.1 e in
          rw (ih lo (b ∷ B) h_b, meets_past (high b) a B g h_b.2 l, append-nil)
      go false e r =
          let l = M.spanned.later a b g h_b.1 e in
          rw (r, shared_past (high a) A b B h_b.1 h_a (omega arith), append_assoc)

  sweep_is : (lo : ℕ) (A : List X) → AboveOf Good low high lo A
      → (lo' : ℕ) (B : List X) → AboveOf Good low high lo' B → sweep_of meet first A B ≡ shared_of meet A B
  unfolding sweep_of shared_of
  sweep_is lo [] h_a lo' B h_b = refl
  sweep_is lo (a ∷ A) h_a lo' B h_b = sweep_from_is lo' a A h_a.1 h_a.2 (sweep_is (high a) A h_a.2) B h_b

  pub sweep_is_shared : (A B : List X) → AboveOf Good low high 0 A → AboveOf Good low high 0 B
      → sweep_of meet first A B ≡ shared_of meet A B
  sweep_is_shared A B h_a h_b = sweep_is 0 A h_a 0 B h_b

-- ---- `strip_of` is `without_of`

module _ {X : Type 0} {cut left : X → X → List X} {right : X → X → X} {first : X → X → Bool} {Good : X → Type 0}
    {low high : X → ℕ} (C : Cutting cut left right first Good low high) where
  -- those that end where b starts, or before, stay whole
  cuts_below : (A : List X) (b : X) → Good b → BelowOf Good high (low b) A → cuts_of cut A b ≡ A
  unfolding cuts_of
  cuts_below [] b g h = refl
  cuts_below (a ∷ A) b g h = rw (C.whole_below a b h.1 g h.0, cuts_below A b g h.2)

  below_le : (hi hi' : ℕ) (A : List X) → hi ≤ hi' → BelowOf Good high hi A → BelowOf Good high hi' A
  below_le hi hi' [] l h = tt
  below_le hi hi' (a ∷ A) l h = (omega arith, h.1, below_le hi hi' A l h.2)

  without_below : (lo : ℕ) (A B : List X) → AboveOf Good low high lo B → BelowOf Good high lo A → without_of cut A B ≡ A
  unfolding without_of
  without_below lo A [] h_b h = refl
  without_below lo A (b ∷ B) h_b h =
      let p = C.spanned.proper b h_b.1 in
      rw (cuts_below A b h_b.1 (below_le lo (low b) A h_b.0 h))
      (without_below (high b) A B h_b.2 (below_le lo (high b) A (omega arith) h))

  -- those that start where b ends, or later, stay whole
  cuts_past : (lo : ℕ) (A : List X) (b : X) → Good b → AboveOf Good low high lo A → high b ≤ lo → cuts_of cut A b ≡ A
  unfolding cuts_of
  cuts_past lo [] b g h_a h = refl
  cuts_past lo (a ∷ A) b g h_a h =
      let p = C.spanned.proper a h_a.1 in
      rw (C.whole_past a b h_a.1 g (omega arith), cuts_past (high a) A b g h_a.2 (omega arith))

  strip_from_is : (lo : ℕ) (a : X) (A : List X) → Good a → AboveOf Good low high (high a) A
      → ((lo : ℕ) (B : List X) → AboveOf Good low high lo B → strip_of left right first A B ≡ without_of cut A B)
      → (B : List X) → AboveOf Good low high lo B
      → strip_from left right first a (strip_of left right first A) B ≡ without_of cut (a ∷ []) B ++ without_of cut A B
  unfolding strip_from without_of cuts_of
  strip_from_is lo a A g h_a ih [] h_b = rw (ih 0 [] tt)
  strip_from_is lo a A g h_a ih (b ∷ B) h_b =
      let k = C.left_below a b g h_b.1 in
      go (first a b) refl (below_le (low b) (high b) (left a b) (omega (arith, C.spanned.proper b h_b.1)) k)
      (λ l. strip_from_is (high b) (right a b) A (C.right_good a b g h_b.1 l)
      (rw (C.right_high a b g h_b.1 l) h_a) ih B h_b.2)
    where
      go : (t : Bool) → first a b ≡ t → BelowOf Good high (high b) (left a b)
          → (high b < high a → strip_from left right first (right a b) (strip_of left right first A) B
          ≡ without_of cut (right a b ∷ []) B ++ without_of cut A B)
          → left a b ++ cond t (strip_of left right first A (b ∷ B))
          (strip_from left right first (right a b) (strip_of left right first A) B)
          ≡ without_of cut (cut a b ++ []) B ++ without_of cut (cuts_of cut A b) B
      go true e k r =
          let l = C.spanned.sooner a b g h_b.1 e in
          rw (
            append-nil,
            C.cut_first a b g h_b.1 l,
            without_below (high b) (left a b) B h_b.2 k,
            ih lo (b ∷ B) h_b,
            without_of,
          )
      go false e k r =
          let l = C.spanned.later a b g h_b.1 e in
          rw (
            r l,
            append-nil,
            C.cut_second a b g h_b.1 l,
            without_append cut (left a b) (right a b ∷ []) B,
            without_below (high b) (left a b) B h_b.2 k,
            cuts_past (high a) A b h_b.1 h_a (omega arith),
            append_assoc,
          )

  strip_is : (lo : ℕ) (A : List X) → AboveOf Good low high lo A
      → (lo' : ℕ) (B : List X) → AboveOf Good low high lo' B → strip_of left right first A B ≡ without_of cut A B
  unfolding strip_of
  strip_is lo [] h_a lo' B h_b = sym (without_nil cut B)
  strip_is lo (a ∷ A) h_a lo' B h_b =
      strip_from_is lo' a A h_a.1 h_a.2 (strip_is (high a) A h_a.2) B h_b ∙ sym (without_append cut (a ∷ []) A B)

  pub strip_is_without : (A B : List X) → AboveOf Good low high 0 A → AboveOf Good low high 0 B
      → strip_of left right first A B ≡ without_of cut A B
  strip_is_without A B h_a h_b = strip_is 0 A h_a 0 B h_b

-- ---- what a list starts after may be left out of the other

pub above_le : {X : Type 0} (Good : X → Type 0) (low high : X → ℕ) (lo lo' : ℕ) (A : List X) → lo ≤ lo'
    → AboveOf Good low high lo' A → AboveOf Good low high lo A
above_le Good low high lo lo' [] l h = tt
above_le Good low high lo lo' (a ∷ A) l h = (omega arith, h.1, h.2)

pub sweep_skip : {X Y : Type 0} {meet : X → X → List Y} {first : X → X → Bool} {Good : X → Type 0} {low high : X → ℕ}
    → Meeting meet first Good low high → (A : List X) (b : X) (B : List X) → AboveOf Good low high (high b) A
    → AboveOf Good low high 0 (b ∷ B) → sweep_of meet first A (b ∷ B) ≡ sweep_of meet first A B
sweep_skip {Good = Good} {low = low} {high = high} M A b B h_a h_b =
    let a0 = above_le Good low high 0 (high b) A (omega arith) h_a in
    let b0 = above_le Good low high 0 (high b) B (omega arith) h_b.2 in
    sweep_is_shared M A (b ∷ B) a0 h_b ∙ shared_past M (high b) A b B h_b.1 h_a (omega arith) ∙ sym (sweep_is_shared M A B a0 b0)

pub strip_skip : {X : Type 0} {cut left : X → X → List X} {right : X → X → X} {first : X → X → Bool} {Good : X → Type 0}
    {low high : X → ℕ} → Cutting cut left right first Good low high → (A : List X) (b : X) (B : List X)
    → AboveOf Good low high (high b) A → AboveOf Good low high 0 (b ∷ B)
    → strip_of left right first A (b ∷ B) ≡ strip_of left right first A B
unfolding without_of
strip_skip {Good = Good} {low = low} {high = high} C A b B h_a h_b =
    let a0 = above_le Good low high 0 (high b) A (omega arith) h_a in
    let b0 = above_le Good low high 0 (high b) B (omega arith) h_b.2 in
    strip_is_without C A (b ∷ B) a0 h_b
    ∙ rw (cuts_past C (high b) A b h_b.1 h_a (omega arith))
    (sym (strip_is_without C A B a0 b0))

-- against nothing a list stays whole
pub strip_nil : {X : Type 0} (left : X → X → List X) (right : X → X → X) (first : X → X → Bool) (A : List X) → strip_of left right first A [] ≡ A
unfolding strip_of strip_from
strip_nil left right first [] = refl
strip_nil left right first (a ∷ A) = rw (strip_nil left right first A)
