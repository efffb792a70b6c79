-- What two lists share, and what one keeps without the other, given what two of their things share and what one thing keeps; those of a
-- list that pass a test; and a list in another order.
-- The things are of any type. Definitions only. Assumes nothing.
use Rattle.std.specs.Prelude.{◌≡◌, Bool, cond, List, [], ◌∷◌, ◌++◌}

-- 01 m4.1: one of ours with theirs in order, what each pair shares
unfoldable pub meets_of : {X Y : Type 0} → (X → X → List Y) → X → List X → List Y
meets_of meet a [] = []
meets_of meet a (b ∷ B) = meet a b ++ meets_of meet a B

-- 01 m4.1: shared: over ours in order, then theirs in order, what each pair shares
unfoldable pub shared_of : {X Y : Type 0} → (X → X → List Y) → List X → List X → List Y
shared_of meet [] B = []
shared_of meet (a ∷ A) B = meets_of meet a B ++ shared_of meet A B

-- 01 m4.2: each of ours with one of theirs removed, pieces in order
unfoldable pub cuts_of : {X : Type 0} → (X → X → List X) → List X → X → List X
cuts_of cut [] b = []
cuts_of cut (a ∷ A) b = cut a b ++ cuts_of cut A b

-- 01 m4.2, m4.3: ours-only: each of ours with all of theirs removed, pieces ascending; theirs-only is this with sides exchanged
unfoldable pub without_of : {X : Type 0} → (X → X → List X) → List X → List X → List X
without_of cut A [] = A
without_of cut A (b ∷ B) = without_of cut (cuts_of cut A b) B

-- 01 m6.10, 02 §2.1: those of a list that f holds of, in order
unfoldable pub keep : {X : Type 0} → (X → Bool) → List X → List X
keep f [] = []
keep f (a ∷ A) = cond (f a) (a ∷ keep f A) (keep f A)

-- 02 §10.1: the second list is the first in another order: each of its things in turn is taken out of what is left of the first, wherever it
-- stands
abbrev pub Reordered : {X : Type 0} → List X → List X → Type 0
Reordered A [] = A ≡ []
Reordered {X} A (b ∷ B) = (before : List X) × (after : List X) × (A ≡ before ++ (b ∷ after)) × Reordered (before ++ after) B
