-- Canonical lists and their parts: what a part can hold. Assumes nothing.
use Prim.Native.Nat.{ℕ, suc, ◌≤◌}
use mathlib.Core.Path.{◌≡◌, refl}
use mathlib.Core.Bool.{false}
use mathlib.Core.List.{List, [], ◌∷◌, ◌++◌}
use native.Mathlib.Omega.{arith}
use Rattle.intervals.specs.Intervals.{Interval, Apart, holds}
use Rattle.intervals.proofs.Members.{inside_past}
use Rattle.intervals.proofs.Laws.{apart_weaken}

pub apart_front : (lo : ℕ) (A B : List Interval) → Apart lo (A ++ B) → Apart lo A
apart_front lo [] B h = tt
apart_front lo (a ∷ A) B h = (h.0, h.1, apart_front (suc a.1) A B h.2)

-- what stands after A starts above all that A holds
pub apart_back : (lo : ℕ) (A B : List Interval) → Apart lo (A ++ B) → Apart lo B
apart_back lo [] B h = h
apart_back lo (a ∷ A) B h = apart_weaken (suc a.1) lo B (omega arith) (apart_back (suc a.1) A B h.2)

pub apart_above : (lo : ℕ) (A : List Interval) (b : Interval) (B : List Interval) (p : ℕ) → Apart lo (A ++ b ∷ B) → b.0 ≤ p → holds A p ≡ false
unfolding holds
apart_above lo [] b B p h l = refl
apart_above lo (a ∷ A) b B p h l =
    rw (inside_past a.0 a.1 p (omega (arith, apart_back (suc a.1) A (b ∷ B) h.2)))
    (apart_above (suc a.1) A b B p h.2 l)
