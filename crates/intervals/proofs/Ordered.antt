-- What two strict lists share, and what one keeps without the other, is strict from where the first is. Assumes nothing.
use Prim.Native.Nat.{ℕ, suc, ◌≤◌, ◌<◌, min, max}
use mathlib.Core.List.{List, [], ◌∷◌, ◌++◌}
use native.Mathlib.Decide.{dec_lt}
use native.Mathlib.Omega.{arith}
use Rattle.intervals.specs.Lists.{meets_of, shared_of, cuts_of, without_of}
use Rattle.intervals.specs.Intervals.{Interval, Apart, piece, cut, without}
use Rattle.intervals.proofs.Model.{Above, meet, shared}
use Rattle.intervals.proofs.Pieces.{meets, cuts, piece_some, piece_none}

-- ---- a list above a lower bound, and one list after another

pub above_le : (lo lo' : ℕ) (A : List Interval) → lo ≤ lo' → Above lo' A → Above lo A
above_le lo lo' [] h h_a = tt
above_le lo lo' (a ∷ A) h h_a = (omega arith, h_a.1, h_a.2)

pub apart_weaken : (lo lo' : ℕ) (A : List Interval) → lo' ≤ lo → Apart lo A → Apart lo' A
apart_weaken lo lo' [] h a = tt
apart_weaken lo lo' (b ∷ A) h a = (omega arith, a.1, a.2)

pub apart→above : (lo : ℕ) (A : List Interval) → Apart lo A → Above lo A
apart→above lo [] h = tt
apart→above lo (a ∷ A) h = (h.0, h.1, above_le a.1 (suc a.1) A (omega arith) (apart→above (suc a.1) A h.2))

-- strict from lo on, and ended by hi
abbrev Between : ℕ → List Interval → ℕ → Type 0
Between lo [] hi = lo ≤ hi
Between lo (a ∷ A) hi = (lo ≤ a.0) × (a.0 < a.1) × Between a.1 A hi

between_above : (lo mid : ℕ) (L M : List Interval) → Between lo L mid → Above mid M → Above lo (L ++ M)
between_above lo mid [] M h_l h_m = above_le lo mid M h_l h_m
between_above lo mid (a ∷ L) M h_l h_m = (h_l.0, h_l.1, between_above a.1 mid L M h_l.2 h_m)

between_le : (lo lo' hi : ℕ) (A : List Interval) → lo ≤ lo' → Between lo' A hi → Between lo A hi
between_le lo lo' hi [] h h_a = omega arith
between_le lo lo' hi (a ∷ A) h h_a = (omega arith, h_a.1, h_a.2)

between_append : (lo mid hi : ℕ) (L M : List Interval) → Between lo L mid → Between mid M hi → Between lo (L ++ M) hi
between_append lo mid hi [] M h_l h_m = between_le lo mid hi M h_l h_m
between_append lo mid hi (a ∷ L) M h_l h_m = (h_l.0, h_l.1, between_append a.1 mid hi L M h_l.2 h_m)

between_piece : (lo hi s e : ℕ) → lo ≤ hi → lo ≤ s → e ≤ hi → Between lo (piece s e) hi
between_piece lo hi s e h hs he = elim (dec_lt s e) [
  | yes l ↦ rw (piece_some s e l) (hs, l, he)
  | no l ↦ rw (piece_none s e (omega arith)) h
]

-- ---- what is shared: from p on, where p is at or before whatever is still to come

meets_between : (lo p : ℕ) (a : Interval) (B : List Interval) → Above lo B → p ≤ max a.0 lo → p ≤ a.1
    → Between p (meets a B) a.1
unfolding meets_of meet
meets_between lo p a [] h_b hp he = he
meets_between lo p a (b ∷ B) h_b hp he = elim (dec_lt (max a.0 b.0) (min a.1 b.1)) [
  | yes h ↦
      rw (piece_some (max a.0 b.0) (min a.1 b.1) h)
      (omega arith, h, meets_between b.1 (min a.1 b.1) a B h_b.2 (omega arith) (omega arith))
  | no h ↦
      rw (piece_none (max a.0 b.0) (min a.1 b.1) (omega arith))
      (meets_between b.1 p a B h_b.2 (omega arith) he)
]

pub shared_above : (lo lo' : ℕ) (A B : List Interval) → Above lo A → Above lo' B → Above lo (shared A B)
unfolding shared_of
shared_above lo lo' [] B h_a h_b = tt
shared_above lo lo' (a ∷ A) B h_a h_b =
    between_above lo a.1 (meets a B) (shared A B)
    (meets_between lo' lo a B h_b (omega arith) (omega arith))
    (shared_above a.1 lo' A B h_a.2 h_b)

-- ---- what is kept

cuts_above : (lo : ℕ) (A : List Interval) (b : Interval) → b.0 < b.1 → Above lo A → Above lo (cuts A b)
unfolding cuts_of cut
cuts_above lo [] b hb h_a = tt
cuts_above lo (a ∷ A) b hb h_a =
    let mid = max lo (min a.1 b.0) in
    between_above lo a.1 (cut a b) (cuts A b)
    (between_append lo mid a.1 (piece a.0 (min a.1 b.0)) (piece (max a.0 b.1) a.1)
    (between_piece lo mid a.0 (min a.1 b.0) (omega arith) (omega arith) (omega arith))
    (between_piece mid a.1 (max a.0 b.1) a.1 (omega arith) (omega arith) (omega arith)))
    (cuts_above a.1 A b hb h_a.2)

pub without_above : (lo lo' : ℕ) (A B : List Interval) → Above lo A → Above lo' B → Above lo (without A B)
unfolding without_of
without_above lo lo' A [] h_a h_b = h_a
without_above lo lo' A (b ∷ B) h_a h_b = without_above lo b.1 (cuts A b) B (cuts_above lo A b h_b.1 h_a) h_b.2
