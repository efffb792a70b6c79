-- What `piece` is, by the order of its two numbers, and what a piece, which may be empty, shares and keeps. Assumes nothing.
use Prim.Native.Nat.{ℕ, ◌≤◌, ◌<◌, min, max}
use mathlib.Core.Path.{◌≡◌, refl}
use mathlib.Core.List.{List, [], ◌∷◌, ◌++◌, append-nil}
use native.Mathlib.Decide.{dec_lt}
use native.Mathlib.Omega.{arith}
use borrow.Author.Tests.{lt-ltb, le-ltb}
use Rattle.intervals.specs.Lists.{meets_of, shared_of, cuts_of}
use Rattle.intervals.specs.Intervals.{Interval, piece, cut}
use Rattle.intervals.proofs.Model.{meet, shared}
use Rattle.intervals.proofs.Lists.{All, all_append}

-- `meets_of` and `cuts_of` of intervals

abbrev pub meets : Interval → List Interval → List Interval
meets = meets_of meet

abbrev pub cuts : List Interval → Interval → List Interval
cuts = cuts_of cut

module _ (s e : ℕ) where
  pub piece_some : s < e → piece s e ≡ (s, e) ∷ []
  unfolding piece
  piece_some h = rw (lt-ltb s e h)

  pub piece_none : e ≤ s → piece s e ≡ []
  unfolding piece
  piece_none h = rw (le-ltb s e h)

-- ---- a piece met, and a piece cut

meets_empty : (a : Interval) (B : List Interval) → a.1 ≤ a.0 → meets a B ≡ []
unfolding meets_of meet
meets_empty a [] h = refl
meets_empty a (b ∷ B) h =
    let none : meet a b ≡ [] = piece_none (max a.0 b.0) (min a.1 b.1) (omega arith) in
    rw none (meets_empty a B h)

module _ (s e : ℕ) where
  pub shared_piece : (B : List Interval) → shared (piece s e) B ≡ meets (s, e) B
  unfolding shared_of
  shared_piece B = elim (dec_lt s e) [
    | yes h ↦ rw (piece_some s e h, append-nil)
    | no h ↦ rw (piece_none s e (omega arith), meets_empty (s, e) B (omega arith))
  ]

  pub meets_piece : (a : Interval) → meets a (piece s e) ≡ piece (max a.0 s) (min a.1 e)
  unfolding meets_of meet
  meets_piece a = elim (dec_lt s e) [
    | yes h ↦ rw (piece_some s e h, append-nil)
    | no h ↦ rw (piece_none s e (omega arith), piece_none (max a.0 s) (min a.1 e) (omega arith))
  ]

  pub cuts_piece : (b : Interval) → cuts (piece s e) b ≡ cut (s, e) b
  unfolding cuts_of cut
  cuts_piece b = elim (dec_lt s e) [
    | yes h ↦ rw (piece_some s e h, append-nil)
    | no h ↦
        let p : piece s e ≡ [] = piece_none s e (omega arith) in
        let parts : cut (s, e) b ≡ piece s (min e b.0) ++ piece (max s b.1) e = refl in
        rw (p, parts, piece_none s (min e b.0) (omega arith), piece_none (max s b.1) e (omega arith))
  ]

-- ---- what two intervals share lies within each, and what one keeps within it

abbrev pub Within : Interval → Interval → Type 0
Within i j = (i.0 ≤ j.0) × (j.1 ≤ i.1)

piece_within : (i : Interval) (s e : ℕ) → i.0 ≤ s → e ≤ i.1 → All (Within i) (piece s e)
piece_within i s e l m = elim (dec_lt s e) [
  | yes h ↦ rw (piece_some s e h) ((l, m), tt)
  | no h ↦ rw (piece_none s e (omega arith)) tt
]

pub meet_within : (i j : Interval) → All (Within i) (meet i j)
unfolding meet
meet_within i j = piece_within i (max i.0 j.0) (min i.1 j.1) (omega arith) (omega arith)

pub meet_within_second : (i j : Interval) → All (Within j) (meet i j)
unfolding meet
meet_within_second i j = piece_within j (max i.0 j.0) (min i.1 j.1) (omega arith) (omega arith)

pub cut_within : (i j : Interval) → All (Within i) (cut i j)
unfolding cut
cut_within i j =
    all_append (Within i) (piece i.0 (min i.1 j.0)) (piece (max i.0 j.1) i.1)
    (piece_within i i.0 (min i.1 j.0) (omega arith) (omega arith)) (piece_within i (max i.0 j.1) i.1 (omega arith) (omega arith))
