-- The steps to associativity and commutativity of `shared`, and to taking away in either order. Assumes nothing.
use Prim.Native.Nat.{ℕ, ◌≤◌, ◌<◌, min, max}
use mathlib.Core.Path.{◌≡◌, refl}
use mathlib.Core.List.{List, [], ◌∷◌, ◌++◌, append_assoc, append-nil}
use mathlib.Core.Logic.{◌⊎◌, inl, inr}
use native.Mathlib.Decide.{dec_lt, dec_le}
use native.Mathlib.Nat.{max_comm, min_comm}
use native.Mathlib.Omega.{arith}
use Rattle.intervals.specs.Lists.{meets_of, shared_of, cuts_of, without_of}
use Rattle.intervals.specs.Intervals.{Interval, piece, cut, without}
use Rattle.intervals.proofs.Model.{Above, meet, shared}
use Rattle.intervals.proofs.Lists.{meets_append, shared_append, cuts_append}
use Rattle.intervals.proofs.Pieces.{meets, cuts, piece_none, shared_piece, meets_piece, cuts_piece}

max_assoc : (a b c : ℕ) → max a (max b c) ≡ max (max a b) c
max_assoc a b c = omega arith

min_assoc : (a b c : ℕ) → min a (min b c) ≡ min (min a b) c
min_assoc a b c = omega arith

max_swap : (a b c : ℕ) → max (max a b) c ≡ max (max a c) b
max_swap a b c = omega arith

min_swap : (a b c : ℕ) → min (min a b) c ≡ min (min a c) b
min_swap a b c = omega arith

-- of four lists the two in the middle change places, where one of them is empty
middle : (p q r t : List Interval) → (q ≡ []) ⊎ (r ≡ []) → (p ++ q) ++ (r ++ t) ≡ (p ++ r) ++ (q ++ t)
middle p q r t (inl e) = rw (e, append-nil, append_assoc)
middle p q r t (inr e) = rw (e, append-nil, append_assoc)

-- ---- associativity

meets_meets : (a b : Interval) (C : List Interval) → meets a (meets b C) ≡ meets (max a.0 b.0, min a.1 b.1) C
unfolding meets_of meet
meets_meets a b [] = refl
meets_meets a b (c ∷ C) = rw (
  meets_append meet a (piece (max b.0 c.0) (min b.1 c.1)) (meets b C),
  meets_meets a b C,
  meets_piece (max b.0 c.0) (min b.1 c.1) a,
  max_assoc a.0 b.0 c.0,
  min_assoc a.1 b.1 c.1,
)

pub meets_shared : (a : Interval) (B C : List Interval) → meets a (shared B C) ≡ shared (meets a B) C
unfolding meets_of shared_of meet
meets_shared a [] C = refl
meets_shared a (b ∷ B) C = rw (
  meets_append meet a (meets b C) (shared B C),
  shared_append meet (piece (max a.0 b.0) (min a.1 b.1)) (meets a B) C,
  shared_piece (max a.0 b.0) (min a.1 b.1) C,
  meets_meets a b C,
  meets_shared a B C,
)

-- ---- commutativity

meet_comm : (a b : Interval) → meet a b ≡ meet b a
unfolding meet
meet_comm a b = rw (max_comm a.0 b.0, min_comm a.1 b.1)

-- an interval that ends where a list begins, or before, meets none of it
meets_none : (lo : ℕ) (a : Interval) (B : List Interval) → Above lo B → a.1 ≤ lo → meets a B ≡ []
unfolding meets_of meet
meets_none lo a [] h_b h = refl
meets_none lo a (b ∷ B) h_b h =
    rw (piece_none (max a.0 b.0) (min a.1 b.1) (omega arith), meets_none b.1 a B h_b.2 (omega arith))

-- an interval at the head of the second list is met by each of the first: as though it met the first list
pub shared_cons : (lo lo' : ℕ) (a : Interval) (A B : List Interval) → Above lo (a ∷ A) → Above lo' B
    → shared B (a ∷ A) ≡ meets a B ++ shared B A
unfolding shared_of meets_of
shared_cons lo lo' a A [] h_a h_b = refl
shared_cons lo lo' a A (b ∷ B) h_a h_b =
    rw (shared_cons lo b.1 a A B h_a h_b.2, meet_comm b a)
    (middle (meet a b) (meets b A) (meets a B) (shared B A) (elim (dec_le a.1 b.1) [
      | yes h ↦ inr (meets_none b.1 a B h_b.2 h)
      | no h ↦ inl (meets_none a.1 b A h_a.2 (omega arith))
    ]))

-- ---- taking away: of the two pieces in the middle at least one is empty

cut_twice : (a b c : Interval) → cuts (cut a b) c
    ≡ (piece a.0 (min (min a.1 b.0) c.0) ++ piece (max a.0 c.1) (min a.1 b.0))
    ++ (piece (max a.0 b.1) (min a.1 c.0) ++ piece (max (max a.0 b.1) c.1) a.1)
unfolding cut
cut_twice a b c = rw (
  cuts_append cut (piece a.0 (min a.1 b.0)) (piece (max a.0 b.1) a.1) c,
  cuts_piece a.0 (min a.1 b.0) c,
  cuts_piece (max a.0 b.1) a.1 c,
)

one_empty : (a b c : Interval) → b.0 < b.1 → c.0 < c.1
    → (piece (max a.0 c.1) (min a.1 b.0) ≡ []) ⊎ (piece (max a.0 b.1) (min a.1 c.0) ≡ [])
one_empty a b c hb hc = elim (dec_lt (max a.0 c.1) (min a.1 b.0)) [
  | yes h ↦ inr (piece_none (max a.0 b.1) (min a.1 c.0) (omega arith))
  | no h ↦ inl (piece_none (max a.0 c.1) (min a.1 b.0) (omega arith))
]

cut_cut : (a b c : Interval) → b.0 < b.1 → c.0 < c.1 → cuts (cut a b) c ≡ cuts (cut a c) b
cut_cut a b c hb hc =
    let p = piece a.0 (min (min a.1 c.0) b.0) in
    let t = piece (max (max a.0 c.1) b.1) a.1 in
    rw (cut_twice a b c, cut_twice a c b, min_swap a.1 b.0 c.0, max_swap a.0 b.1 c.1)
    (middle p _ _ t (one_empty a b c hb hc))

cuts_cuts : (A : List Interval) (b c : Interval) → b.0 < b.1 → c.0 < c.1 → cuts (cuts A b) c ≡ cuts (cuts A c) b
unfolding cuts_of
cuts_cuts [] b c hb hc = refl
cuts_cuts (a ∷ A) b c hb hc = rw (
  cuts_append cut (cut a b) (cuts A b) c,
  cuts_append cut (cut a c) (cuts A c) b,
  cut_cut a b c hb hc,
  cuts_cuts A b c hb hc,
)

pub without_cuts : (lo : ℕ) (A B : List Interval) (c : Interval) → Above lo B → c.0 < c.1
    → without (cuts A c) B ≡ cuts (without A B) c
unfolding without_of
without_cuts lo A [] c h_b hc = refl
without_cuts lo A (b ∷ B) c h_b hc = rw (cuts_cuts A c b hc h_b.1) (without_cuts b.1 (cuts A b) B c h_b.2 hc)
