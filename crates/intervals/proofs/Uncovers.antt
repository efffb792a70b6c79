-- `uncover` of a canonical list: that it is canonical, the list by the range's place, and that it is longer by no more than one. Assumes
-- nothing.
use Prim.Native.Nat.{ℕ, suc, ◌≤◌, ◌<◌, min, max}
use mathlib.Core.Path.{◌≡◌, refl}
use mathlib.Core.Bool.{Bool, true, false, cond}
use mathlib.Core.List.{List, [], ◌∷◌, ◌++◌, append_assoc}
use native.Mathlib.Decide.{dec_lt}
use native.Mathlib.Omega.{arith}
use lib.Dec.{ltb}
use lib.ListN.{length, length-append}
use borrow.Author.Tests.{lt-ltb, le-ltb}
use Rattle.intervals.specs.Lists.{cuts_of, without_of}
use Rattle.intervals.specs.Intervals.{Interval, Apart, piece, cut}
use Rattle.intervals.specs.Cover.{uncover}
use Rattle.intervals.proofs.Pieces.{cuts, piece_some, piece_none}
use Rattle.intervals.proofs.Ordered.{apart_weaken}

module _ (A : List Interval) (s e : ℕ) where
  pub uncover_some : s < e → uncover A s e ≡ cuts A (s, e)
  unfolding uncover without_of
  uncover_some h = rw (piece_some s e h)

  -- a start not below its end changes nothing
  pub uncover_none : e ≤ s → uncover A s e ≡ A
  unfolding uncover without_of
  uncover_none h = rw (piece_none s e h)

-- ---- canonical

piece_apart : (lo s e : ℕ) (B : List Interval) → lo ≤ s → Apart lo B → (s < e → Apart (suc e) B) → Apart lo (piece s e ++ B)
piece_apart lo s e B h r k = elim (dec_lt s e) [
  | yes l ↦ rw (piece_some s e l) (h, l, k l)
  | no l ↦ rw (piece_none s e (omega arith)) r
]

pub cuts_apart : (lo : ℕ) (A : List Interval) (b : Interval) → b.0 < b.1 → Apart lo A → Apart lo (cuts A b)
unfolding cuts_of cut
cuts_apart lo [] b hb h_a = tt
cuts_apart lo (a ∷ A) b hb h_a =
    let left = min a.1 b.0 in
    let right = max a.0 b.1 in
    let rest : Apart (suc a.1) (cuts A b) = cuts_apart (suc a.1) A b hb h_a.2 in
    rw (append_assoc (piece a.0 left) (piece right a.1) (cuts A b))
    (piece_apart lo a.0 left (piece right a.1 ++ cuts A b) h_a.0
    (second lo (omega arith) (omega arith) rest)
    (λ k. second (suc left) (omega arith) (omega arith) rest))
  where
    second : (lo' : ℕ) → lo' ≤ max a.0 b.1 → lo' ≤ suc a.1 → Apart (suc a.1) (cuts A b)
        → Apart lo' (piece (max a.0 b.1) a.1 ++ cuts A b)
    second lo' h k rest =
        piece_apart lo' (max a.0 b.1) a.1 (cuts A b) h (apart_weaken (suc a.1) lo' (cuts A b) k rest) (λ l. rest)

-- ---- the list by the range's place: intervals that end at or before its start stay

pub cuts_skip : (a : Interval) (A : List Interval) (s e : ℕ) → a.0 < a.1 → a.1 ≤ s → s < e → cuts (a ∷ A) (s, e) ≡ a ∷ cuts A (s, e)
unfolding cuts_of cut
cuts_skip a A s e h k l =
    let q : min a.1 s ≡ a.1 = omega arith in
    rw (q, piece_some a.0 a.1 h, piece_none (max a.0 e) a.1 (omega arith))

-- in a list that starts at or after s, the range from s takes away what all below its end takes away
pub cuts_above : (lo : ℕ) (A : List Interval) (s e : ℕ) → s ≤ lo → Apart lo A → cuts A (s, e) ≡ cuts A (0, e)
unfolding cuts_of cut
cuts_above lo [] s e h h_a = refl
cuts_above lo (a ∷ A) s e h h_a = rw (
  piece_none a.0 (min a.1 s) (omega arith),
  piece_none a.0 (min a.1 0) (omega arith),
  cuts_above (suc a.1) A s e (omega arith) h_a.2,
)

-- of the first interval that ends past the start of the range, what lies before the range stays; after that all below its end goes
pub cuts_open : (a : Interval) (A : List Interval) (s e : ℕ) → s < a.1 → Apart (suc a.1) A
    → cuts (a ∷ A) (s, e) ≡ piece a.0 s ++ cuts (a ∷ A) (0, e)
unfolding cuts_of cut
cuts_open a A s e h h_a =
    let q : min a.1 s ≡ s = omega arith in
    rw (
      q,
      piece_none a.0 (min a.1 0) (omega arith),
      cuts_above (suc a.1) A s e (omega arith) h_a,
      append_assoc (piece a.0 s) (piece (max a.0 e) a.1) (cuts A (0, e)),
    )

pub cuts_gone : (a : Interval) (A : List Interval) (e : ℕ) → a.1 ≤ e → cuts (a ∷ A) (0, e) ≡ cuts A (0, e)
unfolding cuts_of cut
cuts_gone a A e h = rw (piece_none a.0 (min a.1 0) (omega arith), piece_none (max a.0 e) a.1 (omega arith))

pub cuts_past : (lo : ℕ) (A : List Interval) (e : ℕ) → e ≤ lo → Apart lo A → cuts A (0, e) ≡ A
unfolding cuts_of cut
cuts_past lo [] e h h_a = refl
cuts_past lo (a ∷ A) e h h_a =
    let q : max a.0 e ≡ a.0 = omega arith in
    rw (
      piece_none a.0 (min a.1 0) (omega arith),
      q,
      piece_some a.0 a.1 h_a.1,
      cuts_past (suc a.1) A e (omega arith) h_a.2,
    )

-- the first that ends past the end of the range keeps what lies past it, and later ones stay
pub cuts_last : (a : Interval) (A : List Interval) (e : ℕ) → e < a.1 → a.0 < a.1 → Apart (suc a.1) A
    → cuts (a ∷ A) (0, e) ≡ (max a.0 e, a.1) ∷ A
unfolding cuts_of cut
cuts_last a A e h k h_a = rw (
  piece_none a.0 (min a.1 0) (omega arith),
  piece_some (max a.0 e) a.1 (omega arith),
  cuts_past (suc a.1) A e (omega arith) h_a,
)

-- ---- no more than one pair more

pub length_piece : (s e : ℕ) → length (piece s e) ≡ cond (ltb s e) 1 0
length_piece s e = elim (dec_lt s e) [
  | yes h ↦ rw (piece_some s e h, lt-ltb s e h)
  | no h ↦ rw (piece_none s e (omega arith), le-ltb s e (omega arith))
]

pub piece_one : (s e : ℕ) → length (piece s e) ≤ 1
piece_one s e = rw (length_piece s e) (go (ltb s e))
  where
    go : (t : Bool) → cond t 1 0 ≤ 1
    go true = omega arith
    go false = omega arith

length_below : (A : List Interval) (e : ℕ) → length (cuts A (0, e)) ≤ length A
unfolding cuts_of cut
length_below [] e = omega arith
length_below (a ∷ A) e =
    rw (piece_none a.0 (min a.1 0) (omega arith), length-append (piece (max a.0 e) a.1) (cuts A (0, e)))
    (omega (arith, piece_one (max a.0 e) a.1, length_below A e))

pub length_cuts : (lo : ℕ) (A : List Interval) (s e : ℕ) → s < e → Apart lo A → length (cuts A (s, e)) ≤ suc (length A)
unfolding cuts_of
length_cuts lo [] s e h h_a = omega arith
length_cuts lo (a ∷ A) s e h h_a = elim (dec_lt s a.1) [
  | yes k ↦
      rw (cuts_open a A s e k h_a.2, length-append (piece a.0 s) (cuts (a ∷ A) (0, e)))
      (omega (arith, piece_one a.0 s, length_below (a ∷ A) e))
  | no k ↦ rw (cuts_skip a A s e h_a.1 (omega arith) h) (omega (arith, length_cuts (suc a.1) A s e h h_a.2))
]
