-- `joined`: what it holds, and that it has no two that touch. Assumes nothing.
use Prim.Native.Nat.{ℕ, suc, ◌≤◌, ◌<◌, max}
use mathlib.Core.Path.{◌≡◌}
use mathlib.Core.Bool.{◌||◌, or_assoc, or-false}
use mathlib.Core.List.{List, [], ◌∷◌, ◌++◌}
use native.Mathlib.Decide.{dec_lt, dec_le}
use native.Mathlib.Omega.{arith}
use borrow.Author.Tests.{le-leb, lt-leb}
use Rattle.intervals.specs.Intervals.{Interval, Apart, Canonical, inside, holds, piece}
use Rattle.intervals.proofs.Members.{inside_past}
use Rattle.intervals.proofs.Members.{inside_touch}
use Rattle.intervals.proofs.Laws.{piece_some, piece_none, holds_append, holds_piece}
use Rattle.pairs_sort.specs.Pairs.{joined_from, joined}

-- the starts rise, the first at or after lo
abbrev pub Starts : ℕ → List Interval → Type 0
Starts lo [] = Unit {0}
Starts lo (a ∷ A) = (lo ≤ a.0) × Starts a.0 A

module _ (s e : ℕ) (b : Interval) (B : List Interval) where
  pub joined_touch : b.0 ≤ e → joined_from s e (b ∷ B) ≡ joined_from s (max e b.1) B
  unfolding joined_from
  joined_touch h = rw (le-leb b.0 e h)

  pub joined_apart : e < b.0 → joined_from s e (b ∷ B) ≡ piece s e ++ joined_from b.0 b.1 B
  unfolding joined_from
  joined_apart h = rw (lt-leb b.0 e h)

pub holds_joined_from : (lo s e : ℕ) (B : List Interval) (x : ℕ) → s ≤ lo → Starts lo B
    → holds (joined_from s e B) x ≡ inside s e x || holds B x
unfolding joined_from holds
holds_joined_from lo s e [] x l h_b = rw (holds_piece s e x, or-false)
holds_joined_from lo s e (b ∷ B) x l h_b = elim (dec_le b.0 e) [
  | yes h ↦ rw (
    joined_touch s e b B h,
    holds_joined_from b.0 s (max e b.1) B x (omega arith) h_b.1,
    inside_touch s e b.0 b.1 x (omega arith) h,
    or_assoc (inside s e x) (inside b.0 b.1 x) (holds B x),
  )
  | no h ↦ rw (
    joined_apart s e b B (omega arith),
    holds_append (piece s e) (joined_from b.0 b.1 B) x,
    holds_piece s e x,
    holds_joined_from b.0 b.0 b.1 B x (omega arith) h_b.1,
  )
]

piece_apart : (lo s e : ℕ) (B : List Interval) → lo ≤ s → Apart lo B → (s < e → Apart (suc e) B) → Apart lo (piece s e ++ B)
piece_apart lo s e B h r k = elim (dec_lt s e) [
  | yes l ↦ rw (piece_some s e l) (h, l, k l)
  | no l ↦ rw (piece_none s e (omega arith)) r
]

pub joined_from_apart : (lo lo' s e : ℕ) (B : List Interval) → lo' ≤ s → s ≤ lo → Starts lo B → Apart lo' (joined_from s e B)
unfolding joined_from
joined_from_apart lo lo' s e [] h l h_b = elim (dec_lt s e) [
  | yes k ↦ rw (piece_some s e k) (h, k, tt)
  | no k ↦ rw (piece_none s e (omega arith)) tt
]
joined_from_apart lo lo' s e (b ∷ B) h l h_b = elim (dec_le b.0 e) [
  | yes p ↦ rw (joined_touch s e b B p) (joined_from_apart b.0 lo' s (max e b.1) B h (omega arith) h_b.1)
  | no p ↦
      rw (joined_apart s e b B (omega arith))
      (piece_apart lo' s e (joined_from b.0 b.1 B) h
      (joined_from_apart b.0 lo' b.0 b.1 B (omega arith) (omega arith) h_b.1)
      (λ k. joined_from_apart b.0 (suc e) b.0 b.1 B (omega arith) (omega arith) h_b.1))
]

-- the two things that determine it

pub joined_canonical : (A : List Interval) → Starts 0 A → Canonical (joined A)
joined_canonical A h = joined_from_apart 0 0 0 0 A (omega arith) (omega arith) h

pub holds_joined : (A : List Interval) → Starts 0 A → (x : ℕ) → holds (joined A) x ≡ holds A x
holds_joined A h x = rw (holds_joined_from 0 0 0 A x (omega arith) h, inside_past 0 0 x (omega arith))
