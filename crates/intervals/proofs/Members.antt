-- The numbers that an interval, a piece and a list hold, of two that meet and of one that is cut. Assumes nothing.
use Prim.Native.Nat.{ℕ, ◌≤◌, ◌<◌, min, max}
use mathlib.Core.Path.{◌≡◌, refl, sym}
use mathlib.Core.Bool.{Bool, true, false, ◌&&◌, ◌||◌, not, and-false, or-true, or-false, or_assoc}
use mathlib.Core.Bool.{and-or_distrib_left, and-or_distrib_right}
use mathlib.Core.List.{List, [], ◌∷◌, ◌++◌}
use native.Mathlib.Decide.{dec_lt}
use native.Mathlib.Omega.{arith}
use borrow.Author.Tests.{lt-ltb, le-ltb, le-leb, lt-leb}
use Rattle.intervals.specs.Lists.{meets_of, cuts_of}
use Rattle.intervals.specs.Intervals.{Interval, inside, holds, piece, cut}
use Rattle.intervals.proofs.Model.{meet}
use Rattle.intervals.proofs.Pieces.{meets, cuts, piece_some, piece_none}

-- a number below, in, or past an interval
pub data Where (s e x : ℕ) : Type 0 where
  below : x < s → Where s e x
  in_it : s ≤ x → x < e → Where s e x
  past : e ≤ x → Where s e x

module _ (s e x : ℕ) where
  pub where_is : Where s e x
  where_is = elim (dec_lt x s) [
    | yes h ↦ below h
    | no h ↦ elim (dec_lt x e) [
      | yes k ↦ in_it (omega arith) k
      | no k ↦ past (omega arith)
    ]
  ]

  pub inside_below : x < s → inside s e x ≡ false
  unfolding inside
  inside_below h = rw (lt-leb s x h)

  pub inside_yes : s ≤ x → x < e → inside s e x ≡ true
  unfolding inside
  inside_yes h k = rw (le-leb s x h, lt-ltb x e k)

  pub inside_past : e ≤ x → inside s e x ≡ false
  unfolding inside
  inside_past h = rw (le-ltb x e h, and-false)

  pub holds_piece : holds (piece s e) x ≡ inside s e x
  unfolding holds
  holds_piece = elim (dec_lt s e) [
    | yes h ↦ rw (piece_some s e h, or-false)
    | no h ↦ rw (piece_none s e (omega arith)) (elim where_is [
      | below k ↦ sym (inside_below k)
      | in_it j k ↦ absurd (omega arith)
      | past k ↦ sym (inside_past k)
    ])
  ]

pub holds_append : (L M : List Interval) (x : ℕ) → holds (L ++ M) x ≡ holds L x || holds M x
unfolding holds
holds_append [] M x = refl
holds_append (a ∷ L) M x = rw (holds_append L M x, or_assoc)

-- ---- two intervals

module _ (s e s' e' x : ℕ) where
  -- in the piece that two share exactly if in both
  pub inside_meet : inside (max s s') (min e e') x ≡ inside s e x && inside s' e' x
  inside_meet = elim (where_is s e x) [
    | below h ↦ rw (inside_below s e x h, inside_below (max s s') (min e e') x (omega arith))
    | in_it h k ↦ rw (inside_yes s e x h k) (elim (where_is s' e' x) [
      | below m ↦ rw (inside_below s' e' x m, inside_below (max s s') (min e e') x (omega arith))
      | in_it m n ↦ rw (inside_yes s' e' x m n, inside_yes (max s s') (min e e') x (omega arith) (omega arith))
      | past m ↦ rw (inside_past s' e' x m, inside_past (max s s') (min e e') x (omega arith))
    ])
    | past h ↦ rw (inside_past s e x h, inside_past (max s s') (min e e') x (omega arith))
  ]

  -- in one of the pieces that are left exactly if in the first and not in the second
  pub inside_cut : inside s (min e s') x || inside (max s e') e x ≡ inside s e x && not (inside s' e' x)
  inside_cut = elim (where_is s e x) [
    | below h ↦ rw (inside_below s e x h, inside_below s (min e s') x h, inside_below (max s e') e x (omega arith))
    | in_it h k ↦ rw (inside_yes s e x h k) (elim (where_is s' e' x) [
      | below m ↦ rw (inside_below s' e' x m, inside_yes s (min e s') x h (omega arith))
      | in_it m n ↦
          let p = inside_yes s' e' x m n in
          rw (p, inside_past s (min e s') x (omega arith), inside_below (max s e') e x (omega arith))
      | past m ↦ rw (inside_past s' e' x m, inside_yes (max s e') e x (omega arith) k, or-true)
    ])
    | past h ↦ rw (inside_past s e x h, inside_past s (min e s') x (omega arith), inside_past (max s e') e x h)
  ]

  -- no number is in both of these
  pub cut_once : s' ≤ e' → inside s (min e s') x && inside (max s e') e x ≡ false
  cut_once l = elim (dec_lt x s') [
    | yes h ↦ rw (inside_below (max s e') e x (omega arith), and-false)
    | no h ↦ rw (inside_past s (min e s') x (omega arith))
  ]

-- ---- an interval and a list

pub holds_meets : (a : Interval) (B : List Interval) (x : ℕ) → holds (meets a B) x ≡ inside a.0 a.1 x && holds B x
unfolding holds meets_of meet
holds_meets a [] x = sym (and-false (inside a.0 a.1 x))
holds_meets a (b ∷ B) x = rw (
  holds_append (piece (max a.0 b.0) (min a.1 b.1)) (meets a B) x,
  holds_piece (max a.0 b.0) (min a.1 b.1) x,
  inside_meet a.0 a.1 b.0 b.1 x,
  holds_meets a B x,
  and-or_distrib_left (inside a.0 a.1 x) (inside b.0 b.1 x) (holds B x),
)

pub holds_cuts : (A : List Interval) (b : Interval) (x : ℕ) → holds (cuts A b) x ≡ holds A x && not (inside b.0 b.1 x)
unfolding holds cuts_of cut
holds_cuts [] b x = refl
holds_cuts (a ∷ A) b x = rw (
  holds_append (cut a b) (cuts A b) x,
  holds_append (piece a.0 (min a.1 b.0)) (piece (max a.0 b.1) a.1) x,
  holds_piece a.0 (min a.1 b.0) x,
  holds_piece (max a.0 b.1) a.1 x,
  inside_cut a.0 a.1 b.0 b.1 x,
  holds_cuts A b x,
  and-or_distrib_right (inside a.0 a.1 x) (holds A x) (not (inside b.0 b.1 x)),
)

-- ---- what is taken away twice

pub and_nor : (p q r : Bool) → (p && not q) && not r ≡ p && not (q || r)
and_nor true true r = refl
and_nor true false r = refl
and_nor false q r = refl

-- ---- two that become one

-- of two that overlap or touch, the first starting first, the one made of both
pub inside_touch : (s e s' e' x : ℕ) → s ≤ s' → s' ≤ e → inside s (max e e') x ≡ inside s e x || inside s' e' x
inside_touch s e s' e' x h k = elim (where_is s e x) [
  | below p ↦ rw (inside_below s e x p, inside_below s (max e e') x p, inside_below s' e' x (omega arith))
  | in_it p q ↦ rw (inside_yes s e x p q, inside_yes s (max e e') x p (omega arith))
  | past p ↦ rw (inside_past s e x p) (elim (dec_lt x e') [
    | yes q ↦ rw (inside_yes s' e' x (omega arith) q, inside_yes s (max e e') x (omega arith) (omega arith))
    | no q ↦ rw (inside_past s' e' x (omega arith), inside_past s (max e e') x (omega arith))
  ])
]

-- ---- a list in two parts

pub either_way : (p q : Bool) → p ≡ (p && q) || (p && not q)
either_way true true = refl
either_way true false = refl
either_way false q = refl

pub never_both : (p q : Bool) → (p && q) && (p && not q) ≡ false
never_both true true = refl
never_both true false = refl
never_both false q = refl
