-- `cover` of a canonical list: what the list holds then, that it is canonical, and that it is longer by no more than one. Assumes nothing.
use Prim.Native.Nat.{ℕ, suc, ◌≤◌, ◌<◌, min, max}
use mathlib.Core.Path.{◌≡◌, refl}
use mathlib.Core.Bool.{Bool, true, false, ◌||◌, or_assoc}
use mathlib.Core.List.{List, [], ◌∷◌}
use native.Mathlib.Decide.{dec_lt}
use native.Mathlib.Omega.{arith}
use lib.ListN.{length}
use borrow.Author.Tests.{lt-ltb, le-ltb}
use Rattle.intervals.specs.Intervals.{Interval, Apart, inside, holds}
use Rattle.intervals.specs.Cover.{grow_of, cover_of, cover}
use Rattle.intervals.proofs.Members.{below, in_it, past, where_is, inside_yes, inside_below, inside_past}
use Rattle.intervals.proofs.Ordered.{apart_weaken}

-- ---- a turn of each

module _ (a : Interval) (A : List Interval) (s e : ℕ) where
  pub grow_stop : e < a.0 → grow_of (a ∷ A) s e ≡ (s, e) ∷ a ∷ A
  unfolding grow_of
  grow_stop h = rw (lt-ltb e a.0 h)

  pub grow_more : a.0 ≤ e → grow_of (a ∷ A) s e ≡ grow_of A (min s a.0) (max e a.1)
  unfolding grow_of
  grow_more h = rw (le-ltb e a.0 h)

  pub cover_skip : a.1 < s → cover_of (a ∷ A) s e ≡ a ∷ cover_of A s e
  unfolding cover_of
  cover_skip h = rw (lt-ltb a.1 s h)

  pub cover_here : s ≤ a.1 → cover_of (a ∷ A) s e ≡ grow_of (a ∷ A) s e
  unfolding cover_of
  cover_here h = rw (le-ltb a.1 s h)

module _ (A : List Interval) (s e : ℕ) where
  pub cover_some : s < e → cover A s e ≡ cover_of A s e
  unfolding cover
  cover_some h = rw (lt-ltb s e h)

  -- a start not below its end changes nothing
  pub cover_none : e ≤ s → cover A s e ≡ A
  unfolding cover
  cover_none h = rw (le-ltb s e h)

-- ---- what is held

-- of two that overlap or touch, the one made of both
inside_grow : (s e s' e' x : ℕ) → s < e → s' < e' → s ≤ e' → s' ≤ e → inside (min s s') (max e e') x ≡ inside s e x || inside s' e' x
inside_grow s e s' e' x h k l m = elim (where_is s e x) [
  | below p ↦ rw (inside_below s e x p) (elim (where_is s' e' x) [
    | below q ↦ rw (inside_below s' e' x q, inside_below (min s s') (max e e') x (omega arith))
    | in_it q r ↦ rw (inside_yes s' e' x q r, inside_yes (min s s') (max e e') x (omega arith) (omega arith))
    | past q ↦ absurd (omega arith)
  ])
  | in_it p q ↦ rw (inside_yes s e x p q, inside_yes (min s s') (max e e') x (omega arith) (omega arith))
  | past p ↦ rw (inside_past s e x p) (elim (where_is s' e' x) [
    | below q ↦ absurd (omega arith)
    | in_it q r ↦ rw (inside_yes s' e' x q r, inside_yes (min s s') (max e e') x (omega arith) (omega arith))
    | past q ↦ rw (inside_past s' e' x q, inside_past (min s s') (max e e') x (omega arith))
  ])
]

or_swap : (p q r : Bool) → p || (q || r) ≡ q || (p || r)
or_swap true true r = refl
or_swap true false r = refl
or_swap false q r = refl

holds_grow_first : (a : Interval) (A : List Interval) (s e x : ℕ) → s < e → a.0 < a.1 → s ≤ a.1
    → holds (grow_of A (min s a.0) (max e a.1)) x ≡ inside (min s a.0) (max e a.1) x || holds A x
    → holds (grow_of (a ∷ A) s e) x ≡ inside s e x || holds (a ∷ A) x
unfolding holds
holds_grow_first a A s e x h k l rest = elim (dec_lt e a.0) [
  | yes m ↦ rw (grow_stop a A s e m)
  | no m ↦ rw (
    grow_more a A s e (omega arith),
    rest,
    inside_grow s e a.0 a.1 x h k l (omega arith),
    or_assoc (inside s e x) (inside a.0 a.1 x) (holds A x),
  )
]

holds_grow : (lo : ℕ) (A : List Interval) (s e x : ℕ) → s < e → s ≤ lo → Apart lo A → holds (grow_of A s e) x ≡ inside s e x || holds A x
unfolding holds grow_of
holds_grow lo [] s e x h l h_a = refl
holds_grow lo (a ∷ A) s e x h l h_a =
    holds_grow_first a A s e x h h_a.1 (omega arith)
    (holds_grow (suc a.1) A (min s a.0) (max e a.1) x (omega arith) (omega arith) h_a.2)

pub holds_cover_of : (lo : ℕ) (A : List Interval) (s e x : ℕ) → s < e → Apart lo A → holds (cover_of A s e) x ≡ inside s e x || holds A x
unfolding holds cover_of
holds_cover_of lo [] s e x h h_a = refl
holds_cover_of lo (a ∷ A) s e x h h_a = elim (dec_lt a.1 s) [
  | yes l ↦
      rw (cover_skip a A s e l, holds_cover_of (suc a.1) A s e x h h_a.2)
      (or_swap (inside a.0 a.1 x) (inside s e x) (holds A x))
  | no l ↦ rw (cover_here a A s e (omega arith))
      (holds_grow_first a A s e x h h_a.1 (omega arith)
      (holds_grow (suc a.1) A (min s a.0) (max e a.1) x (omega arith) (omega arith) h_a.2))
]

-- ---- canonical

grow_apart : (lo : ℕ) (A : List Interval) (s e : ℕ) → lo ≤ s → s < e → Apart lo A → Apart lo (grow_of A s e)
unfolding grow_of
grow_apart lo [] s e l h h_a = (l, h, tt)
grow_apart lo (a ∷ A) s e l h h_a = elim (dec_lt e a.0) [
  | yes k ↦ rw (grow_stop a A s e k) (l, h, (omega arith, h_a.1, h_a.2))
  | no k ↦
      rw (grow_more a A s e (omega arith))
      (grow_apart lo A (min s a.0) (max e a.1) (omega arith) (omega arith) (apart_weaken (suc a.1) lo A (omega arith) h_a.2))
]

pub cover_of_apart : (lo : ℕ) (A : List Interval) (s e : ℕ) → lo ≤ s → s < e → Apart lo A → Apart lo (cover_of A s e)
unfolding cover_of
cover_of_apart lo [] s e l h h_a = (l, h, tt)
cover_of_apart lo (a ∷ A) s e l h h_a = elim (dec_lt a.1 s) [
  | yes k ↦ rw (cover_skip a A s e k) (h_a.0, h_a.1, cover_of_apart (suc a.1) A s e (omega arith) h h_a.2)
  | no k ↦ rw (cover_here a A s e (omega arith)) (grow_apart lo (a ∷ A) s e l h h_a)
]

-- ---- no more than one more

length_grow : (A : List Interval) (s e : ℕ) → length (grow_of A s e) ≤ suc (length A)
unfolding grow_of
length_grow [] s e = omega arith
length_grow (a ∷ A) s e = elim (dec_lt e a.0) [
  | yes k ↦ rw (grow_stop a A s e k) (omega arith)
  | no k ↦ rw (grow_more a A s e (omega arith)) (omega (arith, length_grow A (min s a.0) (max e a.1)))
]

pub length_cover_of : (A : List Interval) (s e : ℕ) → length (cover_of A s e) ≤ suc (length A)
unfolding cover_of
length_cover_of [] s e = omega arith
length_cover_of (a ∷ A) s e = elim (dec_lt a.1 s) [
  | yes k ↦ rw (cover_skip a A s e k) (omega (arith, length_cover_of A s e))
  | no k ↦ rw (cover_here a A s e (omega arith)) (length_grow (a ∷ A) s e)
]
