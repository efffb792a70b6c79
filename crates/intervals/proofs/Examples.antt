-- Worked lists, by computation. Assumes nothing.
use Prim.Native.Nat.{ℕ, zero, suc, ◌<◌}
use mathlib.Core.Path.{◌≡◌, refl, ap}
use mathlib.Core.Bool.{true, false, true≢false}
use mathlib.Core.List.{List, [], ◌∷◌}
use native.Mathlib.Omega.{arith}
use lib.ListN.{length}
use Rattle.intervals.specs.Lists.{meets_of, shared_of, cuts_of, without_of}
use Rattle.intervals.specs.Intervals.{Interval, Canonical, inside, holds, piece, cut, without}
use Rattle.intervals.proofs.Model.{Strict, meet, shared}
use Rattle.intervals.specs.Cover.{grow_of, cover_of, cover, cover_all}
use Rattle.intervals.proofs.Laws.{holds_cover_all}

abbrev left : List Interval
left = (0, 10) ∷ (10, 20) ∷ (30, 40) ∷ []

abbrev right : List Interval
right = (5, 10) ∷ (12, 14) ∷ (18, 33) ∷ []

-- a strict list may touch, as at 10, and a canonical one may not
left_strict : Strict left
left_strict = (omega arith, omega arith, (omega arith, omega arith, (omega arith, omega arith, tt)))

left_not_canonical : Canonical left → ⊥
left_not_canonical h = omega arith

right_canonical : Canonical right
right_canonical = (omega arith, omega arith, (omega arith, omega arith, (omega arith, omega arith, tt)))

-- an interval holds its start and not its end
holds_start : holds right 5 ≡ true
unfolding holds inside
holds_start = refl

holds_end : holds right 10 ≡ false
unfolding holds inside
holds_end = refl

shared_left_right : shared left right ≡ (5, 10) ∷ (12, 14) ∷ (18, 20) ∷ (30, 33) ∷ []
unfolding shared_of meets_of meet piece
shared_left_right = refl

without_left_right : without left right ≡ (0, 5) ∷ (10, 12) ∷ (14, 18) ∷ (33, 40) ∷ []
unfolding without_of cuts_of cut piece
without_left_right = refl

-- a range takes in those that it touches, as at 12, and a range that is none changes nothing
cover_right : cover right 10 12 ≡ (5, 14) ∷ (18, 33) ∷ []
unfolding cover cover_of grow_of
cover_right = refl

cover_nothing : cover right 11 11 ≡ right
unfolding cover cover_of grow_of
cover_nothing = refl

-- in any order
cover_all_left : cover_all ((30, 40) ∷ (10, 20) ∷ (7, 3) ∷ (0, 10) ∷ []) ≡ (0, 20) ∷ (30, 40) ∷ []
unfolding cover_all cover cover_of grow_of
cover_all_left = refl

-- ---- the fewest intervals

-- 02 §14.1: a strict list that touches, as at 10, is longer than need be
strict_longer : ((x : ℕ) → holds (cover_all left) x ≡ holds left x) × (length (cover_all left) < length left)
unfolding cover_all cover cover_of grow_of
strict_longer = (holds_cover_all left, omega arith)

-- 02 §14.2: the canonical list is one alone by every number that it holds: these two differ, and of the numbers below 1 they hold the same
abbrev one : List Interval
one = (0, 1) ∷ []

abbrev two : List Interval
two = (0, 2) ∷ []

both_canonical : Canonical one × Canonical two
both_canonical = ((omega arith, omega arith, tt), (omega arith, omega arith, tt))

alike_below : (x : ℕ) → x < 1 → holds two x ≡ holds one x
unfolding holds inside
alike_below zero h = refl
alike_below (suc x) h = absurd (omega arith)

not_the_same : two ≡ one → ⊥
unfolding holds inside
not_the_same e = true≢false (ap (λ (L : List Interval). holds L 1) e)
