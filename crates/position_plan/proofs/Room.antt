-- How much room is always enough: windows open at least W rows apart, so that an interval has one for each W rows of it, and one more, at the
-- most. Assumes nothing.
use Prim.Native.Nat.{ℕ, zero, suc, ◌+◌, ◌-◌, ◌*◌, ◌/◌, ◌≤◌, ◌<◌}
use mathlib.Core.Path.{◌≡◌, refl, ap, ◌∙◌}
use mathlib.Core.Bool.{true, or-true}
use mathlib.Core.List.{List, [], ◌∷◌, ◌++◌}
use native.Mathlib.Decide.{dec_lt}
use native.Mathlib.Nat.{lt-mul-div-succ, le-div_iff_mul-le, div-mul-le_self, add-mul, mul_comm}
use native.Mathlib.Omega.{arith}
use lib.ListN.{length, length-append}
use Rattle.intervals.specs.Intervals.{Interval, holds}
use Rattle.intervals.proofs.Unique.{holds_head}
use Rattle.intervals.proofs.Members.{where_is, below, in_it, past, inside_below, inside_past}
use Rattle.intervals.proofs.Laws.{All, all_append, holds_append}
use Rattle.pairs_sort.proofs.Laws.{pairs_length}
use Rattle.position_given.specs.Given.{intervals_of}
use Rattle.position_given.specs.Positions.{positions_of}
use Rattle.position_given.proofs.Widths.{length_positions}
use Rattle.position_mismatch.specs.Reports.{missing}
use Rattle.position_plan.specs.Plans.{plan_of}
use Rattle.position_plan.specs.Inner.{Plannable}
use Rattle.position_plan.proofs.Search.{missing_held}
use Rattle.position_plan.proofs.Greedy.{holds_later, plan_fewest}
use Rattle.position_plan.proofs.Opening.{rows_ascend}

-- k windows of W rows, one after another, from s on
abbrev tiles : ℕ → ℕ → ℕ → List Interval
tiles W s zero = []
tiles W s (suc k) = (s, s + W) ∷ tiles W (s + W) k

-- as many as an interval of so many rows needs at the most
abbrev needed : ℕ → ℕ → ℕ
needed W rows = suc (rows / W)

-- windows that contain whatever intervals hold
abbrev cover : ℕ → List Interval → List Interval
cover W [] = []
cover W (a ∷ A) = tiles W a.0 (needed W (a.1 - a.0)) ++ cover W A

tiles_narrow : (W s k : ℕ) → All (λ w. w.1 - w.0 ≤ W) (tiles W s k)
tiles_narrow W s zero = tt
tiles_narrow W s (suc k) = (omega arith, tiles_narrow W (s + W) k)

tiles_length : (W s k : ℕ) → length (tiles W s k) ≡ k
tiles_length W s zero = refl
tiles_length W s (suc k) = ap suc (tiles_length W (s + W) k)

tiles_hold : (W s k p : ℕ) → s ≤ p → p < s + k * W → holds (tiles W s k) p ≡ true
tiles_hold W s zero p a b = absurd (omega arith)
tiles_hold W s (suc k) p a b = elim (dec_lt p (s + W)) [
  | yes h ↦ holds_head (s, s + W) (tiles W (s + W) k) p a h
  | no h ↦ holds_later (s, s + W) (tiles W (s + W) k) p (tiles_hold W (s + W) k p (omega arith) (omega (arith, more)))
]
  where
    more : suc k * W ≡ W + k * W
    more = omega arith

cover_narrow : (W : ℕ) (A : List Interval) → All (λ w. w.1 - w.0 ≤ W) (cover W A)
cover_narrow W [] = tt
cover_narrow W (a ∷ A) =
    let n = needed W (a.1 - a.0) in
    all_append (λ w. w.1 - w.0 ≤ W) (tiles W a.0 n) (cover W A) (tiles_narrow W a.0 n) (cover_narrow W A)

div_sum : (W a b : ℕ) → 0 < W → a / W + b / W ≤ (a + b) / W
div_sum W a b w = (le-div_iff_mul-le w).1 (omega (arith, add-mul (a / W) (b / W) W, div-mul-le_self a W, div-mul-le_self b W))

cover_length : (W : ℕ) (A : List Interval) → 0 < W → length (cover W A) ≤ length (positions_of A) / W + length A
cover_length W [] w = omega arith
cover_length W (a ∷ A) w =
    let rows : ℕ = a.1 - a.0 in
    rw (length-append (tiles W a.0 (needed W rows)) (cover W A), tiles_length W a.0 (needed W rows), length_positions a A)
    (omega (arith, cover_length W A w, div_sum W rows (length (positions_of A)) w))

cover_hold : (W : ℕ) (A : List Interval) (p : ℕ) → 0 < W → holds A p ≡ true → holds (cover W A) p ≡ true
unfolding holds
cover_hold W [] p w h = h
cover_hold W (a ∷ A) p w h =
    let T = tiles W a.0 (needed W (a.1 - a.0)) in
    holds_append T (cover W A) p ∙ elim (where_is a.0 a.1 p) [
      | below k ↦ rw (cover_hold W A p w (rw (inside_below a.0 a.1 p k) at h), or-true)
      | in_it j k ↦ rw (tiles_hold W a.0 (needed W (a.1 - a.0)) p j (omega (arith, lt-mul-div-succ (a.1 - a.0) w, mul_comm W ((a.1 - a.0) / W + 1))))
      | past k ↦ rw (cover_hold W A p w (rw (inside_past a.0 a.1 p k) at h), or-true)
    ]

-- the rows that are covered by W, and the pairs, are together no fewer than our windows
pub planned_room : (ws P : List ℕ) (W : ℕ) → Plannable ws P W
    → length (plan_of W ws P) ≤ length (positions_of (intervals_of ws)) / W + length ws / 2
planned_room ws P W K =
    let A = intervals_of ws in
    let few = plan_fewest W (missing A P) (cover W A) K.wide (rows_ascend K) (cover_narrow W A) (λ p h. cover_hold W A p K.wide (missing_held ws P p h)) in
    omega (arith, few, cover_length W A K.wide, pairs_length ws (length ws / 2) 0)
