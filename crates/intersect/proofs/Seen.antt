-- What two ranges share and what is left over of each, seen as boundaries: told by the boundaries of the two, whatever pool their keys stand in.
-- Assumes nothing.
use Rattle.std.specs.Ordering.{is_lt}
use Prim.Native.Nat.{ℕ}
use mathlib.Core.Path.{◌≡◌, refl}
use mathlib.Core.Bool.{Bool, true, false, cond, ◌||◌}
use mathlib.Core.List.{List, [], ◌∷◌, map}
use Rattle.key_order.specs.Order.{smaller}
use Rattle.key_order.specs.Boundary.{compare_boundaries}
use Rattle.query_item.specs.declared.RangeSet.{RangeSet}
use Rattle.query_item.specs.Boundaries.{compare_in, invert_of, from_to}
use Rattle.query_item.proofs.Laws.{Sides, seen, inverted, smaller_seen, invert_seen}
use Rattle.intersect.specs.Pair.{before, disjoint, overlap, meet_sets, left_over, right_over}

-- ---- the pair of specs/Pair.antt, by boundaries

-- a's end is below b's start
abbrev ahead : Sides → Sides → Bool
ahead a b = is_lt (compare_boundaries a.1 b.0)

unfoldable pub meet_sides : Sides → Sides → List Sides
meet_sides a b =
    cond (ahead a b || ahead b a) []
    ((smaller (compare_boundaries a.0 b.0) b.0 a.0, smaller (compare_boundaries a.1 b.1) a.1 b.1) ∷ [])

unfoldable pub left_sides : Sides → Sides → List Sides
left_sides a b =
    cond (ahead a b) (a ∷ []) (cond (ahead b a) [] (cond (is_lt (compare_boundaries a.0 b.0)) ((a.0, inverted b.0 false) ∷ []) []))

unfoldable pub right_sides : Sides → Sides → List Sides
right_sides a b =
    cond (ahead a b) [] (cond (ahead b a) (a ∷ []) (cond (is_lt (compare_boundaries b.1 a.1)) ((inverted b.1 true, a.1) ∷ []) []))

-- ---- what is seen of the pair is the pair of what is seen

through : (f : RangeSet → Sides) (t u v : Bool) (S T U : List RangeSet)
    → map f (cond t S (cond u T (cond v U []))) ≡ cond t (map f S) (cond u (map f T) (cond v (map f U) []))
through f true u v S T U = refl
through f false true v S T U = refl
through f false false true S T U = refl
through f false false false S T U = refl

module _ (pool : List ℕ) (a b : RangeSet) where
  pub meet_seen : map (seen pool) (meet_sets pool a b) ≡ meet_sides (seen pool a) (seen pool b)
  unfolding meet_sets meet_sides
  meet_seen =
      let from = smaller_seen pool (compare_in pool a.start b.start) b.start a.start in
      let to = smaller_seen pool (compare_in pool a.end b.end) a.end b.end in
      rw (← from, ← to)
      (through (seen pool) (disjoint pool a b) true true [] (overlap pool a b ∷ []) [])

  pub left_seen : map (seen pool) (left_over pool a b) ≡ left_sides (seen pool a) (seen pool b)
  unfolding left_over left_sides
  left_seen = rw (← invert_seen pool b.start false)
      (through (seen pool) (before pool a b) (before pool b a) (is_lt (compare_in pool a.start b.start)) (a ∷ []) []
      (from_to a.start (invert_of b.start false) ∷ []))

  pub right_seen : map (seen pool) (right_over pool a b) ≡ right_sides (seen pool a) (seen pool b)
  unfolding right_over right_sides
  right_seen = rw (← invert_seen pool b.end true)
      (through (seen pool) (before pool a b) (before pool b a) (is_lt (compare_in pool b.end a.end)) [] (a ∷ [])
      (from_to (invert_of b.end true) a.end ∷ []))
