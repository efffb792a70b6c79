-- The pair in ranks: what two ranges share and what is left over of each, case by case; and a left leftover with one comparison less.
-- Assumes nothing.
use Rattle.std.specs.Ordering.{is_lt}
use Prim.Native.Nat.{ℕ, ◌+◌, ◌≤◌, ◌<◌}
use mathlib.Core.Path.{◌≡◌, refl, sym, ap, ◌∙◌}
use mathlib.Core.Bool.{Bool, true, false, cond}
use mathlib.Core.List.{List, [], ◌∷◌}
use native.Mathlib.Omega.{arith}
use native.Mathlib.Nat.{le_refl}
use borrow.Author.Tests.{leb-true, ltb-true, lt-ltb, le-ltb}
use Rattle.key_order.proofs.Line.{size}
use Rattle.query_item.specs.declared.RangeSetItem.{RangeSetItem}
use Rattle.query_item.specs.declared.RangeSet.{RangeSet}
use Rattle.query_item.specs.Boundaries.{compare_in, invert_of, from_to, upright}
use Rattle.query_item.proofs.Laws.{Starts, Ends, rank_in, less_rank, at_most_rank, Whole}
use Rattle.intersect.specs.Pair.{before, overlap, meet_sets, left_part, left_over, right_over}

none_either : (t : Bool) → ◌≡◌ {A = List RangeSet} (cond t [] []) []
none_either true = refl
none_either false = refl

-- n is the pool's size, or more
module _ (pool : List ℕ) (n : ℕ) (fits : size pool ≤ n) where
  abbrev rk : RangeSetItem → ℕ
  rk x = rank_in pool n fits x

  abbrev pub Good : RangeSet → Type 0
  Good a = Whole pool n fits a

  abbrev pub low : RangeSet → ℕ
  low a = rk a.start

  abbrev pub high : RangeSet → ℕ
  high a = rk a.end + 1

  -- ---- tests by rank

  pub less_yes : (x y : RangeSetItem) → rk x < rk y → is_lt (compare_in pool x y) ≡ true
  less_yes x y l = less_rank pool n fits x y ∙ lt-ltb (rk x) (rk y) l

  pub less_no : (x y : RangeSetItem) → rk y ≤ rk x → is_lt (compare_in pool x y) ≡ false
  less_no x y l = less_rank pool n fits x y ∙ le-ltb (rk x) (rk y) l

  pub whole_of : (s e : RangeSetItem) → Starts s → Ends e → rk s ≤ rk e → Good (from_to s e)
  whole_of s e h k l = record { starts = h; ends = k; straight = l }

  module _ (a b : RangeSet) (A : Good a) (B : Good b) where
    abbrev u : rk a.start ≤ rk a.end
    u = A.straight

    abbrev v : rk b.start ≤ rk b.end
    v = B.straight

    pub meet_none_below : high a ≤ low b → meet_sets pool a b ≡ []
    unfolding meet_sets
    meet_none_below l = rw (less_yes a.end b.start (omega arith))

    pub meet_none_past : high b ≤ low a → meet_sets pool a b ≡ []
    unfolding meet_sets
    meet_none_past l = rw (less_no a.end b.start (omega (arith, u, v)), less_yes b.end a.start (omega arith))

    -- what the two share where they overlap
    pub meet_some : low b < high a → low a < high b → meet_sets pool a b ≡ overlap pool a b ∷ []
    unfolding meet_sets
    meet_some l m = rw (less_no a.end b.start (omega arith), less_no b.end a.start (omega arith))

    -- the leftovers, case by case

    pub left_whole : high a ≤ low b → left_over pool a b ≡ a ∷ []
    unfolding left_over
    left_whole l = rw (less_yes a.end b.start (omega arith))

    pub left_some : low a < low b → low b < high a → left_over pool a b ≡ from_to a.start (invert_of b.start false) ∷ []
    unfolding left_over
    left_some l m = rw (less_no a.end b.start (omega arith), less_no b.end a.start (omega (arith, v)), less_yes a.start b.start l)

    pub left_none : low b ≤ low a → left_over pool a b ≡ []
    unfolding left_over
    left_none l = rw (less_no a.end b.start (omega (arith, u)), less_no a.start b.start l) (none_either (before pool b a))

    pub right_whole : high b ≤ low a → right_over pool a b ≡ a ∷ []
    unfolding right_over
    right_whole l = rw (less_no a.end b.start (omega (arith, u, v)), less_yes b.end a.start (omega arith))

    pub right_some : low a < high b → high b < high a → right_over pool a b ≡ from_to (invert_of b.end true) a.end ∷ []
    unfolding right_over
    right_some l m = rw (less_no a.end b.start (omega (arith, v)), less_no b.end a.start (omega arith), less_yes b.end a.end (omega arith))

    pub right_none : high a ≤ high b → right_over pool a b ≡ []
    unfolding right_over
    right_none l = rw (less_no b.end a.start (omega (arith, u)), less_no b.end a.end (omega arith)) (none_either (before pool a b))

-- ---- where b is upright, what starts below b does not stand past it

module _ (pool : List ℕ) (a b : RangeSet) (u : upright pool b ≡ true) where
  abbrev rank : RangeSetItem → ℕ
  rank x = rank_in pool (size pool) (le_refl (size pool)) x

  straight : rank b.start ≤ rank b.end
  straight = leb-true _ _ (sym (at_most_rank pool (size pool) (le_refl (size pool)) b.start b.end) ∙ u)

  none_past : (t : Bool) → before pool b a ≡ t → left_part pool a b ≡ cond t [] (left_part pool a b)
  none_past false e = refl
  none_past true e =
      let past : rank b.end < rank a.start = ltb-true _ _ (sym (less_rank pool (size pool) (le_refl (size pool)) b.end a.start) ∙ e) in
      rw (less_rank pool (size pool) (le_refl (size pool)) a.start b.start, le-ltb (rank a.start) (rank b.start) (omega (arith, straight)))

  pub left_quick : cond (before pool a b) (a ∷ []) (left_part pool a b) ≡ left_over pool a b
  unfolding left_over
  left_quick = ap (cond (before pool a b) (a ∷ [])) (none_past (before pool b a) refl)
