-- Lists of ranges as lists of intervals of ranks: what two share and what one keeps are what `intervals` says of the two, and no key is made
-- that would be refused. Assumes nothing.
use Rattle.std.specs.Ordering.{is_lt}
use Prim.Native.Nat.{ℕ, ◌≤◌}
use mathlib.Core.Path.{◌≡◌, ◌∙◌}
use mathlib.Core.Bool.{Bool, true, false, cond}
use mathlib.Core.List.{List, [], ◌∷◌, map, map-append}
use Rattle.key_order.proofs.Line.{size}
use Rattle.query_item.specs.declared.RangeSetItem.{RangeSetItem}
use Rattle.query_item.specs.declared.RangeSetItem.TheVariants.{UnboundedStart, UnboundedEnd, Inclusive, ExclusiveStart, ExclusiveEnd}
use Rattle.query_item.specs.declared.RangeSet.{RangeSet}
use Rattle.query_item.specs.Boundaries.{compare_in, invert_of, from_to}
use Rattle.item_check.proofs.Laws.{KeyIn}
use Rattle.intervals.specs.Lists.{shared_of, without_of}
use Rattle.intervals.specs.Intervals.{cut, without}
use Rattle.intervals.proofs.Model.{meet, shared}
use Rattle.intervals.proofs.Laws.{All, all_append, all_shared, all_without, map_shared, map_without}
use Rattle.intersect.specs.Pair.{before, disjoint, overlap, meet_sets, left_over, right_over}
use Rattle.intersect.proofs.Ranked.{Good}
use Rattle.intersect.proofs.Intervals as pair
use Rattle.intersect.proofs.Intervals.{either}
use Rattle.intersect_many.specs.Lists.{cut_sets}
pub use Rattle.intersect.proofs.Intervals.{iv}

abbrev KeysIn : List ℕ → RangeSet → Type 0
KeysIn pool a = KeyIn pool a.start × KeyIn pool a.end

invert_in_lem : (pool : List ℕ) (x : RangeSetItem) (t : Bool) → KeyIn pool x → KeyIn pool (invert_of x t)
invert_in_lem pool UnboundedStart t h = h
invert_in_lem pool UnboundedEnd t h = h
invert_in_lem pool (Inclusive k) true h = h
invert_in_lem pool (Inclusive k) false h = h
invert_in_lem pool (ExclusiveStart k) t h = h
invert_in_lem pool (ExclusiveEnd k) t h = h

-- ---- the pair's keys are those of the two

module _ (pool : List ℕ) (a b : RangeSet) (A : KeysIn pool a) (B : KeysIn pool b) where
  meet_keys : All (KeysIn pool) (meet_sets pool a b)
  unfolding meet_sets
  meet_keys = go (disjoint pool a b)
    where
      go : (t : Bool) → All (KeysIn pool) (cond t [] (overlap pool a b ∷ []))
      go true = tt
      go false = (
        (
          either (KeyIn pool) (compare_in pool a.start b.start) b.start a.start B.0 A.0,
          either (KeyIn pool) (compare_in pool a.end b.end) a.end b.end A.1 B.1,
        ),
        tt,
      )

  left_keys : All (KeysIn pool) (left_over pool a b)
  unfolding left_over
  left_keys = go (before pool a b) (before pool b a) (is_lt (compare_in pool a.start b.start))
    where
      go : (t u v : Bool)
          → All (KeysIn pool) (cond t (a ∷ []) (cond u [] (cond v (from_to a.start (invert_of b.start false) ∷ []) [])))
      go true u v = (A, tt)
      go false true v = tt
      go false false true = ((A.0, invert_in_lem pool b.start false B.0), tt)
      go false false false = tt

  right_keys : All (KeysIn pool) (right_over pool a b)
  unfolding right_over
  right_keys = go (before pool a b) (before pool b a) (is_lt (compare_in pool b.end a.end))
    where
      go : (t u v : Bool)
          → All (KeysIn pool) (cond t [] (cond u (a ∷ []) (cond v (from_to (invert_of b.end true) a.end ∷ []) [])))
      go true u v = tt
      go false true v = (A, tt)
      go false false true = ((invert_in_lem pool b.end true B.1, A.1), tt)
      go false false false = tt

module _ (pool : List ℕ) (n : ℕ) (fits : size pool ≤ n) where
  -- a range that an item can have, upright, with keys that are not refused
  pub record Fine (a : RangeSet) : Type 0 where
    pub good : Good pool n fits a
    pub start_in : KeyIn pool a.start
    pub end_in : KeyIn pool a.end

  keys_in : (a : RangeSet) → Fine a → KeysIn pool a
  keys_in a f = (f.start_in, f.end_in)

  all_fine : (S : List RangeSet) → All (Good pool n fits) S → All (KeysIn pool) S → All Fine S
  all_fine [] g k = tt
  all_fine (a ∷ S) g k = (record { good = g.0; start_in = k.0.0; end_in = k.0.1 }, all_fine S g.1 k.1)

  -- ---- the pair

  module _ (a b : RangeSet) (A : Fine a) (B : Fine b) where
    pub meet_carried : All Fine (meet_sets pool a b) × (map (iv pool n fits) (meet_sets pool a b) ≡ meet (iv pool n fits a) (iv pool n fits b))
    meet_carried =
        let is = pair.meet_carried pool n fits a b A.good B.good in
        (all_fine (meet_sets pool a b) is.0 (meet_keys pool a b (keys_in a A) (keys_in b B)), is.1)

    pub cut_carried : All Fine (cut_sets pool a b) × (map (iv pool n fits) (cut_sets pool a b) ≡ cut (iv pool n fits a) (iv pool n fits b))
    unfolding cut
    cut_carried =
        let left = pair.left_carried pool n fits a b A.good B.good in
        let right = pair.right_carried pool n fits a b A.good B.good in
        let pieces : map (iv pool n fits) (cut_sets pool a b) ≡ cut (iv pool n fits a) (iv pool n fits b) =
        map-append (iv pool n fits) (left_over pool a b) (right_over pool a b) ∙ rw (left.1, right.1) in (
          all_append Fine (left_over pool a b) (right_over pool a b)
              (all_fine (left_over pool a b) left.0 (left_keys pool a b (keys_in a A) (keys_in b B)))
              (all_fine (right_over pool a b) right.0 (right_keys pool a b (keys_in a A) (keys_in b B))),
          pieces,
        )

  -- ---- the lists

  module _ (A B : List RangeSet) (h_a : All Fine A) (h_b : All Fine B) where
    pub shared_fine : All Fine (shared_of (meet_sets pool) A B)
    shared_fine = all_shared Fine Fine (meet_sets pool) (λ a b p q. (meet_carried a b p q).0) A B h_a h_b

    pub shared_carried : map (iv pool n fits) (shared_of (meet_sets pool) A B) ≡ shared (map (iv pool n fits) A) (map (iv pool n fits) B)
    shared_carried = map_shared (iv pool n fits) (iv pool n fits) Fine (meet_sets pool) meet (λ a b p q. (meet_carried a b p q).1) A B h_a h_b

    pub without_fine : All Fine (without_of (cut_sets pool) A B)
    without_fine = all_without Fine (cut_sets pool) (λ a b p q. (cut_carried a b p q).0) A B h_a h_b

    pub without_carried : map (iv pool n fits) (without_of (cut_sets pool) A B) ≡ without (map (iv pool n fits) A) (map (iv pool n fits) B)
    without_carried = map_without (iv pool n fits) Fine (cut_sets pool) cut (λ a b p q. (cut_carried a b p q).0) (λ a b p q. (cut_carried a b p q).1) A B h_a h_b
