-- What the ways in which two ranges stand say of them. Assumes nothing.
use Rattle.std.specs.declared.cmp.Ordering.{Ordering}
use Rattle.std.specs.Ordering.{is_lt, is_le}
use Prim.Native.Nat.{ℕ}
use mathlib.Core.Path.{◌≡◌, refl, sym, ◌∙◌}
use mathlib.Core.Bool.{Bool, true, false, cond, not}
use mathlib.Core.List.{List}
use native.Mathlib.Nat.{le_refl}
use borrow.Author.Tests.{lt-ltb, leb-false, not-true}
use Rattle.key_order.proofs.Line.{size}
use Rattle.query_item.specs.declared.RangeSetItem.{RangeSetItem}
use Rattle.query_item.specs.declared.RangeSet.{RangeSet}
use Rattle.query_item.specs.Boundaries.{compare_in}
use Rattle.query_item.proofs.Laws.{rank_in, less_rank, at_most_rank}
use Rattle.intersect.specs.Pair.{before}
use Rattle.intersect_many.specs.declared.Stand.{Stand}
use Rattle.intersect_many.specs.declared.Stand.TheVariants.{Before, After, Meets}
use Rattle.intersect_many.specs.Sweep.{stand_of}

abbrev by : Bool → Bool → Ordering → Stand
by s t o = cond s Before (cond t After (Meets o))

module _ (pool : List ℕ) (a b : RangeSet) where
  pub stands_before : stand_of pool a b ≡ Before → before pool a b ≡ true
  stands_before e = go (before pool a b) (before pool b a) (compare_in pool a.end b.end) e
    where
      go : (s t : Bool) (o : Ordering) → by s t o ≡ Before → s ≡ true
      go true t o e = refl
      go false true o e = cc
      go false false o e = cc

  pub stands_after : stand_of pool a b ≡ After → before pool b a ≡ true
  stands_after e = go (before pool a b) (before pool b a) (compare_in pool a.end b.end) e
    where
      go : (s t : Bool) (o : Ordering) → by s t o ≡ After → t ≡ true
      go true t o e = cc
      go false true o e = refl
      go false false o e = cc

  pub stands_meets : (ends : Ordering) → stand_of pool a b ≡ Meets ends
      → (ends ≡ compare_in pool a.end b.end) × (before pool a b ≡ false) × (before pool b a ≡ false)
  stands_meets ends e = go (before pool a b) (before pool b a) (compare_in pool a.end b.end) e
    where
      go : (s t : Bool) (o : Ordering) → by s t o ≡ Meets ends → (ends ≡ o) × (s ≡ false) × (t ≡ false)
      go true t o e = let z : Before ≡ Meets ends = e in (cc, cc, cc)
      go false true o e = (cc, cc, cc)
      go false false o e = (cc, refl, refl)

-- what is not at most another is above it
pub above_below : (pool : List ℕ) (x y : RangeSetItem) → not (is_le (compare_in pool x y)) ≡ true → is_lt (compare_in pool y x) ≡ true
above_below pool x y e =
    let n = size pool in
    let k = le_refl n in
    less_rank pool n k y x
    ∙ lt-ltb _ _ (leb-false (rank_in pool n k x) (rank_in pool n k y) (sym (at_most_rank pool n k x y) ∙ not-true _ e))
