-- A range of a pool as an interval of ranks, at a size n that fits: the order of boundaries, upright and strict as numbers, what a range
-- holds, and what `invert` does. Assumes nothing.
use Rattle.std.specs.Prelude.{Option, None, Some}
use Rattle.std.specs.Ordering.{is_lt, is_le}
use Prim.Native.Nat.{ℕ, ◌+◌, ◌*◌, ◌≤◌, ◌<◌}
use mathlib.Core.Path.{◌≡◌, refl, sym, ap, ap₂, ◌∙◌}
use mathlib.Core.Bool.{Bool, true, false, ◌&&◌}
use mathlib.Core.List.{List, [], ◌∷◌, map}
use native.Mathlib.Decide.{dec_le}
use native.Mathlib.Omega.{arith}
use lib.ListN.{length}
use lib.Dec.{leb, ltb}
use borrow.Author.Tests.{leb-true, lt-ltb, le-ltb, le-leb, lt-leb}
use Rattle.key_order.specs.Boundary.{Boundary, between}
use Rattle.key_order.proofs.Line.{size, past}
use Rattle.key_order.proofs.Numbers.{Says}
use Rattle.key_order.proofs.Ranks.{extent, rank, key_rank, rank_bound, rank_says, rank_same, boundary_less, boundary_at_most, between_rank}
use Rattle.intervals.specs.Intervals.{Interval, inside}
use Rattle.intervals.specs.Intervals as intervals
use Rattle.query_item.specs.declared.ItemWords.{ItemWords}
use Rattle.query_item.specs.declared.QueryItem.{QueryItem}
use Rattle.query_item.specs.declared.RangeSetItem.{RangeSetItem}
use Rattle.query_item.specs.declared.RangeSetItem.TheVariants.{UnboundedStart, UnboundedEnd, Inclusive, ExclusiveStart, ExclusiveEnd}
use Rattle.query_item.specs.declared.RangeSet.{RangeSet}
use Rattle.query_item.specs.Items.{query_item, holds, holds_maybe, holds_any}
use Rattle.query_item.specs.Boundaries.{boundary_of, compare_in, invert_of, to_range_set, range_of, to_query_item, upright}
use Rattle.query_item.proofs.Fits.{boundary_fits}
use Rattle.query_item.proofs.Between.{Starts, Ends, item_sides}
use Rattle.query_item.proofs.Held.{holds_between, holds_converted}
use Rattle.query_item.proofs.Told.{told, Tells, item_told}
use Rattle.query_item.proofs.Seen.{seen}

-- n is the pool's size, or more where an asked key is larger
module _ (pool : List ℕ) (n : ℕ) (fits : size pool ≤ n) where
  abbrev pub rank_in : RangeSetItem → ℕ
  rank_in x = rank n (boundary_of pool x)

  fit : (x : RangeSetItem) → extent (boundary_of pool x) ≤ n
  fit x = omega (arith, boundary_fits pool x)

  -- the tests of boundaries are those of their ranks

  pub less_rank : (x y : RangeSetItem) → is_lt (compare_in pool x y) ≡ ltb (rank_in x) (rank_in y)
  less_rank x y = boundary_less n (boundary_of pool x) (boundary_of pool y) (fit x) (fit y)

  pub at_most_rank : (x y : RangeSetItem) → is_le (compare_in pool x y) ≡ leb (rank_in x) (rank_in y)
  at_most_rank x y = boundary_at_most n (boundary_of pool x) (boundary_of pool y) (fit x) (fit y)

  pub rank_says_in : (x y : RangeSetItem) → Says (compare_in pool x y) (rank_in x) (rank_in y)
  rank_says_in x y = rank_says n (boundary_of pool x) (boundary_of pool y) (fit x) (fit y)

  -- boundaries of one rank are the same by bytes
  pub rank_same_in : (x y : RangeSetItem) → rank_in x ≡ rank_in y → boundary_of pool x ≡ boundary_of pool y
  rank_same_in x y e = rank_same n (boundary_of pool x) (boundary_of pool y) (fit x) (fit y) e

  -- and tell the same
  pub told_same : (s t e f : RangeSetItem) → rank_in s ≡ rank_in t → rank_in e ≡ rank_in f
      → told (boundary_of pool s) (boundary_of pool e) ≡ told (boundary_of pool t) (boundary_of pool f)
  told_same s t e f p q = ap₂ told (rank_same_in s t p) (rank_same_in e f q)

  -- ---- ranges

  -- from the rank of the start up to and with that of the end
  abbrev pub interval : RangeSet → Interval
  interval a = (rank_in a.start, rank_in a.end + 1)

  -- ranges that are the same as intervals are seen the same
  pub same_seen : (S T : List RangeSet) → map interval S ≡ map interval T → map (seen pool) S ≡ map (seen pool) T
  same_seen [] [] e = refl
  same_seen [] (t ∷ T) e = absurd (omega (arith, ap length e))
  same_seen (s ∷ S) [] e = absurd (omega (arith, ap length e))
  same_seen (s ∷ S) (t ∷ T) e =
      let head : interval s ≡ interval t = cc in
      let tail : map interval S ≡ map interval T = cc in
      let ends = ap (λ (p : Interval). p.1) head in
      ap₂ ◌∷◌ (ap₂ (λ (s e : Boundary). (s, e)) (rank_same_in s.start t.start (ap (λ (p : Interval). p.0) head)) (rank_same_in s.end t.end (omega arith)))
      (same_seen S T tail)

  -- a range that an item can have, upright
  pub record Whole (a : RangeSet) : Type 0 where
    pub starts : Starts a.start
    pub ends : Ends a.end
    pub straight : rank_in a.start ≤ rank_in a.end

  pub upright_whole : (q : QueryItem) → upright pool (to_range_set q) ≡ true → Whole (to_range_set q)
  upright_whole q u =
      let s = item_sides q in
      record {
        starts = s.0;
        ends = s.1;
        straight = leb-true _ _ (sym (at_most_rank (to_range_set q).start (to_range_set q).end) ∙ u);
      }

  pub whole_upright : (a : RangeSet) → Whole a → upright pool a ≡ true
  whole_upright a w = at_most_rank a.start a.end ∙ le-leb _ _ w.straight

  -- a key lies between two boundaries exactly where its rank lies in their interval
  between_interval : (a : RangeSet) (k : List ℕ) → size k ≤ n
      → between (boundary_of pool a.start) (boundary_of pool a.end) k ≡ inside (interval a).0 (interval a).1 (key_rank n k)
  unfolding inside
  between_interval a k h =
      between_rank n _ _ k (fit a.start) (fit a.end) h
      ∙ ap (λ (t : Bool). leb (rank_in a.start) (key_rank n k) && t) (leb_ltb (key_rank n k) (rank_in a.end))
    where
      leb_ltb : (x y : ℕ) → leb x y ≡ ltb x (y + 1)
      leb_ltb x y = elim (dec_le x y) [
        | yes l ↦ le-leb x y l ∙ sym (lt-ltb x (y + 1) (omega arith))
        | no l ↦ lt-leb x y (omega arith) ∙ sym (le-ltb x (y + 1) (omega arith))
      ]

  -- a key is held exactly where its rank lies in the item's interval
  pub holds_interval : (q : QueryItem) (k : List ℕ) → size k ≤ n
      → holds pool q k ≡ inside (interval (to_range_set q)).0 (interval (to_range_set q)).1 (key_rank n k)
  holds_interval q k h = holds_between pool q k ∙ between_interval (to_range_set q) k h

  -- of a list, where one of its items' intervals has the rank
  pub holds_any_interval : (its : List ItemWords) (k : List ℕ) → size k ≤ n
      → holds_any pool its k ≡ intervals.holds (map interval (map range_of its)) (key_rank n k)
  unfolding intervals.holds holds_any
  holds_any_interval [] k l = refl
  holds_any_interval (it ∷ its) k l = rw (holds_interval (query_item it) k l, holds_any_interval its k l)

  -- and so by the item that two boundaries make, which a start and an end do
  pub holds_made : (a : RangeSet) → Starts a.start → Ends a.end → (k : List ℕ) → size k ≤ n
      → holds_maybe pool (to_query_item pool a) k ≡ inside (interval a).0 (interval a).1 (key_rank n k)
  holds_made a s e k h = go (to_query_item pool a) refl (item_told pool a.start a.end s e) ∙ between_interval a k h
    where
      go : (m : Option QueryItem) → to_query_item pool a ≡ m → Tells pool a.start a.end m
          → holds_maybe pool m k ≡ between (boundary_of pool a.start) (boundary_of pool a.end) k
      go None i t = absurd t
      go (Some q) i t = holds_converted pool a.start a.end q k i

  -- ---- a start that is not the first, inverted, ends just before it; an end that is not the last, inverted, starts just past it

  pub invert_start : (t : RangeSetItem) → Starts t → 0 < rank_in t → Ends (invert_of t false) × (rank_in (invert_of t false) + 1 ≡ rank_in t)
  invert_start UnboundedStart h l = absurd (omega arith)
  invert_start UnboundedEnd h l = absurd h
  invert_start (Inclusive k) h l = (tt, omega arith)
  invert_start (ExclusiveStart k) h l = (tt, omega arith)
  invert_start (ExclusiveEnd k) h l = absurd h

  pub invert_end : (e : RangeSetItem) → Ends e → rank_in e < 3 * past n + 1 → Starts (invert_of e true) × (rank_in (invert_of e true) ≡ rank_in e + 1)
  invert_end UnboundedStart h l = absurd h
  invert_end UnboundedEnd h l = absurd (omega arith)
  invert_end (Inclusive k) h l = (tt, omega arith)
  invert_end (ExclusiveStart k) h l = absurd h
  invert_end (ExclusiveEnd k) h l = (tt, omega arith)

  pub rank_top : (x : RangeSetItem) → rank_in x ≤ 3 * past n + 1
  rank_top x = rank_bound n (boundary_of pool x) (fit x)
