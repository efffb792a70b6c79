-- Each law that a caller cites: an upright range is of the two kinds exactly where it holds no key, of any length, and a part of a range
-- that holds no key holds none; which ranges are left out is told by their boundaries. Assumes nothing.
use Rattle.std.specs.Ordering.{is_le}
use Prim.Native.Nat.{ℕ, ◌+◌, ◌≤◌, ◌<◌}
use mathlib.Core.Path.{◌≡◌, refl, sym, ap, ◌∙◌}
use mathlib.Core.Bool.{Bool, true, false, not, ◌&&◌, and-false, not-not}
use mathlib.Core.List.{List, map}
use mathlib.Core.Logic.{◌↔◌}
use native.Mathlib.Decide.{dec_le}
use native.Mathlib.Nat.{le_refl}
use native.Mathlib.Omega.{arith}
use lib.Dec.{leb, ltb}
use borrow.Author.Tests.{leb-true, leb-false, le-leb, lt-leb, lt-ltb, le-ltb}
use Rattle.key_order.specs.Boundary.{Boundary, at_key, inclusive, compare_boundaries, between}
use Rattle.key_order.proofs.Line.{size}
use Rattle.key_order.proofs.Laws.{compare_refl}
use Rattle.key_order.proofs.Ranks.{extent, rank, key_rank, boundary_at_most, between_rank}
use Rattle.intervals.specs.Lists.{keep}
use Rattle.intervals.specs.Intervals.{inside}
use Rattle.intervals.proofs.Laws.{map_keep}
use Rattle.query_item.specs.declared.RangeSetItem.{RangeSetItem}
use Rattle.query_item.specs.declared.RangeSetItem.TheVariants.{UnboundedStart, UnboundedEnd, Inclusive, ExclusiveStart, ExclusiveEnd}
use Rattle.query_item.specs.declared.RangeSet.{RangeSet}
use Rattle.query_item.specs.declared.QueryItem.{QueryItem}
use Rattle.query_item.specs.Items.{holds}
use Rattle.query_item.specs.Boundaries.{boundary_of, to_range_set, upright}
use Rattle.query_item.proofs.Laws.{holds_between, boundary_fits, Starts, Ends, Sides, seen, rank_in, at_most_rank, interval, Whole, upright_whole, whole_upright}
use Rattle.keyless.specs.Keyless.{keyless_between, keyless, keyed, first_key, first_of}
use Rattle.keyless.proofs.Firsts.{StartsAt, EndsAt, from_first, keyless_first}
pub use Rattle.keyless.proofs.Firsts.{StartsAt, EndsAt}

-- ---- by boundaries

module _ (s e : Boundary) (h : StartsAt s) (k : EndsAt e) (u : is_le (compare_boundaries s e) ≡ true) where
  -- a range that is not of the two kinds holds its first key
  pub some_key : keyless_between s e ≡ false → between s e (first_key s) ≡ true
  some_key f = rw (from_first s h (first_key s), compare_refl (first_key s)) (sym (not-not _) ∙ ap not (sym (keyless_first s e h k u) ∙ f))

  -- one of the two kinds holds none
  pub no_key : keyless_between s e ≡ true → (x : List ℕ) → between s e x ≡ false
  no_key t x =
      let n = size x + extent e + size (first_key s) + extent s in
      let past : leb (key_rank n (first_key s)) (rank n e) ≡ false =
      sym (boundary_at_most n (at_key (first_key s) inclusive) e (omega arith) (omega arith)) ∙ sym (not-not _) ∙ ap not (sym (keyless_first s e h k u) ∙ t) in
      rw (
        from_first s h x,
        ← from_first (at_key (first_key s) inclusive) tt x,
        boundary_at_most n (at_key (first_key s) inclusive) (at_key x inclusive) (omega arith) (omega arith),
        boundary_at_most n (at_key x inclusive) e (omega arith) (omega arith),
      )
      (go (key_rank n (first_key s)) (key_rank n x) (rank n e) (leb-false _ _ past))
    where
      go : (f x e : ℕ) → e < f → leb f x && leb x e ≡ false
      go f x e l = elim (dec_le f x) [
        | yes m ↦ rw (le-leb f x m, lt-leb x e (omega arith))
        | no m ↦ rw (lt-leb f x (omega arith))
      ]

  -- 02 §2.2: there are just two kinds
  pub keyless_exact : keyless_between s e ≡ true ↔ ((x : List ℕ) → between s e x ≡ false)
  keyless_exact = (no_key, λ none. go (keyless_between s e) refl none)
    where
      go : (t : Bool) → keyless_between s e ≡ t → ((x : List ℕ) → between s e x ≡ false) → keyless_between s e ≡ true
      go true p none = p
      go false p none = p ∙ sym (none (first_key s)) ∙ some_key p

-- a part of a range that holds no key holds none
pub part_keyless : (s e s' e' : Boundary) → StartsAt s → EndsAt e → is_le (compare_boundaries s e) ≡ true
    → StartsAt s' → EndsAt e' → is_le (compare_boundaries s' e') ≡ true
    → is_le (compare_boundaries s s') ≡ true → is_le (compare_boundaries e' e) ≡ true → keyless_between s e ≡ true → keyless_between s' e' ≡ true
part_keyless s e s' e' h k u h' k' u' l m t = (keyless_exact s' e' h' k' u').1 none
  where
    within : (a b c d x : ℕ) → a ≤ b → c ≤ d → leb a x && leb x d ≡ false → leb b x && leb x c ≡ false
    within a b c d x l m f = elim (dec_le b x) [
      | no p ↦ rw (lt-leb b x (omega arith))
      | yes p ↦
          let q : leb x d ≡ false = rw (le-leb a x (omega arith)) at f in
          rw (le-leb b x p) (lt-leb x c (omega (arith, leb-false x d q)))
    ]

    none : (x : List ℕ) → between s' e' x ≡ false
    none x =
        let n = extent s + extent e + extent s' + extent e' + size x in
        let starts = leb-true (rank n s) (rank n s') (sym (boundary_at_most n s s' (omega arith) (omega arith)) ∙ l) in
        let ends = leb-true (rank n e') (rank n e) (sym (boundary_at_most n e' e (omega arith) (omega arith)) ∙ m) in
        between_rank n s' e' x (omega arith) (omega arith) (omega arith)
        ∙ within (rank n s) (rank n s') (rank n e') (rank n e) (key_rank n x) starts ends
        (sym (between_rank n s e x (omega arith) (omega arith) (omega arith)) ∙ no_key s e h k u t x)

-- ---- of ranges of a pool

starts_at_lem : (pool : List ℕ) (x : RangeSetItem) → Starts x → StartsAt (boundary_of pool x)
starts_at_lem pool UnboundedStart h = tt
starts_at_lem pool UnboundedEnd h = h
starts_at_lem pool (Inclusive k) h = tt
starts_at_lem pool (ExclusiveStart k) h = tt
starts_at_lem pool (ExclusiveEnd k) h = h

ends_at : (pool : List ℕ) (x : RangeSetItem) → Ends x → EndsAt (boundary_of pool x)
ends_at pool UnboundedStart h = h
ends_at pool UnboundedEnd h = tt
ends_at pool (Inclusive k) h = tt
ends_at pool (ExclusiveStart k) h = h
ends_at pool (ExclusiveEnd k) h = tt

-- which ranges of a list are left out is told by their boundaries alone, whatever pool the keys stand in

abbrev pub keyed_sides : List Sides → List Sides
keyed_sides L = keep (λ b. not (keyless_between b.0 b.1)) L

pub keyed_seen : (pool : List ℕ) (S : List RangeSet) → map (seen pool) (keyed pool S) ≡ keyed_sides (map (seen pool) S)
unfolding keyless
keyed_seen pool S = map_keep (seen pool) (λ b. not (keyless_between b.0 b.1)) S

module _ (pool : List ℕ) (n : ℕ) (fits : size pool ≤ n) (a : RangeSet) (A : Whole pool n fits a) where
  -- an upright range of a pool is of the two kinds exactly where it holds no key, of any length
  pub keyless_set : keyless pool a ≡ true ↔ ((k : List ℕ) → between (boundary_of pool a.start) (boundary_of pool a.end) k ≡ false)
  unfolding keyless
  keyless_set =
      keyless_exact (boundary_of pool a.start) (boundary_of pool a.end)
      (starts_at_lem pool a.start A.starts) (ends_at pool a.end A.ends) (whole_upright pool n fits a A)

  -- one that is not holds the first key at or past its start
  pub keyed_first : keyless pool a ≡ false → between (boundary_of pool a.start) (boundary_of pool a.end) (first_of pool a) ≡ true
  unfolding keyless
  keyed_first =
      some_key (boundary_of pool a.start) (boundary_of pool a.end)
      (starts_at_lem pool a.start A.starts) (ends_at pool a.end A.ends) (whole_upright pool n fits a A)

  -- as an interval of ranks it has no key's rank
  pub keyless_inside : keyless pool a ≡ true → (k : List ℕ) → size k ≤ n → inside (interval pool n fits a).0 (interval pool n fits a).1 (key_rank n k) ≡ false
  unfolding inside
  keyless_inside t k l = go (rank_in pool n fits a.start) (rank_in pool n fits a.end) (key_rank n k)
      (sym (between_rank n (boundary_of pool a.start) (boundary_of pool a.end) k
      (omega (arith, boundary_fits pool a.start)) (omega (arith, boundary_fits pool a.end)) l)
      ∙ keyless_set.0 t k)
    where
      go : (s e x : ℕ) → leb s x && leb x e ≡ false → leb s x && ltb x (e + 1) ≡ false
      go s e x f = elim (dec_le x e) [
        | yes p ↦ rw (lt-ltb x (e + 1) (omega arith)) (rw (le-leb x e p) at f)
        | no p ↦ rw (le-ltb x (e + 1) (omega arith)) (and-false (leb s x))
      ]

  pub part_of_keyless : (b : RangeSet) → Whole pool n fits b → rank_in pool n fits a.start ≤ rank_in pool n fits b.start
      → rank_in pool n fits b.end ≤ rank_in pool n fits a.end → keyless pool a ≡ true → keyless pool b ≡ true
  unfolding keyless
  part_of_keyless b B l m t =
      part_keyless (boundary_of pool a.start) (boundary_of pool a.end) (boundary_of pool b.start) (boundary_of pool b.end)
      (starts_at_lem pool a.start A.starts) (ends_at pool a.end A.ends) (whole_upright pool n fits a A)
      (starts_at_lem pool b.start B.starts) (ends_at pool b.end B.ends) (whole_upright pool n fits b B)
      (at_most_rank pool n fits a.start b.start ∙ le-leb _ _ l) (at_most_rank pool n fits b.end a.end ∙ le-leb _ _ m) t

-- 02 §2.2: an upright item holds no key, of any length, exactly where it is of the two kinds

module _ (pool : List ℕ) (q : QueryItem) (u : upright pool (to_range_set q) ≡ true) where
  whole : Whole pool (size pool) (le_refl (size pool)) (to_range_set q)
  whole = upright_whole pool (size pool) (le_refl (size pool)) q u

  pub keyless_item : keyless pool (to_range_set q) ≡ true ↔ ((k : List ℕ) → holds pool q k ≡ false)
  keyless_item =
      let exact = keyless_set pool (size pool) (le_refl (size pool)) (to_range_set q) whole in
      (λ t k. holds_between pool q k ∙ exact.0 t k, λ none. exact.1 (λ k. sym (holds_between pool q k) ∙ none k))

  -- else it holds the first key at or past its start, whose bytes are those of the start and 0
  pub keyed_item : keyless pool (to_range_set q) ≡ false → holds pool q (first_of pool (to_range_set q)) ≡ true
  keyed_item f = holds_between pool q (first_of pool (to_range_set q)) ∙ keyed_first pool (size pool) (le_refl (size pool)) (to_range_set q) whole f
