-- The turns of the loops, and the raise, over the words. Assumes nothing.
use Prim.Native.Nat.{ℕ, zero, suc, ◌+◌, ◌-◌, ◌*◌, ◌≤◌, ◌<◌, min, max}
use mathlib.Core.Path.{◌≡◌, refl, sym, ap, ◌∙◌}
use mathlib.Core.Bool.{Bool, true, false}
use mathlib.Core.List.{List, [], ◌∷◌}
use lib.Dec.{ltb}
use borrow.Author.Tests.{lt-ltb, ltb-true, ltb-false}
use Rattle.std.specs.Simd.{first_chunks}
use Rattle.std.specs.List.Sorted.{IsPartitionedBy, IsPartitionPoint}
use native.Mathlib.Decide.{dec_lt}
use native.Mathlib.Omega.{arith}
use lib.ListN.{length, get_or, set, take, drop, length-set}
use lib.Seq.{get_or-take, get_or-drop, get_or-set_same, get_or-set_other, drop-set-lt}
use Rattle.intervals.specs.Lists.{cuts_of}
use Rattle.intervals.specs.Intervals.{Interval, Apart, Canonical}
use Rattle.intervals.specs.Cover.{grow_of}
use Rattle.intervals.proofs.Pieces.{cuts}
use Rattle.intervals.proofs.Laws.{grow_stop, grow_more, cuts_gone, cuts_last}
use Rattle.pairs_sort.specs.Pairs.{start, finish, pairs_from, pairs}
use Rattle.pairs_sort.proofs.Laws.{pairs_more, pairs_end, pairs_kept}
use Rattle.position_given.specs.Positions.{rows_of}
use Rattle.position_given.proofs.Widths.{Words, width_more, nonempty_at, ends_before}
use Rattle.position_given.proofs.Rows.{rest_apart, rest_fits}
use Rattle.position_stored.specs.Inner.{Place, Passed, Growing, Grew, Going, Raised}

-- a pair of a canonical list is nonempty
pub some_at : {ws : List ℕ} {count from i : ℕ} → Place ws count from → i < count → start ws i < finish ws i
some_at {ws} {count} {i = i} P h = nonempty_at ws count 0 i 0 P.canonical (omega arith) (omega arith)

-- ---- the halving: ends rise

ends_rise : (ws : List ℕ) (count i j : ℕ) → Canonical (pairs ws count) → i < j → j < count → finish ws i < finish ws j
ends_rise ws count i j C h l =
    omega (arith, ends_before ws count 0 i j 0 C (omega arith) h (omega arith), nonempty_at ws count 0 j 0 C (omega arith) (omega arith))

-- the end of a pair among the pairs of words
chunk_end : (k i : ℕ) (ws : List ℕ) (d : List ℕ) → i < k → get_or (get_or (first_chunks 2 k ws) i d) 1 0 ≡ finish ws i
chunk_end zero i ws d h = absurd (omega arith)
chunk_end (suc k) zero ws d h = get_or-take 2 ws 1 0 (omega arith)
chunk_end (suc k) (suc i) ws d h =
    let q : 2 + (2 * i + 1) ≡ 2 * suc i + 1 = omega arith in
    chunk_end k i (drop 2 ws) d (omega arith) ∙ get_or-drop 2 ws (2 * i + 1) 0 ∙ ap (λ (n : ℕ). get_or ws n 0) q

-- what the halving asks a pair
abbrev pub ends_under : ℕ → List ℕ → Bool
ends_under x pair = ltb (get_or pair 1 0) x

module _ (x : ℕ) {ws : List ℕ} {count : ℕ} {L : List (List ℕ)} {m : ℕ} (P : Place ws count 0) (is : L ≡ first_chunks 2 m (take (2 * count) ws)) (all : length L ≡ m)
    (many : m ≡ count) where
  asked : (i : ℕ) (d : List ℕ) → i < count → ends_under x (get_or L i d) ≡ ltb (finish ws i) x
  asked i d h = ap (λ (n : ℕ). ltb n x) (rw is (chunk_end m i (take (2 * count) ws) d (omega arith)) ∙ get_or-take (2 * count) ws (2 * i + 1) 0 (omega arith))

  parted : IsPartitionedBy (ends_under x) L
  parted i j d h l e =
      asked i d (omega arith) ∙ lt-ltb (finish ws i) x (elim (dec_lt i j) [
        | yes u ↦ omega (arith, ends_rise ws count i j P.canonical u (omega arith), ltb-true (finish ws j) x (sym (asked j d (omega arith)) ∙ e))
        | no u ↦ let q : i ≡ j = omega arith in rw q (ltb-true (finish ws j) x (sym (asked j d (omega arith)) ∙ e))
      ])

  pub passed_by : {n : ℕ} → n ≤ length L → (IsPartitionedBy (ends_under x) L → IsPartitionPoint (λ y. ends_under x y ≡ true) (λ y. ends_under x y ≡ false) L n)
      → Passed ws count x n
  passed_by {n} l at =
      let parts = at parted in
      record {
        within = omega arith;
        before = λ k h. ltb-true (finish ws k) x (sym (asked k [] (omega arith)) ∙ parts.0 k [] (omega arith) h);
        here = λ h. ltb-false (finish ws n) x (sym (asked n [] h) ∙ parts.1 n [] (omega arith) (omega arith));
      }

-- ---- growing

pub growing_start : (ws : List ℕ) (count from s e : ℕ) → Place ws count from → s < e → Growing ws count from s e from s e 0
growing_start ws count from s e P h =
    record { after = omega arith; within = P.placed; some = h; list = refl; rows = omega arith }

module _ {ws : List ℕ} {count from s e i t f gone : ℕ} (G : Growing ws count from s e i t f gone) where
  pub growing_more : i < count → start ws i < finish ws i → start ws i ≤ f
      → Growing ws count from s e (i + 1) (min t (start ws i)) (max f (finish ws i)) (gone + (finish ws i - start ws i))
  growing_more h n l = record {
    after = omega (arith, G.after);
    within = omega arith;
    some = omega (arith, G.some);
    list = G.list
        ∙ ap (λ (A : List Interval). grow_of A t f) (pairs_more ws i count h)
        ∙ grow_more (start ws i, finish ws i) (pairs_from ws (i + 1) (count - (i + 1))) t f l;
    rows = omega (arith, G.rows, width_more ws count i h);
  }

  pub growing_stop : i < count → f < start ws i → Grew ws count from s e i t f gone
  growing_stop h l = record {
    after = G.after;
    within = G.within;
    some = G.some;
    list = G.list
        ∙ ap (λ (A : List Interval). grow_of A t f) (pairs_more ws i count h)
        ∙ grow_stop (start ws i, finish ws i) (pairs_from ws (i + 1) (count - (i + 1))) t f l
        ∙ ap (λ (A : List Interval). (t, f) ∷ A) (sym (pairs_more ws i count h));
    rows = G.rows;
  }

  pub growing_end : count ≤ i → Grew ws count from s e i t f gone
  unfolding grow_of
  growing_end h = record {
    after = G.after;
    within = G.within;
    some = G.some;
    list = G.list ∙ rw (pairs_end ws i count h);
    rows = G.rows;
  }

  -- the rows that it has taken in fit a word
  pub growing_fits : Place ws count from → Words ws → i < count → gone + (finish ws i - start ws i) < 18446744073709551616
  growing_fits P w h = omega (arith, G.rows, width_more ws count i h, rest_fits ws count from P.placed w P.canonical)

-- ---- going whole

pub going_start : (ws : List ℕ) (count from e : ℕ) → Place ws count from → Going ws count from e from 0
going_start ws count from e P = record { after = omega arith; within = P.placed; list = refl; rows = omega arith }

module _ {ws : List ℕ} {count from e i gone : ℕ} (G : Going ws count from e i gone) where
  pub going_more : i < count → start ws i < finish ws i → finish ws i ≤ e
      → Going ws count from e (i + 1) (gone + (finish ws i - start ws i))
  going_more h n l = record {
    after = omega (arith, G.after);
    within = omega arith;
    list = G.list
        ∙ ap (λ (A : List Interval). cuts A (0, e)) (pairs_more ws i count h)
        ∙ cuts_gone (start ws i, finish ws i) (pairs_from ws (i + 1) (count - (i + 1))) e l;
    rows = omega (arith, G.rows, width_more ws count i h);
  }

  pub going_fits : Place ws count from → Words ws → i < count → gone + (finish ws i - start ws i) < 18446744073709551616
  going_fits P w h = omega (arith, G.rows, width_more ws count i h, rest_fits ws count from P.placed w P.canonical)

-- ---- the raise

pub raised_none : (ws : List ℕ) (count from e : ℕ) → from ≡ count → Raised ws count from e ws 0
unfolding cuts_of
raised_none ws count from e h = record {
  size = refl;
  list = rw (pairs_end ws from count (omega arith));
  rows = omega arith;
  front = λ k l. refl;
  later = refl;
}

module _ (ws : List ℕ) (count from e : ℕ) (P : Place ws count from) (h : from < count) (p : e < finish ws from) (r : ℕ)
    (is : r ≡ max (start ws from) e) where
  after : List ℕ
  after = set ws (2 * from) r

  after_start : start after from ≡ r
  unfolding after
  after_start = get_or-set_same ws (2 * from) r 0 (omega (arith, P.within))

  after_finish : finish after from ≡ finish ws from
  unfolding after
  after_finish = get_or-set_other ws (2 * from) (2 * from + 1) r 0 (λ q. omega arith)

  after_rest : pairs_from after (from + 1) (count - (from + 1)) ≡ pairs_from ws (from + 1) (count - (from + 1))
  unfolding after
  after_rest = pairs_kept ws after (count - (from + 1)) (from + 1)
      (λ j l m. get_or-set_other ws (2 * from) (2 * j) r 0 (λ q. omega arith))
      (λ j l m. get_or-set_other ws (2 * from) (2 * j + 1) r 0 (λ q. omega arith))

  first_apart : Apart 0 ((start ws from, finish ws from) ∷ pairs_from ws (from + 1) (count - (from + 1)))
  first_apart = rw (pairs_more ws from count h) at (rest_apart ws count from P.placed P.canonical)

  pub raised_some : Raised ws count from e (set ws (2 * from) r) (r - start ws from)
  unfolding after
  raised_some = record {
    size = length-set ws (2 * from) r;
    list = pairs_more after from count h
        ∙ rw (after_start, after_finish, after_rest, is)
        (sym (ap (λ (A : List Interval). cuts A (0, e)) (pairs_more ws from count h)
        ∙ cuts_last (start ws from, finish ws from) (pairs_from ws (from + 1) (count - (from + 1))) e p first_apart.1 first_apart.2));
    rows = omega (arith, width_more ws count from h, width_more after count from h, after_start, after_finish, ap rows_of after_rest, first_apart.1);
    front = λ k l. pairs_kept ws after k 0
        (λ j m n. get_or-set_other ws (2 * from) (2 * j) r 0 (λ q. omega arith))
        (λ j m n. get_or-set_other ws (2 * from) (2 * j + 1) r 0 (λ q. omega arith));
    later = drop-set-lt (2 * count) ws (2 * from) r (omega arith);
  }
