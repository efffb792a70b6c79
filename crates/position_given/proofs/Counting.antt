-- The pass that checks intervals and counts their rows: a turn of it, and what it answers. Assumes nothing.
use Rattle.std.specs.Prelude.{Ok, Err}
use Prim.Native.Nat.{ℕ, ◌+◌, ◌-◌, ◌/◌, ◌≤◌, ◌<◌}
use mathlib.Core.Path.{◌≡◌, refl, ◌∙◌}
use mathlib.Core.Bool.{true, false, ◌&&◌}
use mathlib.Core.List.{List}
use native.Mathlib.Omega.{arith}
use lib.Dec.{ltb}
use lib.ListN.{length}
use borrow.Author.Tests.{ltb-true}
use Rattle.key_order.proofs.Impossible.{impossible}
use Rattle.intervals.specs.Intervals.{Interval}
use Rattle.item_check.specs.declared.Refusal.{Refusal}
use Rattle.item_check.specs.Checks.{refused, Verdict, accepted, and_then}
use Rattle.key_order.proofs.Bools.{both_true}
use Rattle.pairs_sort.specs.Pairs.{start, finish, pairs_from, pairs}
use Rattle.position_given.specs.Given.{intervals_of, first_touching, canonical_verdict}
use Rattle.position_given.specs.Positions.{positions_of, rows_of}
use Rattle.position_given.specs.Answers.{rows_answer}
use Rattle.position_given.proofs.Accepted.{touching_end, touching_here, touching_next, canonical_none, canonical_first, canonical_start}
use Rattle.position_given.proofs.Widths.{width_more, width_end}

-- a pair from s to f after one that ends at e
stands_apart : (e s f : ℕ) → ltb e s && ltb s f ≡ true → (e < s) × (s < f)
stands_apart e s f h = let b = both_true (ltb e s) (ltb s f) h in (ltb-true e s b.0, ltb-true s f b.1)

-- of count pairs, those before i are canonical and have so many rows, no more than end, where the last of them ends
pub record Counting (ws : List ℕ) (count end sum i : ℕ) : Type 0 where
  pub all : count ≡ length ws / 2
  pub verdict : canonical_verdict (pairs ws count) ≡ first_touching i end (pairs_from ws i (count - i))
  pub rows : rows_of (pairs ws count) ≡ sum + rows_of (pairs_from ws i (count - i))
  pub below : sum ≤ end

module _ (ws : List ℕ) (count : ℕ) (all : count ≡ length ws / 2) where
  pub counted_none : count ≡ 0 → Ok 0 ≡ rows_answer (intervals_of ws)
  counted_none h = rw (← all, canonical_none ws count h) (rw h (unfold positions_of pairs_from in refl))

  pub counted_first : 0 < count → finish ws 0 ≤ start ws 0 → refused 9 0 0 ≡ rows_answer (intervals_of ws)
  counted_first h l = rw (← all, canonical_first ws count h l)

  pub counting_start : 0 < count → start ws 0 < finish ws 0 → Counting ws count (finish ws 0) (finish ws 0 - start ws 0) 1
  counting_start h l =
      let z : count - 0 ≡ count = omega arith in
      record { all = all; verdict = canonical_start ws count h l; rows = rw z at (width_more ws count 0 h); below = omega arith }

module _ {ws : List ℕ} {count end sum i : ℕ} (C : Counting ws count end sum i) where
  pub counting_next : i < count → ltb end (start ws i) && ltb (start ws i) (finish ws i) ≡ true
      → Counting ws count (finish ws i) (sum + (finish ws i - start ws i)) (i + 1)
  counting_next h t =
      let apart = stands_apart end (start ws i) (finish ws i) t in
      record {
        all = C.all;
        verdict = C.verdict ∙ touching_next ws i count end h t;
        rows = omega (arith, C.rows, width_more ws count i h);
        below = omega (arith, C.below, apart.0, apart.1);
      }

  pub counting_some : ltb end (start ws i) && ltb (start ws i) (finish ws i) ≡ true → start ws i < finish ws i
  counting_some t = (stands_apart end (start ws i) (finish ws i) t).1

  pub counted_here : i < count → ltb end (start ws i) && ltb (start ws i) (finish ws i) ≡ false → refused 9 0 i ≡ rows_answer (intervals_of ws)
  counted_here h t = rw (← C.all, C.verdict, touching_here ws i count end h t)

  pub counted_all : count ≤ i → Ok sum ≡ rows_answer (intervals_of ws)
  counted_all h =
      let whole : rows_of (pairs ws count) ≡ sum = omega (arith, C.rows, width_end ws count i h) in
      rw (← C.all, C.verdict, touching_end ws i count end h, whole)

-- ---- what the answer tells of the verdict

module _ (A : List Interval) where
  pub rows_refused : (r : Refusal) → Err r ≡ rows_answer A → Err r ≡ canonical_verdict A
  rows_refused r e = go (canonical_verdict A) e
    where
      go : (v : Verdict) → Err r ≡ and_then v (Ok (rows_of A)) → Err r ≡ v
      go (Ok u) d = impossible cc
      go (Err r) d = cc

  pub rows_counted : (n : ℕ) → Ok n ≡ rows_answer A → (accepted ≡ canonical_verdict A) × (n ≡ rows_of A)
  rows_counted n e = go (canonical_verdict A) e
    where
      go : (v : Verdict) → Ok n ≡ and_then v (Ok (rows_of A)) → (accepted ≡ v) × (n ≡ rows_of A)
      go (Ok tt) d = (refl, cc)
      go (Err r) d = impossible cc
