-- Each law that a caller cites, in the order of specs/: that answers are told apart, how positions are counted, what the walk over spans
-- gives, and that spans are as their positions. No contract cites this file. Assumes nothing.
use Rattle.std.specs.Prelude.{Ok, Err}
use Prim.Native.Nat.{ℕ, suc, ◌+◌, ◌-◌}
use mathlib.Core.Path.{◌≡◌, refl, sym, ◌∙◌}
use mathlib.Core.Bool.{Bool, true, false, cond, not, ◌&&◌}
use mathlib.Core.List.{List, [], ◌∷◌, ◌++◌}
use lib.ListN.{length}
use lib.Dec.{leb}
use borrow.Author.Tests.{leb-true}
use Rattle.intervals.specs.Lists.{keep}
use Rattle.intervals.specs.Intervals.{Interval, Canonical}
use Rattle.intervals.specs.Intervals as interval
use Rattle.intervals.proofs.Laws.{canonical→strict, keep_parts}
use Rattle.item_check.specs.Checks.{refused, Verdict, accepted, and_then}
use Rattle.position_given.specs.Positions.{count_up, positions_of, is_in}
use Rattle.position_given.specs.Inner.{Ascends}
use Rattle.position_given.proofs.Accepted.{never_accepted, ascending_accepts}
use Rattle.position_given.proofs.Positions.{in_keep, in_positions, ascends_keep, ascends_run, ascends_positions, ascends_unique}
use Rattle.position_mismatch.specs.declared.Compared.{Compared}
use Rattle.position_mismatch.specs.Reports.{missing, extra, present, first_crossing, missing_answer, spans_answer, compared_of}
pub use Rattle.position_mismatch.proofs.Steps.{spans_answer_lem}

-- ---- answers are told apart

-- the answer and the report that stands in it
pub compared_apart : (r s : Compared) → compared_of r ≡ compared_of s → r.report ≡ s.report → r ≡ s
compared_apart r s e m = let k = go r.checked s.checked e in λ i. record { checked = k i; report = m i }
  where
    go : (k l : Verdict) → and_then k (Ok r.report) ≡ and_then l (Ok s.report) → k ≡ l
    go (Ok u) (Ok v) e = refl
    go (Ok u) (Err y) e = cc
    go (Err x) (Ok v) e = cc
    go (Err x) (Err y) e = cc

-- ---- positions counted

-- 01 m6.12: covered = present + missing
pub covered_parts : (A : List Interval) (P : List ℕ) → length (positions_of A) ≡ length (present A P) + length (missing A P)
unfolding present missing
covered_parts A P = keep_parts (is_in P) (positions_of A)

-- 01 m6.12: proved = present + extra
pub proved_parts : (A : List Interval) (P : List ℕ) → Canonical A → Ascends 0 P → length P ≡ length (present A P) + length (extra A P)
unfolding present extra
proved_parts A P C a =
    let same : keep (is_in P) (positions_of A) ≡ keep (interval.holds A) P =
    ascends_unique 0 0 (keep (is_in P) (positions_of A)) (keep (interval.holds A) P)
    (ascends_keep 0 (is_in P) (positions_of A) (ascends_positions 0 A (canonical→strict A C)))
    (ascends_keep 0 (interval.holds A) P a)
    (λ p. in_keep (is_in P) (positions_of A) p ∙ rw (in_positions A p) (and_swap (interval.holds A p) (is_in P p)) ∙ sym (in_keep (interval.holds A) P p)) in
    rw same (keep_parts (interval.holds A) P)
  where
    and_swap : (a b : Bool) → a && b ≡ b && a
    and_swap true true = refl
    and_swap true false = refl
    and_swap false true = refl
    and_swap false false = refl

-- the offenders stand in rising order, so that the first of them are the smallest

pub missing_ascends : (A : List Interval) (P : List ℕ) → Canonical A → Ascends 0 (missing A P)
unfolding missing
missing_ascends A P C = ascends_keep 0 (λ p. not (is_in P p)) (positions_of A) (ascends_positions 0 A (canonical→strict A C))

pub extra_ascends : (A : List Interval) (P : List ℕ) → Ascends 0 P → Ascends 0 (extra A P)
unfolding extra
extra_ascends A P a = ascends_keep 0 (λ p. not (interval.holds A p)) P a

-- ---- spans as their positions

-- the positions of accepted spans ascend; empty and touching spans are accepted too
pub ascends_spans : (i e : ℕ) (S : List Interval) → first_crossing i e S ≡ accepted → Ascends e (positions_of S)
unfolding first_crossing positions_of
ascends_spans i e [] h = tt
ascends_spans i e (a ∷ S) h = go (leb e a.0) (leb a.0 a.1) refl refl h (ascends_spans (suc i) a.1 S)
  where
    go : (t u : Bool) → leb e a.0 ≡ t → leb a.0 a.1 ≡ u → cond (t && u) (first_crossing (suc i) a.1 S) (refused 8 1 i) ≡ accepted
        → (first_crossing (suc i) a.1 S ≡ accepted → Ascends a.1 (positions_of S)) → Ascends e (count_up a.0 (a.1 - a.0) ++ positions_of S)
    go true true p q r rest = ascends_run e a.0 a.1 (positions_of S) (leb-true e a.0 p) (leb-true a.0 a.1 q) (rest r)
    go true false p q r rest = never_accepted r
    go false u p q r rest = never_accepted r

-- 01 m6.11: accepted spans give what `missing_from` gives on their positions, and the same refusal where the intervals are refused
pub spans_as_positions : (ws : List ℕ) (S : List Interval) → first_crossing 0 0 S ≡ accepted → spans_answer ws S ≡ missing_answer ws (positions_of S)
spans_as_positions ws S h = rw (h, ascending_accepts (positions_of S) (ascends_spans 0 0 S h))
