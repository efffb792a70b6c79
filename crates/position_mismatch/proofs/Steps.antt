-- The walk over spans: a start, a step for each, and a finish give what the spanned positions give. Assumes nothing.
use Rattle.std.specs.Prelude.{Ok, Err}
use Prim.Native.Nat.{ℕ, suc, ◌+◌, ◌-◌, ◌≤◌, ◌<◌, min}
use mathlib.Core.Path.{◌≡◌, refl, sym, ap, subst, ◌∙◌}
use mathlib.Core.Bool.{Bool, true, false, cond, ◌&&◌, ◌||◌, or-false}
use mathlib.Core.List.{List, [], ◌∷◌, ◌++◌, append-nil}
use native.Mathlib.Omega.{arith}
use lib.ListN.{length}
use lib.Seq.{append_snoc}
use lib.Dec.{leb}
use borrow.Author.Tests.{leb-true}
use Rattle.key_order.proofs.Impossible.{impossible}
use Rattle.intervals.specs.Intervals.{Interval, inside, holds}
use Rattle.intervals.proofs.Laws.{holds_append}
use Rattle.item_check.specs.declared.Refusal.{Refusal}
use Rattle.item_check.specs.Checks.{Answer, refused, refusal, Verdict, accepted, and_then}
use Rattle.pairs_sort.specs.Pairs.{start, finish, pairs_from, pairs}
use Rattle.pairs_sort.proofs.Laws.{pairs_more, pairs_end, pairs_length}
use Rattle.position_given.specs.Given.{intervals_of, intervals_verdict}
use Rattle.position_given.specs.Positions.{positions_of}
use Rattle.position_given.specs.Inner.{Sound, last_word}
use Rattle.position_given.proofs.Accepted.{sound}
use Rattle.position_given.proofs.Widths.{Words, Ends, ends_of}
use Rattle.position_report.specs.declared.PositionMismatch.{PositionMismatch}
use Rattle.position_report.specs.Reports.{report_of}
use Rattle.position_mismatch.specs.declared.SpanWalk.{SpanWalk}
use Rattle.position_mismatch.specs.declared.Compared.{Compared}
use Rattle.position_mismatch.specs.Reports.{missing, GivesCompared, spans_answer, first_crossing}
use Rattle.position_mismatch.specs.Inner.{walk_at, over_span, start_of, step_from, step_of, steps_of, report_from, finish_of}
use Rattle.position_given.proofs.Positions.{in_positions}
use Rattle.position_mismatch.proofs.Walks.{Reached, reached_start, reached_over, reached_end}

-- ---- the law

-- once refused, always refused
stays : (ws : List ℕ) (w : SpanWalk) (S : List Interval) (r : Refusal) → w.checked ≡ Err r
    → GivesCompared (finish_of ws (steps_of ws w S)) (Err r)
unfolding steps_of
stays ws w [] r e = go w.checked e
  where
    go : (k : Verdict) → k ≡ Err r → GivesCompared (record { checked = k; report = report_from k ws w.walk }) (Err r)
    go (Ok u) e = impossible cc
    go (Err x) e = record { answer = ap (λ (v : Verdict). and_then {A = PositionMismatch} v (Ok (report_of []))) e; report = refl }
stays ws w (a ∷ S) r e = go w.checked refl e (stays ws w S r e)
  where
    go : (k : Verdict) → w.checked ≡ k → k ≡ Err r → GivesCompared (finish_of ws (steps_of ws w S)) (Err r)
        → GivesCompared (finish_of ws (steps_of ws (step_of ws w a.0 a.1) S)) (Err r)
    go (Ok u) q e g = impossible cc
    go (Err x) q e g =
        subst (λ (v : SpanWalk). GivesCompared (finish_of ws (steps_of ws v S)) (Err r)) (sym (ap (λ (k : Verdict). step_from k ws w a.0 a.1) q)) g

abbrev went : List ℕ → SpanWalk → Interval → SpanWalk
went ws w a = record { checked = accepted; seen = min (w.seen + 1) last_word; walk = over_span ws w.walk a.0 a.1 }

abbrev refused_at : SpanWalk → SpanWalk
refused_at w = record { checked = refused 8 1 w.seen; seen = w.seen; walk = w.walk }

-- the answer after the spans of a list, of which those of E are left from index i on, after one that ends at e
abbrev answer_left : List ℕ → ℕ → ℕ → List Interval → List Interval → Answer PositionMismatch
answer_left ws i e E L = and_then (first_crossing i e E) (Ok (report_of (missing (intervals_of ws) (positions_of L))))

module _ (ws : List ℕ) (W : Words ws) (S : Sound ws) where
  -- after the spans D, with E still to come
  steps : (D E : List Interval) (w : SpanWalk) → Ends last_word E → w.seen + length E ≤ last_word → w.checked ≡ accepted → Reached ws (holds D) w.walk
      → GivesCompared (finish_of ws (steps_of ws w E)) (answer_left ws w.seen w.walk.from E (D ++ E))
  unfolding steps_of first_crossing
  steps D [] w en few ok R =
      let whole = reached_end ws (holds D) w.walk (positions_of D) W S R (λ p l. sym (in_positions D p)) in
      rw (ok, append-nil) (record { answer = ap Ok whole; report = whole })
  steps D (a ∷ E) w en few ok R = rw ok (go (leb w.walk.from a.0) (leb a.0 a.1) refl refl (steps (D ++ a ∷ []) E))
    where
      proved : (p : ℕ) → holds (D ++ a ∷ []) p ≡ holds D p || inside a.0 a.1 p
      proved p = holds_append D (a ∷ []) p ∙ ap (λ (b : Bool). holds D p || b) (one a.0 a.1 p)
        where
          one : (s e p : ℕ) → holds ((s, e) ∷ []) p ≡ inside s e p
          one s e p = unfold holds in or-false (inside s e p)

      go : (t u : Bool) → leb w.walk.from a.0 ≡ t → leb a.0 a.1 ≡ u
          → ((v : SpanWalk) → Ends last_word E → v.seen + length E ≤ last_word → v.checked ≡ accepted → Reached ws (holds (D ++ a ∷ [])) v.walk
          → GivesCompared (finish_of ws (steps_of ws v E)) (answer_left ws v.seen v.walk.from E (D ++ a ∷ [] ++ E)))
          → GivesCompared (finish_of ws (steps_of ws (cond (t && u) (went ws w a) (refused_at w)) E))
          (and_then (cond (t && u) (first_crossing (suc w.seen) a.1 E) (refused 8 1 w.seen)) (Ok (report_of (missing (intervals_of ws) (positions_of (D ++ a ∷ E))))))
      go true true p q rest =
          let from : w.walk.from ≤ a.0 = leb-true w.walk.from a.0 p in
          let up : a.0 ≤ a.1 = leb-true a.0 a.1 q in
          let seen : min (w.seen + 1) last_word ≡ suc w.seen = omega arith in
          let R' : Reached ws (holds (D ++ a ∷ [])) (over_span ws w.walk a.0 a.1) =
          reached_over ws (holds D) w.walk S R a.0 from (omega (arith, en.0)) (holds (D ++ a ∷ [])) a.1 up en.0 (λ x l. proved x) in
          let r = rest (went ws w a) en.1 (omega arith) refl R' in
          subst (λ (L : List Interval). GivesCompared (finish_of ws (steps_of ws (went ws w a) E)) (answer_left ws (suc w.seen) a.1 E L)) (append_snoc D a E)
          (subst (λ (k : ℕ). GivesCompared (finish_of ws (steps_of ws (went ws w a) E)) (answer_left ws k a.1 E (D ++ a ∷ [] ++ E))) seen r)
      go true false p q rest = stays ws (refused_at w) E (refusal 8 1 w.seen) refl
      go false u p q rest = stays ws (refused_at w) E (refusal 8 1 w.seen) refl

-- a start, a step for each span and a finish: what the spanned positions give, and 8 as the spans are refused
pub spans_answer_lem : (ws : List ℕ) (S : List Interval) → Words ws → Ends last_word S → length S ≤ last_word
    → GivesCompared (finish_of ws (steps_of ws (start_of ws) S)) (spans_answer ws S)
spans_answer_lem ws S W en few = go (intervals_verdict ws) refl
  where
    go : (v : Verdict) → intervals_verdict ws ≡ v
        → GivesCompared (finish_of ws (steps_of ws (record { checked = v; seen = 0; walk = walk_at 0 0 (report_of []) }) S))
        (and_then (and_then v (first_crossing 0 0 S)) (Ok (report_of (missing (intervals_of ws) (positions_of S)))))
    go (Ok tt) e =
        steps ws W (sound ws e) [] S (record { checked = accepted; seen = 0; walk = walk_at 0 0 (report_of []) }) en (omega arith) refl
        (reached_start ws (holds []) (sound ws e) (λ p l. unfold holds in refl))
    go (Err r) e = stays ws (record { checked = Err r; seen = 0; walk = walk_at 0 0 (report_of []) }) S r refl

-- ---- the loop over spans that are words in pairs: what those from index i on make of the walk is what all make of the start

module _ (ws sp : List ℕ) (count : ℕ) where
  abbrev steps_left : SpanWalk → ℕ → SpanWalk
  steps_left w i = steps_of ws w (pairs_from sp i (count - i))

  abbrev all_steps : SpanWalk
  all_steps = steps_of ws (start_of ws) (pairs sp count)

  pub steps_start : (w : SpanWalk) → w ≡ start_of ws → steps_left w 0 ≡ all_steps
  steps_start w e = let z : count - 0 ≡ count = omega arith in rw (e, z)

  pub steps_more : (w : SpanWalk) (i : ℕ) {v : SpanWalk} → i < count → v ≡ step_of ws w (start sp i) (finish sp i) → steps_left w i ≡ all_steps
      → steps_left v (i + 1) ≡ all_steps
  unfolding steps_of
  steps_more w i h e same = rw e (rw (pairs_more sp i count h) at same)

  pub steps_end : (w : SpanWalk) (i : ℕ) {r : Compared} → Words ws → Words sp → count < 18446744073709551616 → count ≤ i → r ≡ finish_of ws w
      → steps_left w i ≡ all_steps → GivesCompared r (spans_answer ws (pairs sp count))
  unfolding steps_of
  steps_end w i W words few h e same =
      let all : w ≡ all_steps = rw (pairs_end sp i count h) at same in
      subst (λ (x : Compared). GivesCompared x (spans_answer ws (pairs sp count))) (sym (e ∙ ap (finish_of ws) all))
      (spans_answer_lem ws (pairs sp count) W (ends_of sp words count 0) (omega (arith, pairs_length sp count 0)))
