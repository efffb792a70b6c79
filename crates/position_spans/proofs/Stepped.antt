-- The loop over the spans of a list, on plain values. Assumes nothing.
use Prim.Native.Nat.{ℕ, suc, ◌+◌, ◌≤◌, ◌<◌}
use mathlib.Core.Path.{◌≡◌, sym, ap, subst, ◌∙◌}
use mathlib.Core.List.{List, [], ◌∷◌}
use native.Mathlib.Numerals.{add-one}
use native.Mathlib.Omega.{arith}
use lib.ListN.{length, get_or, drop, drop_of_length-le, length-map}
use lib.Seq.{drop-cons}
use Rattle.position_given.specs.Inner.{last_word}
use Rattle.position_given.proofs.Widths.{Words, Ends}
use Rattle.position_mismatch.specs.declared.SpanWalk.{SpanWalk}
use Rattle.position_mismatch.specs.declared.Compared.{Compared}
use Rattle.position_mismatch.specs.Reports.{GivesCompared, spans_answer}
use Rattle.position_mismatch.specs.Inner.{start_of, step_of, steps_of, finish_of}
use Rattle.position_mismatch.proofs.Laws.{spans_answer_lem}
use Rattle.position_spans.specs.declared.Span.{Span}
use Rattle.position_spans.specs.Spans.{no_span, span_pair, span_pairs}

-- the walk stands after the first i spans: what the others make of it is what all make of the start. That all end below 2 ^ 64 is known once
-- it is known of the others
pub record Stepped (ws : List ℕ) (spans : List Span) (w : SpanWalk) (i : ℕ) : Type 0 where
  pub within : i ≤ length spans
  pub steps : steps_of ws w (span_pairs (drop i spans)) ≡ steps_of ws (start_of ws) (span_pairs spans)
  pub ends : Ends last_word (span_pairs (drop i spans)) → Ends last_word (span_pairs spans)

pub stepped_start : (ws : List ℕ) (spans : List Span) (w : SpanWalk) → w ≡ start_of ws → Stepped ws spans w 0
stepped_start ws spans w e = record { within = omega arith; steps = ap (λ (v : SpanWalk). steps_of ws v (span_pairs spans)) e; ends = λ h. h }

-- one span more
pub stepped_more : (ws : List ℕ) (spans : List Span) (w v : SpanWalk) (i : ℕ) (z : Span) → Stepped ws spans w i → i < length spans
    → z ≡ get_or spans i no_span → z.end < 18446744073709551616 → v ≡ step_of ws w z.start z.end → Stepped ws spans v (i + 1)
unfolding steps_of
stepped_more ws spans w v i z s l ez fits ev =
    let next : drop i spans ≡ z ∷ drop (i + 1) spans =
    rw (add-one i) (drop-cons spans i no_span l ∙ ap (λ (x : Span). x ∷ drop (suc i) spans) (sym ez)) in
    record {
      within = omega arith;
      steps = ap (λ (x : SpanWalk). steps_of ws x (span_pairs (drop (i + 1) spans))) ev ∙ sym (ap (λ (xs : List Span). steps_of ws w (span_pairs xs)) next) ∙ s.steps;
      ends = λ h. s.ends (subst (λ (xs : List Span). Ends last_word (span_pairs xs)) (sym next) (omega arith, h));
    }

-- none is left
pub stepped_end : (ws : List ℕ) (spans : List Span) (w : SpanWalk) (i : ℕ) (r : Compared) → Words ws → length spans < 18446744073709551616
    → Stepped ws spans w i → length spans ≤ i → r ≡ finish_of ws w → GivesCompared r (spans_answer ws (span_pairs spans))
unfolding steps_of
stepped_end ws spans w i r W few s l e =
    let none : drop i spans ≡ [] = drop_of_length-le spans l in
    let all : w ≡ steps_of ws (start_of ws) (span_pairs spans) =
    sym (ap (λ (xs : List Span). steps_of ws w (span_pairs xs)) none) ∙ s.steps in
    let ends : Ends last_word (span_pairs spans) = s.ends (subst (λ (xs : List Span). Ends last_word (span_pairs xs)) (sym none) tt) in
    subst (λ (x : Compared). GivesCompared x (spans_answer ws (span_pairs spans))) (sym (e ∙ ap (finish_of ws) all))
    (spans_answer_lem ws (span_pairs spans) W ends (omega (arith, length-map spans span_pair)))
