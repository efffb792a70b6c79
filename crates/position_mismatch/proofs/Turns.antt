-- The passes over proved positions: where the walk for the missing ones, and the search for the extra ones, stand after some positions.
-- Assumes nothing.
use Prim.Native.Nat.{ℕ, suc, ◌+◌, ◌/◌, ◌≤◌, ◌<◌, min}
use mathlib.Core.Path.{◌≡◌, refl, sym, ap, ◌∙◌}
use mathlib.Core.Bool.{Bool, true, false, not, ◌&&◌}
use mathlib.Core.List.{List, [], ◌∷◌, ◌++◌, append-nil}
use native.Mathlib.Decide.{dec_lt, ℕ_discrete}
use native.Mathlib.Numerals.{add-one}
use native.Mathlib.Omega.{arith}
use lib.ListN.{length, get_or, take, drop}
use lib.Seq.{take-suc, take_all, drop-cons, length-take-le}
use lib.Dec.{leb, ltb}
use borrow.Author.Tests.{eq-eqb, ne_eqb}
use Rattle.intervals.specs.Lists.{keep}
use Rattle.intervals.specs.Intervals.{inside, holds}
use Rattle.intervals.proofs.Members.{inside_below, inside_yes, inside_past}
use Rattle.intervals.proofs.Laws.{keep_append, keep_parts}
use Rattle.pairs_sort.specs.Pairs.{start, finish}
use Rattle.position_given.specs.Given.{intervals_of}
use Rattle.position_given.specs.Positions.{count_up, is_in}
use Rattle.position_given.specs.Inner.{Sound, Ascends, last_word}
use Rattle.position_given.proofs.Held.{held_at}
use Rattle.position_given.proofs.Widths.{Words}
use Rattle.position_report.specs.declared.PositionMismatch.{PositionMismatch}
use Rattle.position_report.specs.Reports.{report_of}
use Rattle.position_report.specs.Inner.{with_run}
use Rattle.position_report.proofs.Runs.{run_report}
use Rattle.position_mismatch.specs.declared.Walk.{Walk}
use Rattle.position_mismatch.specs.Reports.{missing, extra}
use Rattle.position_mismatch.specs.Inner.{walk_at, report_until, pairs_left, over_span, FirstPast}
use Rattle.position_given.proofs.Positions.{in_append, ascends_member, ascends_weaken}
use Rattle.position_mismatch.proofs.Walks.{Reached, reached_start, reached_over, reached_end}

-- ---- the missing ones

-- a position as a span of one; the last u64 as an empty one
single : (p q e : ℕ) → q < last_word → e ≡ min (p + 1) last_word → is_in (p ∷ []) q ≡ inside p e q
unfolding is_in
single p q e l is = elim (ℕ_discrete q p) [
  | yes h ↦ rw (eq-eqb q p h) (sym (inside_yes p e q (omega arith) (omega arith)))
  | no h ↦ rw (ne_eqb q p h) (elim (dec_lt q p) [
    | yes k ↦ sym (inside_below p e q k)
    | no k ↦ let above : p + 1 ≤ q = elim (dec_lt p q) [ yes u ↦ omega arith | no u ↦ absurd (h (omega arith)) ] in sym (inside_past p e q (omega arith))
  ])
]

-- after i of the positions: these are proved, and the others stand ahead of the walk
pub record Seen (ws P : List ℕ) (w : Walk) (i : ℕ) : Type 0 where
  pub reached : Reached ws (is_in (take i P)) w
  pub left : Ascends w.from (drop i P)
  pub within : i ≤ length P

module _ {ws P : List ℕ} (S : Sound ws) where
  pub seen_start : Ascends 0 P → Seen ws P (walk_at 0 0 (report_of [])) 0
  unfolding is_in
  seen_start a = record { reached = reached_start ws (is_in []) S (λ p h. refl); left = a; within = omega arith }

  pub seen_more : {w v : Walk} {i e : ℕ} → Words P → Seen ws P w i → i < length P → e ≡ min (get_or P i 0 + 1) last_word
      → v ≡ over_span ws w (get_or P i 0) e → Seen ws P v (i + 1)
  seen_more {w} {i = i} {e = e} W N h is-e is-v =
      let p = get_or P i 0 in
      let f : p ≤ last_word = omega (arith, W.fits i) in
      let up = rw (drop-cons P i 0 h) at N.left in
      rw is-v (record {
        reached = reached_over ws (is_in (take i P)) w S N.reached p up.0 f (is_in (take (i + 1) P)) e (omega arith) (omega arith)
            (λ q l. rw (add-one i, take-suc P i 0 h, in_append (take i P) (p ∷ []) q, single p q e l is-e));
        left = rw (add-one i) (ascends_weaken (suc p) e (drop (suc i) P) (omega arith) up.1);
        within = omega arith;
      })

  pub seen_end : {w : Walk} {i : ℕ} → Words ws → Seen ws P w i → length P ≤ i
      → (report_until (pairs_left ws w) w last_word).report ≡ report_of (missing (intervals_of ws) P)
  seen_end {w} {i} W N h = reached_end ws (is_in (take i P)) w P W S N.reached (λ p l. rw (take_all i P h))

-- ---- the extra ones

-- after i of the positions: the report is theirs, and no pair that is passed ends above one of the others
pub record Sorted (ws P : List ℕ) (report : PositionMismatch) (pair i : ℕ) : Type 0 where
  pub shown : report ≡ report_of (extra (intervals_of ws) (take i P))
  pub passed : (k : ℕ) → k < pair → (p : ℕ) → is_in (drop i P) p ≡ true → finish ws k ≤ p
  pub left : Ascends 0 (drop i P)
  pub within : i ≤ length P

module _ {ws P : List ℕ} (S : Sound ws) where
  pub sorted_start : Ascends 0 P → Sorted ws P (report_of []) 0 0
  unfolding extra keep
  sorted_start a = record { shown = refl; passed = λ k h p e. absurd (omega arith); left = a; within = omega arith }

  module _ {report : PositionMismatch} {pair i r : ℕ} {t : Bool} (N : Sorted ws P report pair i) (h : i < length P)
      (F : FirstPast ws pair (get_or P i 0) r) (is-t : t ≡ ltb r (length ws / 2) && leb (start ws r) (get_or P i 0)) where
    abbrev p : ℕ
    p = get_or P i 0

    here : is_in (drop i P) p ≡ true
    unfolding is_in
    here = rw (drop-cons P i 0 h, eq-eqb p p refl)

    behind : (k : ℕ) → k < r → finish ws k ≤ p
    behind k l = elim (dec_lt k pair) [
      | yes u ↦ N.passed k u p here
      | no u ↦ F.passed k (omega arith) l
    ]

    held : holds (intervals_of ws) p ≡ t
    held = held_at ws r p S.canonical behind F.found ∙ sym is-t

    next : extra (intervals_of ws) (take (i + 1) P) ≡ extra (intervals_of ws) (take i P) ++ keep (λ q. not (holds (intervals_of ws) q)) (p ∷ [])
    unfolding extra
    next = rw (add-one i, take-suc P i 0 h) (keep_append (λ q. not (holds (intervals_of ws) q)) (take i P) (p ∷ []))

    ahead : Ascends (suc p) (drop (i + 1) P)
    ahead = rw (add-one i) (rw (drop-cons P i 0 h) at N.left).1

    sorted_next : (report' : PositionMismatch) → report' ≡ report_of (extra (intervals_of ws) (take (i + 1) P)) → Sorted ws P report' r (i + 1)
    sorted_next report' e = record {
      shown = e;
      passed = λ k l q m. omega (arith, behind k l, ascends_member (suc p) (drop (i + 1) P) q ahead m);
      left = ascends_weaken (suc p) 0 (drop (i + 1) P) (omega arith) ahead;
      within = omega arith;
    }

    pub sorted_held : t ≡ true → Sorted ws P report r (i + 1)
    unfolding keep
    sorted_held e = sorted_next report (N.shown ∙ ap report_of (sym (next ∙ rw (held, e, append-nil))))

    few : length (extra (intervals_of ws) (take i P)) ≤ i
    unfolding extra
    few = omega (arith, keep_parts (λ q. not (holds (intervals_of ws) q)) (take i P), length-take-le i P (omega arith))

    pub sorted_extra : {report' : PositionMismatch} → t ≡ false → length P ≤ last_word → report' ≡ with_run report p 1 → Sorted ws P report' r (i + 1)
    unfolding keep count_up
    sorted_extra {report'} e l is =
        sorted_next report'
        (is ∙ ap (λ (x : PositionMismatch). with_run x p 1) N.shown
        ∙ run_report (extra (intervals_of ws) (take i P)) p 1 (omega (arith, few))
        ∙ ap report_of (sym (next ∙ rw (held, e))))

  pub sorted_end : {report : PositionMismatch} {pair i : ℕ} → Sorted ws P report pair i → length P ≤ i → report ≡ report_of (extra (intervals_of ws) P)
  sorted_end {i = i} N h = N.shown ∙ rw (take_all i P h)
