-- Each law that a caller cites, in the order of specs/: what it is to be accepted, what the planner's plans are, and how the two calls join with
-- each other and with `missing_from_spans`. No contract cites this file. Assumes nothing.
use Rattle.std.specs.Prelude.{Ok, Err}
use Prim.Native.Nat.{ℕ, suc, ◌+◌, ◌-◌, ◌*◌, ◌/◌, ◌%◌, ◌≤◌}
use mathlib.Core.Path.{◌≡◌, refl, sym, ap, ◌∙◌}
use mathlib.Core.Logic.{◌↔◌}
use mathlib.Core.Bool.{Bool, true, false, not, ◌&&◌, false≢true}
use mathlib.Core.List.{List, [], ◌∷◌, ◌++◌}
use native.Mathlib.Decide.{dec_lt}
use native.Mathlib.Omega.{arith}
use lib.ListN.{length, take, drop}
use lib.Seq.{sets-eq, take_at}
use borrow.Author.Tests.{le-leb, eq-eqb, lt-ltb, le-ltb}
use Rattle.key_order.proofs.Impossible.{impossible}
use Rattle.intervals.specs.Intervals.{Interval, holds}
use Rattle.intervals.proofs.Model.{Above}
use Rattle.intervals.proofs.Laws.{All}
use Rattle.item_check.specs.Checks.{Answer, refusal, accepted}
use Rattle.item_check.proofs.Laws.{answers}
use Rattle.item_check.proofs.Laws.{accepts as both}
use Rattle.pairs_sort.specs.Pairs.{flat_pairs}
use Rattle.pairs_sort.proofs.Laws.{pairs_length, length_flat}
use Rattle.position_given.specs.Given.{intervals_of, intervals_verdict}
use Rattle.position_given.specs.Positions.{positions_of, is_in}
use Rattle.position_given.proofs.Accepted.{never_accepted}
use Rattle.position_given.proofs.Fronts.{flat_intervals}
use Rattle.position_mismatch.specs.Reports.{missing, first_crossing}
use Rattle.position_given.proofs.Positions.{in_positions}
use Rattle.position_plan.specs.Plans.{accepts, plan, plan_of, asked_verdict, plan_verdict, check_verdict, room_verdict}
use Rattle.position_plan.specs.Plans.{check_answer, fitted, plan_answer, count_in, written_in, PlanRefetch}
use Rattle.position_plan.specs.Inner.{Plannable}
use Rattle.position_plan.proofs.Good.{GoodPlan, accepts_good, good_accepts}
use Rattle.position_plan.proofs.Search.{missing_is}
use Rattle.position_plan.proofs.Greedy.{plan_good, plan_fewest}
use Rattle.position_plan.proofs.Opening.{rows_ascend}
use Rattle.position_plan.proofs.Known.{plan_known}
use Rattle.position_plan.proofs.Room.{planned_room}
pub use Rattle.position_plan.proofs.Good.{GoodPlan}
use Rattle.position_plan.proofs.Turns.{planned_one}
pub use Rattle.position_plan.proofs.Turns.{last_of, plan_window}
pub use Rattle.position_plan.proofs.Room.{planned_room}

-- ---- the check

-- 02 §9.2: accepted exactly if each of its statements holds
pub accepts_exactly : (W : ℕ) (M : List ℕ) (Q : List Interval) → accepts W M Q ≡ true ↔ GoodPlan W M Q
accepts_exactly W M Q = (accepts_good W M Q, good_accepts W M Q)

-- ---- our planner

module _ (ws P : List ℕ) (W : ℕ) (K : Plannable ws P W) where
  -- 02 §9.8: its plans are always accepted
  pub planned_accepted : accepts W (missing (intervals_of ws) P) (plan_of W ws P) ≡ true
  planned_accepted = good_accepts W (missing (intervals_of ws) P) (plan_of W ws P) (plan_good W (missing (intervals_of ws) P) K.wide (rows_ascend K))

  -- windows at most W wide that contain every missing row, in whatever order, are no fewer
  pub planned_fewest : (Q : List Interval) → All (λ w. w.1 - w.0 ≤ W) Q
      → ((p : ℕ) → is_in (missing (intervals_of ws) P) p ≡ true → holds Q p ≡ true) → length (plan_of W ws P) ≤ length Q
  planned_fewest Q = plan_fewest W (missing (intervals_of ws) P) Q K.wide (rows_ascend K)

  -- so no accepted plan for the same rows and W has fewer windows
  pub accepted_fewest : (Q : List Interval) → accepts W (missing (intervals_of ws) P) Q ≡ true → length (plan_of W ws P) ≤ length Q
  accepted_fewest Q h = let G = accepts_good W (missing (intervals_of ws) P) Q h in planned_fewest Q G.narrow G.contain

-- room for so many windows is always enough: where nothing is refused before, the plan is answered
pub planned_answers : (ws P : List ℕ) (W room : ℕ) → plan_verdict ws P W ≡ accepted → length (positions_of (intervals_of ws)) / W + length ws / 2 ≤ room
    → plan_answer ws P W room ≡ Ok (plan_of W ws P)
planned_answers ws P W room h l =
    rw (h, le-ltb room (length (plan_of W ws P)) (omega (arith, planned_room ws P W (plan_known ws P W h))))

-- no window is planned exactly if no row is missing
pub planned_none : (W : ℕ) (M : List ℕ) → plan W M ≡ [] ↔ M ≡ []
planned_none W M = (there M, λ e. rw e (unfold plan in refl))
  where
    there : (M : List ℕ) → plan W M ≡ [] → M ≡ []
    there [] e = refl
    there (p ∷ M) e = let n = ap length e in absurd (omega (arith, n, planned_one W p M))

-- ---- what our planner writes, checked

-- what is known where it answers: the plan has room, and is what is written
record Answered (ws P : List ℕ) (W : ℕ) (old : List ℕ) (n : ℕ) : Type 0 where
  verdict : plan_verdict ws P W ≡ accepted
  count : n ≡ length (plan_of W ws P)
  room : length (plan_of W ws P) ≤ length old / 2
  windows : plan_answer ws P W (length old / 2) ≡ Ok (plan_of W ws P)

module _ (ws P : List ℕ) (W : ℕ) (old : List ℕ) (n : ℕ) where
  abbrev L : List Interval
  L = plan_of W ws P

  answered_as : Ok n ≡ count_in (plan_answer ws P W (length old / 2)) → Answered ws P W old n
  answered_as e = go (plan_answer ws P W (length old / 2)) refl e
    where
      fits : room_verdict (length old / 2) L ≡ accepted → length L ≤ length old / 2
      fits h = elim (dec_lt (length old / 2) (length L)) [
        | yes l ↦ never_accepted {r = refusal 6 0 0} (rw (lt-ltb (length old / 2) (length L) l) at h)
        | no l ↦ omega arith
      ]

      go : (x : Answer (List Interval)) → plan_answer ws P W (length old / 2) ≡ x → Ok n ≡ count_in x → Answered ws P W old n
      go (Err r) q e = impossible cc
      go (Ok Q) q e =
          let given = answers (plan_verdict ws P W) (fitted (length old / 2) L) Q q in
          let room = answers (room_verdict (length old / 2) L) (Ok L) Q given.1 in
          let same : L ≡ Q = let r = room.1 in cc in
          record { verdict = given.0; count = let r = same in cc; room = fits room.0; windows = q ∙ ap Ok (sym same) }

  module _ (new : List ℕ) (F : PlanRefetch ws P W old (Ok n) new) where
    known : Answered ws P W old n
    known = answered_as F.answer

    -- the first n pairs are the windows
    pub written_windows : take (2 * n) new ≡ flat_pairs L
    written_windows =
        let two : 2 * n ≡ length (flat_pairs L) = omega (arith, known.count, length_flat L) in
        let past : 0 + length (flat_pairs L) ≡ length (flat_pairs L) = omega arith in
        let whole : new ≡ flat_pairs L ++ drop (length (flat_pairs L)) old =
        F.words ∙ ap (written_in old) known.windows ∙ sets-eq (flat_pairs L) old 0 (omega (arith, known.room, length_flat L))
        ∙ ap (λ (k : ℕ). flat_pairs L ++ drop k old) past in
        rw (whole, two) (take_at (flat_pairs L) (drop (length (flat_pairs L)) old) (length (flat_pairs L)) refl)

    -- 02 §9.8: `check_plan` says yes to what `plan_refetch` writes
    pub planned_checked : check_answer ws P W (take (2 * n) new) ≡ Ok true
    planned_checked =
        let parts = (both (intervals_verdict ws) (asked_verdict P W)).0 known.verdict in
        let even : length (flat_pairs L) % 2 ≡ 0 = omega (arith, length_flat L) in
        rw (written_windows, parts.0, eq-eqb (length (flat_pairs L) % 2) 0 even, parts.1, flat_intervals L, planned_accepted ws P W (plan_known ws P W known.verdict))

    -- a plan that `check_plan` says yes to has no fewer windows than `plan_refetch` writes
    pub planned_least : (vs : List ℕ) → check_answer ws P W vs ≡ Ok true → n ≤ length vs / 2
    planned_least vs h =
        let K = plan_known ws P W known.verdict in
        let M : List ℕ = missing (intervals_of ws) P in
        let told = (answers (check_verdict ws P W vs) (Ok (accepts W M (intervals_of vs))) true h).1 in
        let yes : accepts W M (intervals_of vs) ≡ true = cc in
        omega (arith, known.count, accepted_fewest ws P W K (intervals_of vs) yes, pairs_length vs (length vs / 2) 0)

-- ---- accepted plans, and `missing_from_spans`

above_spans : (i e : ℕ) (Q : List Interval) → Above e Q → first_crossing i e Q ≡ accepted
unfolding first_crossing
above_spans i e [] a = refl
above_spans i e (w ∷ Q) a = rw (le-leb e w.0 a.0, le-leb w.0 w.1 (omega (arith, a.1))) (above_spans (suc i) w.1 Q a.2)

-- an accepted plan's windows are accepted as spans, and what they leave missing is proved: once they are fetched nothing is missing
module _ (ws P : List ℕ) (W : ℕ) (Q : List Interval) (h : accepts W (missing (intervals_of ws) P) Q ≡ true) where
  pub accepted_spans : first_crossing 0 0 Q ≡ accepted
  accepted_spans = above_spans 0 0 Q (accepts_good W (missing (intervals_of ws) P) Q h).ascend

  pub accepted_fetched : (p : ℕ) → is_in (missing (intervals_of ws) (positions_of Q)) p ≡ true → is_in P p ≡ true
  accepted_fetched p e = go (holds (intervals_of ws) p) (is_in P p) refl refl (sym (missing_is ws (positions_of Q) p) ∙ e)
    where
      go : (t u : Bool) → holds (intervals_of ws) p ≡ t → is_in P p ≡ u → t && not (is_in (positions_of Q) p) ≡ true → is_in P p ≡ true
      go true true a b c = b
      go true false a b c =
          let lost : is_in (missing (intervals_of ws) P) p ≡ true = missing_is ws P p ∙ rw (a, b) in
          let held = (accepts_good W (missing (intervals_of ws) P) Q h).contain p lost in
          absurd (false≢true (sym (rw (in_positions Q p, held)) ∙ c))
      go false u a b c = absurd (false≢true c)
