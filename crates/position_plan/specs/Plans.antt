-- Plans for the refetch of missing rows: which plans the check accepts, and the plan that ours proposes. A plan is a list of windows, half-open
-- intervals of rows; W is the most rows that the log service returns a call (02 §9.1). Definitions only. Assumes nothing.
use Rattle.std.specs.Prelude.{ℕ, suc, ◌+◌, ◌-◌, ◌/◌, ◌≡◌, Bool, true, cond, ◌&&◌, List, [], ◌∷◌, length, leb, ltb, eqb, Ok, Err}
use Rattle.std.proofs.lemmas.List.Edits.{sets}
use Rattle.intervals.specs.Intervals.{Interval, holds}
use Rattle.item_check.specs.Checks.{Answer, refused, Verdict, accepted, and_then}
use Rattle.pairs_sort.specs.Pairs.{flat_pairs}
use Rattle.position_given.specs.Given.{intervals_of, even_verdict, intervals_verdict, ascending_verdict}
use Rattle.position_given.specs.Positions.{is_in}
use Rattle.position_mismatch.specs.Reports.{missing}

-- ---- the check. M has the missing rows

-- 02 §9.3, §9.4: windows ascend without touching each other's rows, and each is nonempty; reading B15: a window may start at the end of the one
-- before it, e, which is past that one's last row
unfoldable pub ascending : ℕ → List Interval → Bool
ascending e [] = true
ascending e (w ∷ plan) = leb e w.0 && ltb w.0 w.1 && ascending w.1 plan

-- 02 §9.4: at most W wide
abbrev pub narrow : ℕ → Interval → Bool
narrow W w = leb (w.1 - w.0) W

-- 02 §9.5: it begins on a missing row
abbrev pub begins : List ℕ → Interval → Bool
begins M w = is_in M w.0

-- 02 §9.5: it ends on a missing row: its last row is the one before its end
abbrev pub ends : List ℕ → Interval → Bool
ends M w = is_in M (w.1 - 1)

-- 02 §9.4, §9.5, §9.6: each one of a list, each window or every row
unfoldable pub each : {A : Type 0} → (A → Bool) → List A → Bool
each f [] = true
each f (a ∷ L) = f a && each f L

-- 02 §9.2, §9.6: the check accepts a plan exactly if all of this holds, and its windows together contain every missing row
abbrev pub accepts : ℕ → List ℕ → List Interval → Bool
accepts W M plan = ascending 0 plan && each (narrow W) plan && each (begins M) plan && each (ends M) plan && each (holds plan) M

-- ---- our planner

-- 02 §9.7: the window that is open begins at s, and its last missing row so far is the one before e. It takes the next missing row p where that
-- is one of the W rows from s on; else it closes, and the next one opens at p
unfoldable pub plan_from : ℕ → ℕ → ℕ → List ℕ → List Interval
plan_from W s e [] = (s, e) ∷ []
plan_from W s e (p ∷ M) = cond (ltb p (s + W)) (plan_from W s (suc p) M) ((s, e) ∷ plan_from W p (suc p) M)

-- 02 §9.7: our planner opens a window at the first missing row not yet planned and closes it at the last missing row within W
unfoldable pub plan : ℕ → List ℕ → List Interval
plan W [] = []
plan W (p ∷ M) = plan_from W p (suc p) M

-- 02 §9.1: the plan for what intervals cover and is not proved
abbrev pub plan_of : ℕ → List ℕ → List ℕ → List Interval
plan_of W ws proved = plan W (missing (intervals_of ws) proved)

-- ---- refusals

-- 02 §9.9: 16 (0 and 0) when W is 0
abbrev pub width_verdict : ℕ → Verdict
width_verdict W = cond (eqb W 0) (refused 16 0 0) accepted

-- 02 §9.9: 8 as before, then 16
abbrev pub asked_verdict : List ℕ → ℕ → Verdict
asked_verdict proved W = and_then (ascending_verdict proved) (width_verdict W)

-- 02 §9.9: 9 as before, and before 8
abbrev pub plan_verdict : List ℕ → List ℕ → ℕ → Verdict
plan_verdict ws proved W = and_then (intervals_verdict ws) (asked_verdict proved W)

-- 02 §9.9, 01 no.1, refusal.6, reading B16: the windows of a plan that is given are side 1: odd words are 1, after all of the intervals, before 8
abbrev pub check_verdict : List ℕ → List ℕ → ℕ → List ℕ → Verdict
check_verdict ws proved W windows = and_then (intervals_verdict ws) (and_then (even_verdict 1 windows) (asked_verdict proved W))

-- 02 §9.9: 6 exactly if the planner's windows don't fit; room counts pairs
abbrev pub room_verdict : ℕ → List Interval → Verdict
room_verdict room windows = cond (ltb room (length windows)) (refused 6 0 0) accepted

-- ---- answers

-- 02 §9.2, §9.9: a plan that is not accepted is answered no
abbrev pub check_answer : List ℕ → List ℕ → ℕ → List ℕ → Answer Bool
check_answer ws proved W windows =
    and_then (check_verdict ws proved W windows) (Ok (accepts W (missing (intervals_of ws) proved) (intervals_of windows)))

-- 02 §9.9: the windows, where they have room
abbrev pub fitted : ℕ → List Interval → Answer (List Interval)
fitted room windows = and_then (room_verdict room windows) (Ok windows)

-- 02 §9.7, §9.9: what our planner answers
abbrev pub plan_answer : List ℕ → List ℕ → ℕ → ℕ → Answer (List Interval)
plan_answer ws proved W room = and_then (plan_verdict ws proved W) (fitted room (plan_of W ws proved))

-- 02 §9.7: how many windows it has written
abbrev pub count_in : Answer (List Interval) → Answer ℕ
count_in (Ok windows) = Ok (length windows)
count_in (Err r) = Err r

-- 02 §9.7, 01 refusal.5: what is lent has the windows as its first pairs; later words stay, and all of them where the call is refused
abbrev pub written_in : List ℕ → Answer (List Interval) → List ℕ
written_in old (Ok windows) = sets old 0 (flat_pairs windows)
written_in old (Err r) = old

-- 02 §9.7, §9.9: the answer of `plan_refetch`, and what it leaves in the words that are lent: old before, new after
pub record PlanRefetch (ws proved : List ℕ) (W : ℕ) (old : List ℕ) (r : Answer ℕ) (new : List ℕ) : Type 0 where
  pub answer : r ≡ count_in (plan_answer ws proved W (length old / 2))
  pub words : new ≡ written_in old (plan_answer ws proved W (length old / 2))
