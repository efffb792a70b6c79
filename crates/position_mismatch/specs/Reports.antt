-- Which covered and proved positions are missing, extra and present; the check of spans; the answers of the calls that compare. Definitions
-- only. Assumes nothing.
use Rattle.std.specs.Prelude.{ℕ, suc, ◌≡◌, List, [], ◌∷◌, cond, not, ◌&&◌, leb, Ok, Err}
use Rattle.intervals.specs.Lists.{keep}
use Rattle.intervals.specs.Intervals.{Interval, holds}
use Rattle.item_check.specs.Checks.{Answer, refused, Verdict, accepted, and_then}
use Rattle.position_given.specs.Given.{intervals_of, intervals_verdict, proved_verdict}
use Rattle.position_given.specs.Positions.{positions_of, is_in}
use Rattle.position_report.specs.declared.PositionMismatch.{PositionMismatch}
use Rattle.position_report.specs.Reports.{report_of}
use Rattle.position_mismatch.specs.declared.Compared.{Compared}

-- ---- positions

-- 01 m6.10: missing: covered and not proved
unfoldable pub missing : List Interval → List ℕ → List ℕ
missing A proved = keep (λ p. not (is_in proved p)) (positions_of A)

-- 01 m6.10: extra: proved and not covered
unfoldable pub extra : List Interval → List ℕ → List ℕ
extra A proved = keep (λ p. not (holds A p)) proved

-- 01 m6.12: present counts positions that are in both
unfoldable pub present : List Interval → List ℕ → List ℕ
present A proved = keep (is_in proved) (positions_of A)

-- ---- the check of spans

-- 01 no.8, refusal.3, refusal.4: spans with start > end or start below the previous end, e; reading A18: empty and touching ones are accepted
unfoldable pub first_crossing : ℕ → ℕ → List Interval → Verdict
first_crossing i e [] = accepted
first_crossing i e (a ∷ S) = cond (leb e a.0 && leb a.0 a.1) (first_crossing (suc i) a.1 S) (refused 8 1 i)

abbrev pub spans_verdict : List ℕ → List Interval → Verdict
spans_verdict ws spans = and_then (intervals_verdict ws) (first_crossing 0 0 spans)

-- ---- answers (01 m6.10, refusal.6)

abbrev pub missing_answer : List ℕ → List ℕ → Answer PositionMismatch
missing_answer ws proved = and_then (proved_verdict ws proved) (Ok (report_of (missing (intervals_of ws) proved)))

abbrev pub extra_answer : List ℕ → List ℕ → Answer PositionMismatch
extra_answer ws proved = and_then (proved_verdict ws proved) (Ok (report_of (extra (intervals_of ws) proved)))

-- 01 m6.11: `missing_from_spans` gives what the spanned positions would give
abbrev pub spans_answer : List ℕ → List Interval → Answer PositionMismatch
spans_answer ws spans = and_then (spans_verdict ws spans) (Ok (report_of (missing (intervals_of ws) (positions_of spans))))

-- 01 form.11: what the code answers: the report, or the check's refusal
abbrev pub compared_of : Compared → Answer PositionMismatch
compared_of r = and_then r.checked (Ok r.report)

-- 01 form.4: the report that stands in an answer: the empty one where the call is refused
abbrev pub report_in : Answer PositionMismatch → PositionMismatch
report_in (Ok report) = report
report_in (Err r) = report_of []

-- 01 m6.10, form.4, form.11: what a call that compares gives: the answer, and the report that stands in it
pub record GivesCompared (r : Compared) (a : Answer PositionMismatch) : Type 0 where
  pub answer : compared_of r ≡ a
  pub report : r.report ≡ report_in a
