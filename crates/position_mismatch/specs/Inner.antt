-- What private and inner functions require and promise: the walks. No public call is promised by these. Definitions only.
-- It serves 01 m6.10, m6.11, form.9. Assumes nothing.
use Rattle.std.specs.Prelude.{ℕ, ◌+◌, ◌-◌, ◌/◌, ◌≤◌, ◌<◌, min, max, cond, ◌&&◌, List, [], ◌∷◌, length, leb, ltb, Ok, Err}
use Rattle.intervals.specs.Intervals.{Interval}
use Rattle.item_check.specs.Checks.{Answer, refused, Verdict, accepted}
use Rattle.pairs_sort.specs.Pairs.{finish, pairs_from}
use Rattle.position_given.specs.Given.{intervals_verdict}
use Rattle.position_given.specs.Inner.{last_word}
use Rattle.position_report.specs.declared.PositionMismatch.{PositionMismatch}
use Rattle.position_report.specs.Reports.{report_of}
use Rattle.position_report.specs.Inner.{with_run}
use Rattle.position_mismatch.specs.Reports.{report_in}
use Rattle.position_mismatch.specs.declared.Walk.{Walk}
use Rattle.position_mismatch.specs.declared.SpanWalk.{SpanWalk}
use Rattle.position_mismatch.specs.declared.Compared.{Compared}

-- ---- a walk along the intervals: all positions below `from` are dealt with, and the pairs before `pair` are passed

abbrev pub walk_at : ℕ → ℕ → PositionMismatch → Walk
walk_at i x r = record { pair = i; from = x; report = r }

-- what an interval has from w's place on, below `to`, added to w's report
abbrev pub with_gap : Interval → Walk → ℕ → PositionMismatch
with_gap a w to = with_run w.report (max a.0 w.from) (min a.1 to - max a.0 w.from)

-- what the intervals, the pairs from w's on, have below `to` is reported
unfoldable pub report_until : List Interval → Walk → ℕ → Walk
report_until [] w to = w
report_until (a ∷ A) w to =
    cond (ltb to a.1) (walk_at w.pair w.from (with_gap a w to)) (report_until A (walk_at (w.pair + 1) w.from (with_gap a w to)) to)

abbrev pub pairs_left : List ℕ → Walk → List Interval
pairs_left ws w = pairs_from ws w.pair (length ws / 2 - w.pair)

-- what stands below a span's start is reported, and its own positions are passed over
abbrev pub over_span : List ℕ → Walk → ℕ → ℕ → Walk
over_span ws w s e = walk_at (report_until (pairs_left ws w) w s).pair e (report_until (pairs_left ws w) w s).report

-- ---- the first pair, from pair i on, that ends above p

pub record FirstPast (ws : List ℕ) (i p r : ℕ) : Type 0 where
  pub after : i ≤ r
  pub passed : (k : ℕ) → i ≤ k → k < r → finish ws k ≤ p
  pub found : r < length ws / 2 → p < finish ws r

-- ---- the walk over spans, a step at a time

abbrev pub start_of : List ℕ → SpanWalk
start_of ws = record { checked = intervals_verdict ws; seen = 0; walk = walk_at 0 0 (report_of []) }

-- a span that starts below the end of the one before it, or above its own, is refused with its index; another is passed over
abbrev pub step_on : List ℕ → SpanWalk → ℕ → ℕ → SpanWalk
step_on ws w s e =
    cond (leb w.walk.from s && leb s e)
    (record { checked = accepted; seen = min (w.seen + 1) last_word; walk = over_span ws w.walk s e })
    (record { checked = refused 8 1 w.seen; seen = w.seen; walk = w.walk })

-- once refused, it stays so
abbrev pub step_from : Verdict → List ℕ → SpanWalk → ℕ → ℕ → SpanWalk
step_from (Ok u) ws w s e = step_on ws w s e
step_from (Err r) ws w s e = w

abbrev pub step_of : List ℕ → SpanWalk → ℕ → ℕ → SpanWalk
step_of ws w s e = step_from w.checked ws w s e

unfoldable pub steps_of : List ℕ → SpanWalk → List Interval → SpanWalk
steps_of ws w [] = w
steps_of ws w (a ∷ S) = steps_of ws (step_of ws w a.0 a.1) S

-- what is left of the intervals is reported; the empty report where something is refused
abbrev pub report_from : Verdict → List ℕ → Walk → PositionMismatch
report_from (Ok u) ws w = (report_until (pairs_left ws w) w last_word).report
report_from (Err r) ws w = report_of []

abbrev pub finish_of : List ℕ → SpanWalk → Compared
finish_of ws w = record { checked = w.checked; report = report_from w.checked ws w.walk }

-- ---- an answer and the report that stands in it

abbrev pub verdict_in : Answer PositionMismatch → Verdict
verdict_in (Ok report) = accepted
verdict_in (Err r) = Err r

abbrev pub compared : Answer PositionMismatch → Compared
compared a = record { checked = verdict_in a; report = report_in a }
