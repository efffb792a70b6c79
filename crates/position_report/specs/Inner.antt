-- What private and inner functions promise: reports that grow. No public call is promised by these. Definitions only.
-- It serves 01 m6.10, m6.11. Assumes nothing.
use Rattle.std.specs.Prelude.{ℕ, ◌+◌, ◌-◌, min}
use Rattle.std.proofs.lemmas.List.Edits.{sets}
use Rattle.position_given.specs.Positions.{count_up}
use Rattle.position_given.specs.Inner.{last_word}
use Rattle.position_report.specs.declared.PositionMismatch.{PositionMismatch}
use Rattle.position_report.specs.Reports.{most_reported, report_at}

-- a report with a run of positions added, width of them from `from` on: as many examples as there are places
unfoldable pub with_run : PositionMismatch → ℕ → ℕ → PositionMismatch
with_run r from width =
    report_at (min (r.total.0 + width) last_word) (r.count + min (most_reported - r.count) width)
    (sets r.examples r.count (count_up from (min (most_reported - r.count) width)))
