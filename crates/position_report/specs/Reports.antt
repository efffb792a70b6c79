-- The reports of positions that are off. Definitions only. Assumes nothing.
use Rattle.std.specs.Prelude.{ℕ, ◌-◌, min, List, ◌++◌, length, take, replicate}
use Rattle.position_report.specs.declared.PositionMismatch.{PositionMismatch}

-- 01 m6.10, form.4: at most `MAX_REPORTED_POSITIONS`, which belongs to the report and is 16
abbrev pub most_reported : ℕ
most_reported = 16

-- 01 m6.10: a report of three parts: the total, how many examples there are, and their places
abbrev pub report_at : ℕ → ℕ → List ℕ → PositionMismatch
report_at total count examples = record { total = record { 0 = total }; count = count; examples = examples }

-- 01 m6.10: the exact total and the smallest offenders, of a list that has them in rising order; unused places are 0
unfoldable pub report_of : List ℕ → PositionMismatch
report_of offenders =
    report_at (length offenders) (min most_reported (length offenders)) (take most_reported offenders ++ replicate (most_reported - length offenders) 0)
