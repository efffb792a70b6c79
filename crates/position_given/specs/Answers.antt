-- Answers that several calls on intervals have: how many rows are covered, and what a stored list has. Definitions only. Assumes nothing.
use Rattle.item_check.specs.declared.Refusal.{Refusal}
use Rattle.std.specs.Prelude.{ℕ, List, Ok, Err, Result}
use Rattle.intervals.specs.Intervals.{Interval}
use Rattle.item_check.specs.Checks.{Answer, and_then}
use Rattle.position_given.specs.declared.RowCount.{RowCount}
use Rattle.position_given.specs.declared.Stored.{Stored}
use Rattle.position_given.specs.Given.{canonical_verdict}
use Rattle.position_given.specs.Positions.{rows_of}

-- 01 m6.9: the number covered, of intervals that are canonical
abbrev pub rows_answer : List Interval → Answer ℕ
rows_answer A = and_then (canonical_verdict A) (Ok (rows_of A))

-- 01 form.11: the answers that the code gives, with the numbers that their values stand for

abbrev pub length_of : Result RowCount Refusal → Answer ℕ
length_of (Ok n) = Ok n.0
length_of (Err r) = Err r

-- 02 §4.1: how many pairs a stored list has, and the total beside it
abbrev pub stored_of : Result Stored Refusal → Answer (ℕ × ℕ)
stored_of (Ok s) = Ok (s.pairs, s.rows.0)
stored_of (Err r) = Err r
