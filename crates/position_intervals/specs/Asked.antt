-- The answers of the calls that ask of intervals. Definitions only. Assumes nothing.
use Rattle.std.specs.Prelude.{ℕ, List, Bool, eqb, Ok}
use Rattle.intervals.specs.Intervals.{holds}
use Rattle.item_check.specs.Checks.{Answer, and_then}
use Rattle.position_given.specs.Given.{intervals_of, intervals_verdict}
use Rattle.position_given.specs.Positions.{rows_of}

-- ---- answers (01 m6.8)

abbrev pub contains_answer : List ℕ → ℕ → Answer Bool
contains_answer ws p = and_then (intervals_verdict ws) (Ok (holds (intervals_of ws) p))

-- 01 m6.9: `len` is the number covered
abbrev pub len_answer : List ℕ → Answer ℕ
len_answer ws = and_then (intervals_verdict ws) (Ok (rows_of (intervals_of ws)))

abbrev pub is_empty_answer : List ℕ → Answer Bool
is_empty_answer ws = and_then (intervals_verdict ws) (Ok (eqb (rows_of (intervals_of ws)) 0))
