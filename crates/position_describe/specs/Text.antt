-- The text of a report, and the answer of `describe`. Definitions only. Assumes nothing.
use Rattle.std.specs.Prelude.{ℕ, cond, List, [], ◌∷◌, ◌++◌, length, take, drop, ltb, Ok, Err}
use Rattle.lent_text.specs.Text.{decimal}
use Rattle.item_check.specs.Checks.{Answer, refused}
use Rattle.position_report.specs.declared.PositionMismatch.{PositionMismatch}
use Rattle.position_report.specs.Reports.{most_reported}

-- 01 m6.13: " positions"
abbrev pub positions_word : List ℕ
positions_word = 32 ∷ 112 ∷ 111 ∷ 115 ∷ 105 ∷ 116 ∷ 105 ∷ 111 ∷ 110 ∷ 115 ∷ []

-- 01 m6.13: ", first "
abbrev pub first_word : List ℕ
first_word = 44 ∷ 32 ∷ 102 ∷ 105 ∷ 114 ∷ 115 ∷ 116 ∷ 32 ∷ []

-- 01 m6.13: the Rust's text: the first form, with the number of examples, where the total is above it
unfoldable pub first_part : ℕ → ℕ → List ℕ
first_part total count = cond (ltb count total) (first_word ++ decimal count) []

-- 01 m6.13: numbers with ", " between

unfoldable pub later_numbers : List ℕ → List ℕ
later_numbers [] = []
later_numbers (p ∷ P) = (44 ∷ 32 ∷ decimal p) ++ later_numbers P

unfoldable pub numbers : List ℕ → List ℕ
numbers [] = []
numbers (p ∷ P) = decimal p ++ later_numbers P

-- 01 m6.13, reading A21: unused example places are not read
abbrev pub numbers_of : PositionMismatch → List ℕ
numbers_of report = numbers (take report.count report.examples)

-- 01 m6.13: `describe` writes the Rust's text: total, positions, perhaps how many are shown, then ": [" the examples "]"
abbrev pub text_of : PositionMismatch → List ℕ
text_of report =
    decimal report.total.0
    ++ (positions_word ++ (first_part report.total.0 report.count ++ ((58 ∷ 32 ∷ 91 ∷ []) ++ (numbers_of report ++ (93 ∷ [])))))

-- 01 m6.13: 394 bytes at most
abbrev pub most_text : ℕ
most_text = 394

-- 01 no.1, no.6: report with over 16 examples; 0 and 0. Reading A21: then 6 if the text itself is longer than the lent bytes
abbrev pub refused_with : ℕ → Answer ℕ
refused_with number = refused number 0 0

abbrev pub describe_answer : PositionMismatch → ℕ → Answer ℕ
describe_answer report room =
    cond (ltb most_reported report.count) (refused_with 1)
    (cond (ltb room (length (text_of report))) (refused_with 6) (Ok (length (text_of report))))

-- 01 demand.1: the bytes then: the text and what stood past it, or all as they were
abbrev pub described_in : Answer ℕ → PositionMismatch → List ℕ → List ℕ
described_in (Ok n) report out = text_of report ++ drop (length (text_of report)) out
described_in (Err r) report out = out
