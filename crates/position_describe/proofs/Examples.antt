-- Both forms of the text, by computation. Assumes nothing.
use mathlib.Core.Path.{◌≡◌, refl}
use mathlib.Core.List.{[], ◌∷◌}
use Rattle.position_report.specs.Reports.{report_of}
use Rattle.lent_text.specs.Text.{digits}
use Rattle.position_describe.specs.Text.{first_part, later_numbers, numbers, text_of}

-- "2 positions: [7, 10]"
all_shown : text_of (report_of (7 ∷ 10 ∷ [])) ≡ 50 ∷ 32 ∷ 112 ∷ 111 ∷ 115 ∷ 105 ∷ 116 ∷ 105 ∷ 111 ∷ 110 ∷ 115 ∷ 58 ∷ 32 ∷ 91 ∷ 55 ∷ 44 ∷ 32 ∷ 49 ∷ 48 ∷ 93 ∷ []
unfolding digits first_part later_numbers numbers report_of
all_shown = refl

-- "18 positions, first 16: [1, 2, 3, 4, 5, 6, 7, 8, 9, 10, 11, 12, 13, 14, 15, 16]"
some_shown :
    text_of (report_of (1 ∷ 2 ∷ 3 ∷ 4 ∷ 5 ∷ 6 ∷ 7 ∷ 8 ∷ 9 ∷ 10 ∷ 11 ∷ 12 ∷ 13 ∷ 14 ∷ 15 ∷ 16 ∷ 17 ∷ 18 ∷ []))
    ≡ 49 ∷ 56 ∷ 32 ∷ 112 ∷ 111 ∷ 115 ∷ 105 ∷ 116 ∷ 105 ∷ 111 ∷ 110 ∷ 115 ∷ 44 ∷ 32 ∷ 102 ∷ 105 ∷ 114 ∷ 115 ∷ 116 ∷ 32 ∷ 49 ∷ 54 ∷ 58 ∷ 32 ∷ 91 ∷ 49
    ∷ 44 ∷ 32 ∷ 50 ∷ 44 ∷ 32 ∷ 51 ∷ 44 ∷ 32 ∷ 52 ∷ 44 ∷ 32 ∷ 53 ∷ 44 ∷ 32 ∷ 54 ∷ 44 ∷ 32 ∷ 55 ∷ 44 ∷ 32 ∷ 56 ∷ 44 ∷ 32 ∷ 57 ∷ 44 ∷ 32
    ∷ 49 ∷ 48 ∷ 44 ∷ 32 ∷ 49 ∷ 49 ∷ 44 ∷ 32 ∷ 49 ∷ 50 ∷ 44 ∷ 32 ∷ 49 ∷ 51 ∷ 44 ∷ 32 ∷ 49 ∷ 52 ∷ 44 ∷ 32 ∷ 49 ∷ 53 ∷ 44 ∷ 32 ∷ 49 ∷ 54
    ∷ 93 ∷ []
unfolding digits first_part later_numbers numbers report_of
some_shown = refl

-- "0 positions: []"
none_shown : text_of (report_of []) ≡ 48 ∷ 32 ∷ 112 ∷ 111 ∷ 115 ∷ 105 ∷ 116 ∷ 105 ∷ 111 ∷ 110 ∷ 115 ∷ 58 ∷ 32 ∷ 91 ∷ 93 ∷ []
unfolding digits first_part later_numbers numbers report_of
none_shown = refl
