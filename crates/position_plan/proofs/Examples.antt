-- Worked examples of the definitions. Assumes nothing.
use Rattle.std.specs.Prelude.{Ok}
use mathlib.Core.Path.{◌≡◌, refl}
use mathlib.Core.Bool.{true, false}
use mathlib.Core.List.{[], ◌∷◌}
use Rattle.intervals.specs.Lists.{keep}
use Rattle.intervals.specs.Intervals.{inside, holds}
use Rattle.item_check.specs.Checks.{refused}
use Rattle.pairs_sort.specs.Pairs.{pairs_from}
use Rattle.position_given.specs.Given.{canonical_verdict, first_touching, ascending_verdict, first_falling}
use Rattle.position_given.specs.Positions.{count_up, positions_of, is_in}
use Rattle.position_mismatch.specs.Reports.{missing}
use Rattle.position_plan.specs.Plans.{ascending, each, accepts, plan_from, plan, plan_answer, check_answer}

-- ---- our planner

-- rows 0 to 9 but for 3 and 4, at most 4 a window: a window takes 0, 1, 2, the next ones open at 5 and at 9
windows_of_four : plan 4 (missing ((0, 10) ∷ []) (3 ∷ 4 ∷ [])) ≡ (0, 3) ∷ (5, 9) ∷ (9, 10) ∷ []
unfolding plan plan_from missing keep is_in positions_of count_up
windows_of_four = refl

-- a window reaches over rows that are not missing, and may end inside a run: 0, 1 and 3 share one
windows_over : plan 4 (missing ((0, 2) ∷ (3, 6) ∷ []) []) ≡ (0, 4) ∷ (4, 6) ∷ []
unfolding plan plan_from missing keep is_in positions_of count_up
windows_over = refl

-- windows may touch: one run, cut in two
windows_touch : plan 5 (missing ((0, 10) ∷ []) []) ≡ (0, 5) ∷ (5, 10) ∷ []
unfolding plan plan_from missing keep is_in positions_of count_up
windows_touch = refl

nothing_missing : plan 1 (missing ((2, 4) ∷ []) (2 ∷ 3 ∷ [])) ≡ []
unfolding plan plan_from missing keep is_in positions_of count_up
nothing_missing = refl

-- ---- the check: the rows 0, 1, 2 and 5 to 9, at most 4 a window

-- not ours, and accepted
other_plan : accepts 4 (0 ∷ 1 ∷ 2 ∷ 5 ∷ 6 ∷ 7 ∷ 8 ∷ 9 ∷ []) ((0, 3) ∷ (5, 7) ∷ (7, 10) ∷ []) ≡ true
unfolding ascending each is_in holds inside
other_plan = refl

-- row 8 in two windows
shared_row : accepts 4 (0 ∷ 1 ∷ 2 ∷ 5 ∷ 6 ∷ 7 ∷ 8 ∷ 9 ∷ []) ((0, 3) ∷ (5, 9) ∷ (8, 10) ∷ []) ≡ false
unfolding ascending each is_in holds inside
shared_row = refl

-- an empty window
empty_window : accepts 4 (0 ∷ 1 ∷ 2 ∷ 5 ∷ 6 ∷ 7 ∷ 8 ∷ 9 ∷ []) ((0, 3) ∷ (5, 5) ∷ (5, 9) ∷ (9, 10) ∷ []) ≡ false
unfolding ascending each is_in holds inside
empty_window = refl

-- five rows
too_wide : accepts 4 (0 ∷ 1 ∷ 2 ∷ 5 ∷ 6 ∷ 7 ∷ 8 ∷ 9 ∷ []) ((0, 3) ∷ (5, 10) ∷ []) ≡ false
unfolding ascending each is_in holds inside
too_wide = refl

-- row 4 is not missing
begins_off : accepts 4 (0 ∷ 1 ∷ 2 ∷ 5 ∷ 6 ∷ 7 ∷ 8 ∷ 9 ∷ []) ((0, 3) ∷ (4, 8) ∷ (8, 10) ∷ []) ≡ false
unfolding ascending each is_in holds inside
begins_off = refl

-- row 3 is not missing
ends_off : accepts 4 (0 ∷ 1 ∷ 2 ∷ 5 ∷ 6 ∷ 7 ∷ 8 ∷ 9 ∷ []) ((0, 4) ∷ (5, 9) ∷ (9, 10) ∷ []) ≡ false
unfolding ascending each is_in holds inside
ends_off = refl

-- row 9 is in no window
row_left_out : accepts 4 (0 ∷ 1 ∷ 2 ∷ 5 ∷ 6 ∷ 7 ∷ 8 ∷ 9 ∷ []) ((0, 3) ∷ (5, 9) ∷ []) ≡ false
unfolding ascending each is_in holds inside
row_left_out = refl

-- ---- refusals

-- 9 before 8, 8 before 16, 16 before 6

touching_first : plan_answer (0 ∷ 2 ∷ 2 ∷ 3 ∷ []) (1 ∷ 1 ∷ []) 0 0 ≡ refused 9 0 1
unfolding pairs_from canonical_verdict first_touching ascending_verdict first_falling plan plan_from missing keep is_in positions_of count_up
touching_first = refl

falling_next : plan_answer (0 ∷ 3 ∷ []) (1 ∷ 1 ∷ []) 0 0 ≡ refused 8 1 1
unfolding pairs_from canonical_verdict first_touching ascending_verdict first_falling plan plan_from missing keep is_in positions_of count_up
falling_next = refl

width_then : plan_answer (0 ∷ 3 ∷ []) (1 ∷ []) 0 0 ≡ refused 16 0 0
unfolding pairs_from canonical_verdict first_touching ascending_verdict first_falling plan plan_from missing keep is_in positions_of count_up
width_then = refl

room_last : plan_answer (0 ∷ 3 ∷ []) (1 ∷ []) 1 1 ≡ refused 6 0 0
unfolding pairs_from canonical_verdict first_touching ascending_verdict first_falling plan plan_from missing keep is_in positions_of count_up
room_last = refl

-- a plan whose words are odd in number, after the intervals and before the proved positions

odd_after_intervals : check_answer (0 ∷ 2 ∷ 2 ∷ 3 ∷ []) (1 ∷ 1 ∷ []) 0 (0 ∷ []) ≡ refused 9 0 1
unfolding pairs_from canonical_verdict first_touching ascending_verdict first_falling missing keep is_in positions_of count_up ascending each holds inside
odd_after_intervals = refl

odd_before_positions : check_answer (0 ∷ 3 ∷ []) (1 ∷ 1 ∷ []) 0 (0 ∷ []) ≡ refused 1 1 0
unfolding pairs_from canonical_verdict first_touching ascending_verdict first_falling missing keep is_in positions_of count_up ascending each holds inside
odd_before_positions = refl

-- a bad plan is the answer no
bad_plan : check_answer (0 ∷ 3 ∷ []) (1 ∷ []) 4 (0 ∷ 2 ∷ []) ≡ Ok false
unfolding pairs_from canonical_verdict first_touching ascending_verdict first_falling missing keep is_in positions_of count_up ascending each holds inside
bad_plan = refl
