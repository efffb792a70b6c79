-- Worked examples. Assumes nothing.
use Rattle.std.specs.Prelude.{Ok}
use Prim.Native.Nat.{ℕ}
use mathlib.Core.Path.{◌≡◌, refl}
use mathlib.Core.List.{List, [], ◌∷◌}
use Rattle.intervals.specs.Lists.{cuts_of, without_of}
use Rattle.intervals.specs.Intervals.{piece, cut}
use Rattle.intervals.specs.Cover.{grow_of, cover_of, cover, uncover}
use Rattle.item_check.specs.Checks.{refused}
use Rattle.pairs_sort.specs.Pairs.{pairs_from, flat_pairs}
use Rattle.position_given.specs.Given.{first_touching, canonical_verdict}
use Rattle.position_given.specs.Positions.{count_up, positions_of}
use Rattle.position_stored.specs.Stored.{laid, total_answer, cover_answer, cover_words, uncover_answer, uncover_words}

some : List ℕ
some = 2 ∷ 5 ∷ 10 ∷ 12 ∷ 7 ∷ 7 ∷ 7 ∷ []

-- a range that touches both makes one of them; the freed words become 0, the later ones stay
joins : cover_words some 2 5 5 10 ≡ 2 ∷ 12 ∷ 0 ∷ 0 ∷ 7 ∷ 7 ∷ 7 ∷ []
unfolding some cover cover_of grow_of flat_pairs laid pairs_from first_touching canonical_verdict count_up positions_of
joins = refl

joins_answer : cover_answer some 2 5 5 10 ≡ Ok (1, 10)
unfolding some cover cover_of grow_of pairs_from first_touching canonical_verdict count_up positions_of
joins_answer = refl

-- one that touches none is a pair of its own
adds : cover_words some 2 5 7 8 ≡ 2 ∷ 5 ∷ 7 ∷ 8 ∷ 10 ∷ 12 ∷ 7 ∷ []
unfolding some cover cover_of grow_of flat_pairs laid pairs_from first_touching canonical_verdict count_up positions_of
adds = refl

-- uncovering the middle of an interval adds a pair
splits : uncover_words some 2 5 3 4 ≡ 2 ∷ 3 ∷ 4 ∷ 5 ∷ 10 ∷ 12 ∷ 7 ∷ []
unfolding some uncover without_of cuts_of cut piece flat_pairs laid pairs_from first_touching canonical_verdict count_up positions_of
splits = refl

splits_answer : uncover_answer some 2 5 3 4 ≡ Ok (3, 4)
unfolding some uncover without_of cuts_of cut piece pairs_from first_touching canonical_verdict count_up positions_of
splits_answer = refl

-- a range over an end and a start
shortens : uncover_words some 2 5 4 11 ≡ 2 ∷ 4 ∷ 11 ∷ 12 ∷ 7 ∷ 7 ∷ 7 ∷ []
unfolding some uncover without_of cuts_of cut piece flat_pairs laid pairs_from first_touching canonical_verdict count_up positions_of
shortens = refl

-- no room for a third pair
full : uncover_answer (2 ∷ 5 ∷ 9 ∷ []) 1 3 3 4 ≡ refused 6 0 0
unfolding uncover without_of cuts_of cut piece pairs_from first_touching canonical_verdict count_up positions_of
full = refl

-- a wrong total, after the pairs; a count past the buffer; both are looked for before a range that changes nothing
wrong_total : cover_answer some 2 6 4 4 ≡ refused 9 0 2
unfolding some cover cover_of grow_of pairs_from first_touching canonical_verdict count_up positions_of
wrong_total = refl

past_buffer : total_answer some 4 5 ≡ refused 1 0 0
unfolding some
past_buffer = refl
