-- The range of an item by its code, and what its two keys are as positions: the same as its range by its boundaries (proofs/Codes.antt). No
-- contract cites these. Definitions only. It serves 01 keys.5, m6.3. Assumes nothing.
use Rattle.std.specs.Prelude.{ℕ, cond, not, ◌||◌, ltb, eqb, Ok}
use Rattle.item_check.specs.Checks.{Answer, has_start}
use Rattle.position_given.specs.Inner.{last_word}
use Rattle.position_query.specs.Ranges.{after_of}

abbrev pub first_by : ℕ → Answer ℕ → Answer ℕ
first_by c a = cond (ltb 9 c || not (has_start c)) (Ok 0) (cond (ltb c 7) a (after_of a))

abbrev pub past_by : ℕ → Answer ℕ → Answer ℕ → Answer ℕ
past_by c a b =
    cond (ltb 9 c || eqb c 3 || eqb c 4 || eqb c 7) (Ok last_word)
    (cond (eqb c 0) (after_of a)
    (cond (eqb c 2 || eqb c 6 || eqb c 9) (after_of b) b))
