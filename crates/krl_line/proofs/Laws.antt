-- How long the line of a refusal is. Assumes nothing.
use Prim.Native.Nat.{ℕ, ◌≤◌}
use mathlib.Core.Bool.{Bool, true, false, cond, ◌||◌}
use mathlib.Core.List.{[], ◌∷◌, ◌++◌}
use native.Mathlib.Omega.{arith}
use lib.ListN.{length, length-append}
use lib.Dec.{eqb}
use Rattle.lent_text.specs.Text.{spaced_number}
use Rattle.lent_text.proofs.Laws.{decimal_few}
use Rattle.item_check.specs.declared.Refusal.{Refusal}
use Rattle.krl_line.specs.Lines.{line_feed, ours_word, theirs_word, refused_word, side_text, place_text, refusal_line}

side_few : (side : ℕ) → length (side_text side) ≤ 7
unfolding side_text
side_few side = go (eqb side 0)
  where
    go : (t : Bool) → length (32 ∷ cond t ours_word theirs_word) ≤ 7
    go true = omega arith
    go false = omega arith

place_few : (number side index : ℕ) → length (place_text number side index) ≤ 28
unfolding place_text
place_few number side index = go (eqb number 6 || eqb number 10)
  where
    go : (t : Bool) → length (cond t [] (side_text side ++ spaced_number index)) ≤ 28
    go true = omega arith
    go false = omega (arith, length-append (side_text side) (spaced_number index), side_few side, decimal_few index)

-- no line of a refusal is longer than 57 bytes
pub refusal_few : (r : Refusal) → length (refusal_line r) ≤ 57
refusal_few r =
    let place = place_text r.number r.side r.index in
    omega (
      arith,
      length-append refused_word (spaced_number r.number ++ (place ++ line_feed)),
      length-append (spaced_number r.number) (place ++ line_feed),
      length-append place line_feed,
      decimal_few r.number,
      place_few r.number r.side r.index,
    )
