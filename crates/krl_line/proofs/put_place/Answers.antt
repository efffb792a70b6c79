-- `put_place` meets its contract: which numbers stand bare is stated before the text is rewritten by it. Assumes nothing.
use mathlib.Core.Path.{◌≡◌, refl, sym}
use mathlib.Core.Bool.{true, false, ◌||◌}
use native.Mathlib.Omega.{arith}
use lib.Dec.{eqb}
use Rattle.lent_text.specs.Text.{spaced_number}
use Rattle.krl_line.specs.Lines.{side_text, place_text}
use Rattle.lent_text.proofs.Laws.{stored_none, stored_next}
use Rattle.krl_line.proofs.put_place.Goals as goal

pub returns-then-number : goal.returns-then-number
unfolding place_text
returns-then-number c = let bare : eqb c.args.number 6 || eqb c.args.number 10 ≡ true = c.if-number.true in
    rw bare (refl, sym (stored_none c.args.out.now c.args.at), omega arith)

pub returns : goal.returns
unfolding place_text
returns c = let placed : eqb c.args.number 6 || eqb c.args.number 10 ≡ false = c.if-number.false in
    let both = stored_next c.args.out.now c.put_side-a.new.out c.put_spaced.new.out c.args.at c.put_side-a.result c.put_spaced.result (side_text c.args.side) (spaced_number c.args.index) c.put_side-a.ensures.1 c.put_side-a.ensures.0 c.put_spaced.ensures.1 c.put_spaced.ensures.0 in
    rw placed (both.0, both.1, omega (arith, c.put_side-a.ensures.2, c.put_spaced.ensures.2))
