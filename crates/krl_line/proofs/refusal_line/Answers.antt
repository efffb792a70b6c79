-- `refusal_line` meets its contract. Assumes nothing.
use mathlib.Core.Path.{refl}
use Rattle.lent_text.specs.Text.{spaced_number}
use Rattle.krl_line.specs.Lines.{line_feed, refused_word, place_text}
use Rattle.lent_text.proofs.Laws.{stored_four}
use Rattle.krl_line.proofs.refusal_line.Goals as goal

pub returns : goal.returns
returns c = let spaced = rw c.from.ensures at c.put_spaced.ensures in
    stored_four c.args.out.now c.put_text-a.new.out c.put_spaced.new.out c.put_place.new.out c.put.new.out c.put_text-a.result c.put_spaced.result c.put_place.result 1 refused_word (spaced_number c.args.refusal.number) (place_text c.args.refusal.number c.args.refusal.side c.args.refusal.index) line_feed c.put_text-a.ensures.1 c.put_text-a.ensures.0 spaced.1 spaced.0 c.put_place.ensures.1 c.put_place.ensures.0 c.put.ensures refl
