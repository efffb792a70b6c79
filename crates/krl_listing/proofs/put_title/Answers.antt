-- `put_title` meets its contract. Assumes nothing.
use mathlib.Core.Path.{refl}
use Rattle.lent_text.specs.Text.{spaced_number}
use Rattle.lent_text.proofs.Laws.{stored_three}
use Rattle.krl_line.specs.Lines.{line_feed}
use Rattle.krl_listing.proofs.put_title.Goals as goal

pub returns : goal.returns
returns c = stored_three c.args.out.now c.put_text-a.new.out c.put_spaced.new.out c.put.new.out c.put_text-a.result c.put_spaced.result 1
    c.args.title.now (spaced_number c.args.count) line_feed c.put_text-a.ensures.1 c.put_text-a.ensures.0 c.put_spaced.ensures.1 c.put_spaced.ensures.0 c.put.ensures refl
