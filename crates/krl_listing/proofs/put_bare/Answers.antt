-- `put_bare` meets its contract. Assumes nothing.
use mathlib.Core.Path.{refl}
use Rattle.lent_text.proofs.Laws.{stored_two}
use Rattle.krl_line.specs.Lines.{line_feed}
use Rattle.krl_listing.proofs.put_bare.Goals as goal

pub returns : goal.returns
returns c = stored_two c.args.out.now c.put_text-a.new.out c.put.new.out c.put_text-a.result 1 c.args.name.now line_feed c.put_text-a.ensures.1 c.put_text-a.ensures.0 c.put.ensures refl
