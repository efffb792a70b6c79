-- `put_one` meets its contract. Assumes nothing.
use mathlib.Core.Path.{refl}
use Rattle.lent_text.proofs.Laws.{stored_three}
use Rattle.key_text.specs.Text.{spaced_key}
use Rattle.krl_line.specs.Lines.{line_feed}
use Rattle.krl_listing.proofs.put_one.Goals as goal

pub returns : goal.returns
returns c = stored_three c.args.out.now c.put_text-a.new.out c.put_key.new.out c.put.new.out c.put_text-a.result c.put_key.result 1
    c.args.name.now (spaced_key c.args.pool.now c.args.key) line_feed c.put_text-a.ensures.1 c.put_text-a.ensures.0 c.put_key.ensures.1 c.put_key.ensures.0 c.put.ensures refl
