-- `put_first` meets its contract. Assumes nothing.
use mathlib.Core.Path.{refl, sym}
use native.Mathlib.Omega.{arith}
use borrow.Author.Tests.{lt-ltb, le-ltb}
use Rattle.lent_text.specs.Text.{decimal}
use Rattle.position_describe.specs.Text.{first_word, first_part}
use Rattle.lent_text.proofs.Laws.{stored_next, stored_none}
use Rattle.position_describe.proofs.put_first.Goals as goal

pub returns-then-count-total : goal.returns-then-count-total
unfolding first_part
returns-then-count-total c = let both = stored_next c.args.out.now c.put_text-a.new.out c.put_number.new.out c.args.at c.put_text-a.result c.put_number.result first_word (decimal c.args.count)
    c.put_text-a.ensures.1 c.put_text-a.ensures.0 c.put_number.ensures.1 c.put_number.ensures.0 in
    rw (lt-ltb c.args.count c.args.total c.if-count-total.true) (both.0, both.1, omega (arith, c.put_text-a.ensures.0, c.put_number.ensures.2))

pub returns : goal.returns
unfolding first_part
returns c = rw (le-ltb c.args.count c.args.total c.if-count-total.false) (refl, sym (stored_none c.args.out.now c.args.at), omega arith)
