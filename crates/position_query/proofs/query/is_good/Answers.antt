-- `is_good` meets its contract. Assumes nothing.
use Rattle.position_query.proofs.query.is_good.Goals as goal

pub returns-then-has : goal.returns-then-has
returns-then-has c = rw (c.if-has.true, c.is_out.ensures)

pub returns : goal.returns
returns c = rw (c.if-has.false, c.is_nonzero.ensures)
