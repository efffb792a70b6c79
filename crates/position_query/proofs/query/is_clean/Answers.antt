-- `is_clean` meets its contract: the tests in the definition's order. Assumes nothing.
use Rattle.position_query.proofs.query.is_clean.Goals as goal

pub returns : goal.returns
returns c = rw (c.is_good.ensures, c.has_start.ensures, c.is_good-2.ensures, c.has_end.ensures)
