-- `range_borrowed::may_stand` meets its contract: the start answers on the left, the end on the right; an unbounded one says yes.
-- Assumes nothing.
use Rattle.range_borrowed.proofs.Bounds.{left_unbounded, right_unbounded}
use Rattle.range_borrowed.proofs.may_stand.Goals as goal

pub returns-in-LeftOf : goal.returns-in-LeftOf
returns-in-LeftOf c = rw (c.is_lt.ensures, c.compare.ensures, c.in-LeftOf.is) (left_unbounded c.args.start.now c.args.start_kind c.args.key.now)

pub returns-in-RightOf : goal.returns-in-RightOf
returns-in-RightOf c = rw (c.is_lt-in-RightOf.ensures, c.compare-in-RightOf.ensures, c.in-RightOf.is) (right_unbounded c.args.end.now c.args.end_kind c.args.key.now)
