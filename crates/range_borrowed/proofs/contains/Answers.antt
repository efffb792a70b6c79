-- `range_borrowed::contains` meets its contract: less than the neighbour of the key's own boundary is at most that one. Assumes nothing.
use Rattle.range_borrowed.specs.Borrowed.{lent}
use Rattle.range_borrowed.proofs.Bounds.{start_below, end_above}
use Rattle.range_borrowed.proofs.contains.Goals as goal

pub returns : goal.returns
returns c = rw (
  c.is_eq-2.ensures,
  c.is_eq.ensures,
  c.is_lt-2.ensures,
  c.is_lt.ensures,
  c.compare_boundaries-to.ensures,
  c.kind_numbered-2.ensures,
  c.compare_boundaries-from.ensures,
  c.kind_numbered.ensures,
  start_below (lent c.args.start.now c.args.start_kind) c.args.key.now,
  end_above (lent c.args.end.now c.args.end_kind) c.args.key.now,
)
