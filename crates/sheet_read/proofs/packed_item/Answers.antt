-- `sheet_read::packed_item` meets its contract: the start key, then the end key right after it. Assumes nothing.
use Rattle.sheet_read.proofs.packed_item.Goals as goal

pub returns : goal.returns
returns c = rw (
  c.make_item.ensures,
  c.key_for-start.ensures,
  c.has_start.ensures,
  c.key_for-end.ensures,
  c.has_end.ensures,
)
