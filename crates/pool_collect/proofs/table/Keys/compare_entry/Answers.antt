-- `pool_collect::table::Keys::compare_entry` meets its contract. Assumes nothing.
use mathlib.Core.Path.{◌∙◌}
use Rattle.pool_collect.specs.Table.{entry_key}
use Rattle.pool_collect.proofs.table.Keys.compare_entry.Goals as goal

pub returns : goal.returns
unfolding entry_key
returns c = c.compare_keys.ensures ∙ rw (c.old_key.ensures, c.entry_at.ensures)
