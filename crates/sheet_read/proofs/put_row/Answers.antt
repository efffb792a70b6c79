-- `sheet_read::put_row` meets its contract: both keys into the pool, the second right after the first. Assumes nothing.
use mathlib.Core.Path.{◌∙◌}
use Rattle.lent_text.proofs.Laws.{stored_append}
use Rattle.sheet_row.specs.Lanes.{hex_bytes}
use Rattle.sheet_read.proofs.put_row.Goals as goal

pub returns-clause-pool_after : goal.returns-clause-pool_after
returns-clause-pool_after c = c.put_bytes-b.ensures.1
    ∙ rw (c.put_bytes-a.ensures.1, c.put_bytes-a.ensures.0)
    (stored_append c.args.pool.now c.args.used (hex_bytes c.args.row.start.now) (hex_bytes c.args.row.end.now))
