-- `sheet_read::row::is_key` meets its contract. Assumes nothing.
use Rattle.sheet_read.proofs.Runs.{hex_fold}
use Rattle.sheet_read.proofs.row.is_key.Goals as goal

pub returns : goal.returns
returns c = rw (← c.is_dash.ensures, ← hex_fold c.args.s.now, ← c.all_hex.ensures, ← c.is_empty.ensures)
