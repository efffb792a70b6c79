-- `sheet_read::row::unquoted` meets its contract. Assumes nothing.
use Rattle.sheet_read.proofs.Runs.{unquoted_found}
use Rattle.sheet_read.proofs.row.unquoted.Goals as goal

pub returns : goal.returns
returns c = rw (c.split_at.ensures.front, c.split_at.ensures.back) (unquoted_found c.args.rest.now _ c.text_run.ensures)
