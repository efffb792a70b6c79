-- `sheet_read::row::quoted` meets its contract: up to the next quote, and none where there is no quote. Assumes nothing.
use Rattle.std.proofs.Common.{◌+◌, sym, ◌∙◌}
use Rattle.std.proofs.lemmas.List.{take_rest}
use Rattle.sheet_read.proofs.Runs.{quoted_found, quoted_never}
use Rattle.sheet_read.proofs.row.quoted.Goals as goal

pub returns-in_err-n : goal.returns-in_err-n
returns-in_err-n c = rw c.from_residual.ensures (quoted_never c.args.rest.now (sym c.in_err-n.was ∙ c.next_quote.ensures))

pub returns : goal.returns
returns c = rw (take_rest c.args.rest.now (c.in_ok-n.n + 1)) (quoted_found c.args.rest.now _ (sym c.in_ok-n.was ∙ c.next_quote.ensures))
