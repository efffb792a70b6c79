-- `sheet_read::row::row_fields` meets its contract: three fields, the end of the row, the code of the name (`row_found`), or one of them lacks. Assumes
-- nothing.
use Rattle.sheet_read.proofs.Quotes.{lacks_name, lacks_start, lacks_end, lacks_close, row_found, row_shorter}
use Rattle.sheet_read.proofs.row.row_fields.Goals as goal

pub returns-in_err-name-clause-found : goal.returns-in_err-name-clause-found
returns-in_err-name-clause-found c = rw c.from_residual.ensures (lacks_name c.args.rest.now c.in_err-name.ensures)

pub returns-in_err-start-clause-found : goal.returns-in_err-start-clause-found
returns-in_err-start-clause-found c = rw c.from_residual-in_err-start.ensures
    (lacks_start c.args.rest.now c.in_ok-name.ensures c.in_err-start.ensures)

pub returns-in_err-end-clause-found : goal.returns-in_err-end-clause-found
returns-in_err-end-clause-found c = rw c.from_residual-in_err-end.ensures
    (lacks_end c.args.rest.now c.in_ok-name.ensures c.in_ok-start.ensures c.in_err-end.ensures)

pub returns-in_err-rest-clause-found : goal.returns-in_err-rest-clause-found
returns-in_err-rest-clause-found c = rw c.from_residual-in_err-rest.ensures
    (lacks_close c.args.rest.now c.in_ok-name.ensures c.in_ok-start.ensures c.in_ok-end.ensures c.in_err-rest.ensures)

pub returns-clause-found : goal.returns-clause-found
returns-clause-found c = rw c.code_of-code.ensures
    (row_found c.args.rest.now c.in_ok-name.ensures c.in_ok-start.ensures c.in_ok-end.ensures c.in_ok-rest.ensures)

pub returns-clause-shorter : goal.returns-clause-shorter
returns-clause-shorter c =
    row_shorter c.args.rest.now c.in_ok-name.ensures c.in_ok-start.ensures c.in_ok-end.ensures c.in_ok-rest.ensures
