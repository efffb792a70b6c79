-- `sheet_read::row::field` meets its contract: a quote comes first, or none. Assumes nothing.
use Rattle.std.proofs.Common.{arith}
use Rattle.std.proofs.lemmas.List.{take_rest}
use Rattle.sheet_read.proofs.Runs.{short_is_quoted, short_is_unquoted}
use Rattle.sheet_read.proofs.row.field.Goals as goal

pub returns-in-empty-eq34 : goal.returns-in-empty-eq34
returns-in-empty-eq34 c =
    let q = short_is_quoted c.args.rest.now c.unquoted-field.ensures (grind arith) (grind arith) (grind arith) in
    rw (q, ← take_rest c.unquoted-field.result.1.now 1) c.quoted.ensures

pub returns-in_default : goal.returns-in_default
returns-in_default c = short_is_unquoted c.args.rest.now c.unquoted-field.ensures (λ none some first. grind arith)
