-- `line_of` meets its contract: a line of the listing, or the one line of a refusal. Assumes nothing.
use Rattle.krl_program.proofs.Laws.{line_listed, line_refused}
use Rattle.krl_program.proofs.line_of.Goals as goal

pub returns-in-Ok : goal.returns-in-Ok
returns-in-Ok c = line_listed c.args.file.now c.args.shared_out.now c.args.ours_out.now c.args.theirs_out.now _ c.args.i c.args.line.now c.listing_line.new.out c.listing_line.result
    (rw c.in-Ok.is at c.requires) (rw c.pool_of.ensures at c.listing_line.ensures) c.listing_line.auto.out

pub returns-in-Err : goal.returns-in-Err
returns-in-Err c = line_refused c.args.file.now c.args.shared_out.now c.args.ours_out.now c.args.theirs_out.now _ c.args.i c.args.line.now c.refusal_line.new.out c.refusal_line.result
    (rw c.in-Err.is at c.requires) c.refusal_line.ensures c.refusal_line.auto.out
