-- `decide` meets its contract: the two lists that the file is read to are the file's, and the call on them is lent the program's room. Assumes
-- nothing.
use mathlib.Core.Path.{sym, ◌∙◌}
use Rattle.std.proofs.lemmas.Result.{err_from_is_err_and}
use Rattle.krl_program.proofs.Laws.{ours_fit, theirs_fit, ours_are, theirs_are, decided_read, decided_refused}
use Rattle.krl_program.proofs.decide.Goals as goal

pub front-requires : goal.front-requires
front-requires c = let answered = sym c.in_ok-parts.ensures.result_value in
    ours_fit c.args.file.now c.args.ours.now c.args.theirs.now _ answered c.read_file.new.ours c.read_file.auto.ours

pub front-requires-2 : goal.front-requires-2
front-requires-2 c = let answered = sym c.in_ok-parts.ensures.result_value in
    theirs_fit c.args.file.now c.args.ours.now c.args.theirs.now _ answered c.read_file.new.theirs c.read_file.auto.theirs

pub returns : goal.returns
returns c = let answered = sym c.in_ok-parts.ensures.result_value in
    decided_read c.args.file.now c.args.ours.now c.args.theirs.now c.args.shared_out.now c.args.ours_out.now c.args.theirs_out.now c.requires _ answered _ _ _
    c.pool_of.ensures
    (c.front.ensures ∙ ours_are c.args.file.now c.args.ours.now c.args.theirs.now _ answered c.read_file.new.ours c.read_file.ensures.ours_after)
    (c.front-2.ensures ∙ theirs_are c.args.file.now c.args.ours.now c.args.theirs.now _ answered c.read_file.new.theirs c.read_file.ensures.theirs_after)
    c.intersect_many_ordered.result c.intersect_many_ordered.new.shared_out c.intersect_many_ordered.new.ours_out c.intersect_many_ordered.new.theirs_out
    c.intersect_many_ordered.ensures

pub returns-in_err-parts : goal.returns-in_err-parts
returns-in_err-parts c =
    let p = err_from_is_err_and c.from_residual.result c.from_residual.ensures.1 in
    rw (p.1, p.2)
    (decided_refused c.args.file.now c.args.ours.now c.args.theirs.now c.args.shared_out.now c.args.ours_out.now c.args.theirs_out.now c.requires _
    (sym c.in_err-parts.ensures.result_value))
