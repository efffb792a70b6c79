-- `check_stored` meets its contract: the count, then the first pairs asked as intervals are, then the total. Assumes nothing.
use mathlib.Core.Path.{sym, ap, ◌∙◌}
use native.Mathlib.Omega.{arith}
use borrow.Author.Tests.{eq-eqb, ne_eqb}
use Rattle.std.proofs.lemmas.Result.{err_from_is_err_and}
use Rattle.position_given.specs.Answers.{length_of}
use Rattle.position_stored.proofs.Checks.{stored_refused, stored_rows}
use Rattle.position_stored.proofs.total.check_stored.Goals as goal

pub returns-in_err-rows : goal.returns-in_err-rows
returns-in_err-rows c =
    let p = err_from_is_err_and c.from_residual.result c.from_residual.ensures.1 in
    rw (p.1, p.2) (stored_refused c.args.words.now c.args.count c.if-words-count.false c.args.total.0 _ (sym (ap length_of c.in_err-rows.was) ∙ c.count_rows.ensures))

pub returns-then-rows-total : goal.returns-then-rows-total
returns-then-rows-total c = stored_rows c.args.words.now c.args.count c.if-words-count.false c.args.total.0 _ _ (sym (ap length_of c.in_ok-rows.was) ∙ c.count_rows.ensures) (c.refuse-then-rows-total.ensures ∙ rw (ne_eqb c.in_ok-rows.rows.0 c.args.total.0 (λ q. omega arith)))

pub returns : goal.returns
returns c = stored_rows c.args.words.now c.args.count c.if-words-count.false c.args.total.0 _ _ (sym (ap length_of c.in_ok-rows.was) ∙ c.count_rows.ensures) (rw (eq-eqb c.in_ok-rows.rows.0 c.args.total.0 (omega arith)))
