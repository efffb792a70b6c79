use mathlib.Core.Path.{sym, ◌∙◌}
use Rattle.std.proofs.lemmas.Result.{err_from_is_err_and}
use Rattle.item_check.proofs.Laws.{bad_end}
use Rattle.sheet_write.proofs.Plain.{plain_step}
use Rattle.sheet_write.proofs.check_plain_items.Goals as goal

pub returns-in_err-check_plain : goal.returns-in_err-check_plain
returns-in_err-check_plain c =
    let p = err_from_is_err_and c.from_residual.result c.from_residual.ensures.1 in
    let this = sym c.in_err-check_plain.was ∙ c.check_plain.ensures in
    rw (p.1, p.2) (sym (c.loop-i.invariant ∙ plain_step _ _ _ _ c.loop-i-test.true c.item_at.ensures (sym this)))

pub loop-i-preserved : goal.loop-i-preserved
loop-i-preserved c =
    let this = sym c.in_ok-check_plain.was ∙ c.check_plain.ensures in
    c.loop-i.invariant ∙ plain_step _ _ _ _ c.loop-i-test.true c.item_at.ensures (sym this)

pub returns : goal.returns
returns c = sym (c.loop-i.invariant ∙ bad_end _ _ _ _ _ c.loop-i-test.false)
