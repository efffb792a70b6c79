use mathlib.Core.Path.{sym, ◌∙◌}
use Rattle.std.proofs.lemmas.Result.{err_from_is_err_and}
use Rattle.item_check.proofs.Scans.{bad_end}
use Rattle.pool_collect.proofs.Faults.{fault_next, fault_stops}
use Rattle.pool_collect.proofs.check.check_named.Goals as goal

pub returns-in_err-check_formed : goal.returns-in_err-check_formed
returns-in_err-check_formed c =
    let p = err_from_is_err_and c.from_residual-in_err-check_formed.result c.from_residual-in_err-check_formed.ensures.1 in
    rw (p.1, p.2, ← c.check_shape.ensures, c.in_ok-check_shape.was)
    (sym (c.loop-i.invariant ∙ fault_stops _ _ _ _ _ c.loop-i-test.true c.check_formed.ensures c.item_at.ensures c.in_err-check_formed.was))

pub loop-i-preserved : goal.loop-i-preserved
loop-i-preserved c = c.loop-i.invariant ∙ fault_next _ _ _ _ _ c.loop-i-test.true c.check_formed.ensures c.item_at.ensures c.in_ok-check_formed.was

pub returns : goal.returns
returns c = rw (← c.check_shape.ensures, c.in_ok-check_shape.was) (sym (c.loop-i.invariant ∙ bad_end _ _ _ _ _ c.loop-i-test.false))
