use mathlib.Core.Path.{refl, sym, ◌∙◌}
use native.Mathlib.Nat.{sub-zero}
use Rattle.std.proofs.lemmas.Result.{err_from_is_err_and}
use Rattle.item_check.proofs.Laws.{bad_end, bad_here, bad_next, fault_passes, fault_refused}
use Rattle.position_query.proofs.Clean.{some_fault}
use Rattle.position_query.proofs.query.check_items.Goals as goal

pub loop-i-init : goal.loop-i-init
loop-i-init c = rw sub-zero

pub returns-in_err-check_item : goal.returns-in_err-check_item
returns-in_err-check_item c =
    let p = err_from_is_err_and c.from_residual.result c.from_residual.ensures.1 in
    let told = rw c.item_at.ensures at (sym c.check_item.ensures ∙ c.in_err-check_item.was) in
    let bad = some_fault _ _ _ _ told in
    rw (p.1, p.2) (sym told ∙ fault_refused _ _ _ bad ∙ sym (c.loop-i.invariant ∙ bad_here _ _ _ _ _ c.loop-i-test.true refl bad))

pub loop-i-preserved : goal.loop-i-preserved
loop-i-preserved c =
    let told = rw c.item_at.ensures at (sym c.check_item.ensures ∙ c.in_ok-check_item.was) in
    c.loop-i.invariant ∙ bad_next _ _ _ _ _ c.loop-i-test.true refl ((fault_passes _ _ _).0 told)

pub returns : goal.returns
returns c = sym (c.loop-i.invariant ∙ bad_end _ _ _ _ _ c.loop-i-test.false)
