use Rattle.std.proofs.Common.{sym, ◌∙◌}
use Rattle.item_check.proofs.Scans.{break_end, break_here, break_next, strict_start}
use Rattle.item_check.proofs.check_strict.Goals as goal

pub loop-i-init : goal.loop-i-init
loop-i-init c = rw c.set_at-end.ensures (strict_start _ _ _ _)

pub returns-then-not-below_in : goal.returns-then-not-below_in
returns-then-not-below_in c = c.refuse.ensures
    ∙ sym (c.loop-i.invariant
    ∙ break_here _ _ _ _ _ _ c.loop-i-test.true
    (rw (← c.set_at-set.ensures, ← c.below_in.ensures) c.if-not-below_in.true))

pub loop-i-preserved : goal.loop-i-preserved
loop-i-preserved c = c.loop-i.invariant
    ∙ break_next _ _ _ _ _ _ c.loop-i-test.true
    (rw (← c.set_at-set.ensures, ← c.below_in.ensures) c.if-not-below_in.false)
    ∙ rw c.set_at-set.ensures

pub returns : goal.returns
returns c = sym (c.loop-i.invariant ∙ break_end _ _ _ _ _ _ c.loop-i-test.false)
