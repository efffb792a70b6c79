use Rattle.std.proofs.Common.{refl, sym, ◌∙◌, eqb-true}
use Rattle.std.proofs.lemmas.Bool.{eqb-false}
use Rattle.item_check.proofs.Scans.{bad_end, bad_here, bad_next, fault_refused}
use Rattle.item_check.proofs.check_items.Goals as goal

pub returns-then-not-sound_at : goal.returns-then-not-sound_at
returns-then-not-sound_at c = let bad = eqb-false _ _ (sym c.sound_at.ensures ∙ c.if-not-sound_at.true) in
    rw (c.check_upright.ensures, c.item_at.ensures, c.loop-i.invariant)
    (fault_refused _ _ _ bad ∙ sym (bad_here _ _ _ _ _ c.loop-i-test.true refl bad))

pub loop-i-preserved : goal.loop-i-preserved
loop-i-preserved c = c.loop-i.invariant ∙ bad_next _ _ _ _ _ c.loop-i-test.true refl (eqb-true _ _ (sym c.sound_at.ensures ∙ c.if-not-sound_at.false))

pub returns : goal.returns
returns c = sym (c.loop-i.invariant ∙ bad_end _ _ _ _ _ c.loop-i-test.false)
