use Prim.Native.Nat.{◌+◌, ◌-◌}
use mathlib.Core.Path.{◌≡◌, sym, ◌∙◌}
use native.Mathlib.Omega.{arith}
use Rattle.position_given.proofs.Accepted.{falling_end, falling_here, falling_next, ascending_start}
use Rattle.position_given.proofs.check_ascending.Goals as goal

pub loop-i-init : goal.loop-i-init
loop-i-init c = ascending_start _

pub returns-then-proved-i : goal.returns-then-proved-i
returns-then-proved-i c = c.refuse.ensures ∙ sym (c.loop-i.invariant ∙ falling_here _ _ _ c.loop-i-test.true (omega arith))

pub loop-i-preserved : goal.loop-i-preserved
loop-i-preserved c =
    let back : c.loop-i.i + 1 - 1 ≡ c.loop-i.i = omega arith in
    rw back (c.loop-i.invariant ∙ falling_next _ _ _ c.loop-i-test.true (omega arith))

pub returns : goal.returns
returns c = sym (c.loop-i.invariant ∙ falling_end _ _ _ c.loop-i-test.false)
