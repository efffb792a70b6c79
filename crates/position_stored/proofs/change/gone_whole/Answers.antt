use mathlib.Core.Path.{refl}
use native.Mathlib.Omega.{arith}
use Rattle.position_stored.proofs.Turns.{some_at, going_more, going_fits}
use Rattle.position_stored.proofs.change.gone_whole.Goals as goal

pub overflow_sub-whole : goal.overflow_sub-whole
overflow_sub-whole c = omega (arith, some_at c.requires c.loop-i-test.true)

pub overflow_add-whole-in-loop-i : goal.overflow_add-whole-in-loop-i
overflow_add-whole-in-loop-i c = omega (
  arith,
  going_fits c.loop-i.invariant.1 c.requires
      (record { fits = λ k. omega (arith, c.type_inv.words k) }) c.loop-i-test.true,
)

pub loop-i-preserved : goal.loop-i-preserved
loop-i-preserved c = (refl, going_more c.loop-i.invariant.1 c.loop-i-test.true (some_at c.requires c.loop-i-test.true) c.if-e-f.false)
