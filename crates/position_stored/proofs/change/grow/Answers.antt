use mathlib.Core.Path.{refl}
use native.Mathlib.Omega.{arith}
use Rattle.position_stored.proofs.Turns.{some_at, growing_start, growing_more, growing_stop, growing_end, growing_fits}
use Rattle.position_stored.proofs.change.grow.Goals as goal

pub loop-i-init : goal.loop-i-init
loop-i-init c = (refl, growing_start _ _ _ _ _ c.requires.0 c.requires.1)

pub overflow_sub-grown : goal.overflow_sub-grown
overflow_sub-grown c = omega (arith, some_at c.requires.0 c.loop-i-test.true)

pub overflow_add-grown-in-loop-i : goal.overflow_add-grown-in-loop-i
overflow_add-grown-in-loop-i c = omega (
  arith,
  growing_fits c.loop-i.invariant.1 c.requires.0
      (record { fits = λ k. omega (arith, c.type_inv.words k) }) c.loop-i-test.true,
)

pub loop-i-preserved : goal.loop-i-preserved
loop-i-preserved c = (
  refl,
  rw (c.min.ensures, c.max.ensures)
      (growing_more c.loop-i.invariant.1 c.loop-i-test.true
      (some_at c.requires.0 c.loop-i-test.true) c.if-grown-t.false),
)

pub returns-then-grown-t : goal.returns-then-grown-t
returns-then-grown-t c = rw c.loop-i.invariant.0 (growing_stop c.loop-i.invariant.1 c.loop-i-test.true c.if-grown-t.true)

pub returns-after-loop-i : goal.returns-after-loop-i
returns-after-loop-i c = rw c.loop-i.invariant.0 (growing_end c.loop-i.invariant.1 c.loop-i-test.false)
