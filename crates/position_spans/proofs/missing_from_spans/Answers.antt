use mathlib.Core.Path.{refl}
use native.Mathlib.Omega.{arith}
use Rattle.position_spans.proofs.Stepped.{stepped_start, stepped_more, stepped_end}
use Rattle.position_spans.proofs.missing_from_spans.Goals as goal

pub loop-span-init : goal.loop-span-init
loop-span-init c = stepped_start _ _ _ c.start-walk.ensures

pub loop-span-preserved : goal.loop-span-preserved
loop-span-preserved c = stepped_more _ _ c.loop-span.walk _ _ _ c.loop-span.invariant c.loop-span-test.true refl (omega arith) c.step.ensures

pub returns : goal.returns
returns c =
    stepped_end _ _ _ _ _ (record { fits = λ k. omega (arith, c.type_inv.intervals k) }) (omega arith) c.loop-span.invariant
    c.loop-span-test.false c.finish.ensures
