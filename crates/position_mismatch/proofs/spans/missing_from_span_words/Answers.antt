use native.Mathlib.Omega.{arith}
use Rattle.position_given.proofs.Widths.{Words}
use Rattle.position_mismatch.proofs.Steps.{steps_start, steps_more, steps_end}
use Rattle.position_mismatch.proofs.spans.missing_from_span_words.Goals as goal

pub loop-i-init : goal.loop-i-init
loop-i-init c = steps_start _ _ _ _ c.start-walk.ensures

pub loop-i-preserved : goal.loop-i-preserved
loop-i-preserved c = steps_more _ _ _ c.loop-i.walk c.loop-i.i c.loop-i-test.true c.step.ensures c.loop-i.invariant

pub returns : goal.returns
returns c = let known : Words c.args.intervals.now = record { fits = λ k. omega (arith, c.type_inv.intervals k) } in
    let words : Words c.args.spans.now = record { fits = λ k. omega (arith, c.type_inv.spans k) } in
    steps_end _ _ _ c.loop-i.walk c.loop-i.i known words (omega arith) c.loop-i-test.false c.finish.ensures c.loop-i.invariant
