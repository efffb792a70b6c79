use Prim.Native.Nat.{◌+◌, ◌*◌}
use mathlib.Core.Path.{refl, ap, ◌∙◌}
use Rattle.position_given.specs.Answers.{length_of}
use native.Mathlib.Omega.{arith}
use Rattle.position_given.proofs.Counting.{counted_none, counted_first, counting_start, counting_next, counting_some, counted_here, counted_all}
use Rattle.position_given.proofs.count_rows.Goals as goal

pub returns-then-count-eq0 : goal.returns-then-count-eq0
returns-then-count-eq0 c = counted_none _ _ refl c.if-count-eq0.true

pub returns-then-intervals : goal.returns-then-intervals
returns-then-intervals c = ap length_of c.refuse.ensures ∙ counted_first _ _ refl (omega arith) c.if-intervals.true

pub loop-i-init : goal.loop-i-init
loop-i-init c = counting_start _ _ refl (omega arith) c.if-intervals.false

pub returns-then-not-end-s : goal.returns-then-not-end-s
returns-then-not-end-s c = ap length_of c.refuse-then-not-end-s.ensures ∙ counted_here c.loop-i.invariant c.loop-i-test.true c.if-not-end-s.true

pub overflow_sub-rows-in-loop-i : goal.overflow_sub-rows-in-loop-i
overflow_sub-rows-in-loop-i c = omega (arith, counting_some c.loop-i.invariant c.if-not-end-s.false)

pub overflow_add-rows : goal.overflow_add-rows
overflow_add-rows c = omega (
  arith,
  (counting_next c.loop-i.invariant c.loop-i-test.true c.if-not-end-s.false).below,
  c.type_inv.intervals (2 * c.loop-i.i + 1),
)

pub loop-i-preserved : goal.loop-i-preserved
loop-i-preserved c = counting_next c.loop-i.invariant c.loop-i-test.true c.if-not-end-s.false

pub returns : goal.returns
returns c = counted_all c.loop-i.invariant c.loop-i-test.false
