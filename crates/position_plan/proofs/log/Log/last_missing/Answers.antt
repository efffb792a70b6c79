use mathlib.Core.Path.{◌≡◌}
use native.Mathlib.Decide.{dec_lt}
use native.Mathlib.Omega.{arith}
use Rattle.position_plan.proofs.Back.{backed_start, backed_end, backed_more, backed_row}
use Rattle.position_plan.proofs.Known.{known}
use Rattle.position_plan.proofs.log.Log.last_missing.Goals as goal

pub loop-i-init : goal.loop-i-init
loop-i-init c = backed_start c.requires (omega arith) c.min-j.ensures

pub last_below-at-requires : goal.last_below-at-requires
last_below-at-requires c = c.loop-i.invariant.in_rows

pub goes_back-j-requires : goal.goes_back-j-requires
goes_back-j-requires c = omega (arith, c.last_below-at.ensures.before, c.loop-i.invariant.in_rows)

pub overflow_sub-t : goal.overflow_sub-t
overflow_sub-t c = c.goes_back-j.ensures.before

pub overflow_sub-t-in-loop-i : goal.overflow_sub-t-in-loop-i
overflow_sub-t-in-loop-i c = elim (dec_lt c.goes_back-j.result c.last_below-at.result) [
  | yes h ↦ omega (arith, c.goes_back-j.ensures.above h)
  | no h ↦ omega arith
]

-- the row before t is missing
pub returns-then-s-t : goal.returns-then-s-t
returns-then-s-t c = backed_row (known c.args.self).sound (known c.args.self).ascends c.loop-i.invariant c.loop-i-test.true
    c.min-e.ensures c.last_below-at.ensures c.goes_back-j.ensures c.if-s-t.true

-- the pair has no missing row below t
pub loop-i-preserved : goal.loop-i-preserved
loop-i-preserved c = backed_more (known c.args.self).sound (known c.args.self).ascends c.loop-i.invariant c.loop-i-test.true
    c.min-e.ensures c.last_below-at.ensures c.goes_back-j.ensures c.if-s-t.false

-- no pair is left
pub returns : goal.returns
returns c = let none : c.loop-i.i ≡ 0 = omega (arith, c.loop-i-test.false) in
    backed_end (known c.args.self).sound (known c.args.self).ascends c.loop-i.invariant none
