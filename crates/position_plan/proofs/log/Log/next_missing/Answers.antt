use Prim.Native.Nat.{◌+◌, ◌*◌}
use native.Mathlib.Decide.{dec_lt}
use native.Mathlib.Omega.{arith}
use Rattle.position_plan.proofs.Search.{searched_start, searched_end, searched_more, searched_run}
use Rattle.position_plan.proofs.Known.{known}
use Rattle.position_plan.proofs.log.Log.next_missing.Goals as goal

pub loop-i-init : goal.loop-i-init
loop-i-init c = searched_start c.requires

pub overflow_sub-x : goal.overflow_sub-x
overflow_sub-x c = c.goes_on-j.ensures.after

pub overflow_add-x : goal.overflow_add-x
overflow_add-x c = elim (dec_lt c.first_from-at.result c.goes_on-j.result) [
  | yes h ↦ omega (arith, c.goes_on-j.ensures.below h, c.args.self.words (2 * c.loop-i.i + 1))
  | no h ↦ omega (arith, c.goes_on-j.ensures.after)
]

-- a run is found
pub returns-then-x-e : goal.returns-then-x-e
returns-then-x-e c = searched_run (known c.args.self).sound (known c.args.self).ascends c.loop-i.invariant c.loop-i-test.true
    c.max-s.ensures c.first_from-at.ensures c.goes_on-j.ensures c.if-x-e.true c.stop_at.ensures

-- the pair has no missing row
pub loop-i-preserved : goal.loop-i-preserved
loop-i-preserved c = searched_more (known c.args.self).sound (known c.args.self).ascends c.loop-i.invariant c.loop-i-test.true
    c.max-s.ensures c.first_from-at.ensures c.goes_on-j.ensures c.if-x-e.false

-- no pair is left
pub returns : goal.returns
returns c = searched_end (known c.args.self).sound (known c.args.self).ascends c.loop-i.invariant c.loop-i-test.false c.first_from.ensures
