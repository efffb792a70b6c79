use native.Mathlib.Omega.{arith}
use lib.ListN.{length-set}
use Rattle.position_plan.proofs.Opening.{search_start}
use Rattle.position_plan.proofs.Passes.{passed_opens, fewer, written_start, written_room, written_more, written_end}
use Rattle.position_plan.proofs.Known.{known}
use Rattle.position_plan.proofs.log.Log.write_windows.Goals as goal

pub next_missing-run-requires : goal.next_missing-run-requires
next_missing-run-requires c = search_start

pub loop-run-init : goal.loop-run-init
loop-run-init c = let N = written_start (known c.args.self) c.next_missing-run.ensures in
    (N, written_room (known c.args.self) N c.requires)

pub next_window-w-requires : goal.next_window-w-requires
next_window-w-requires c = passed_opens (known c.args.self) c.loop-run.invariant.0.passed c.loop-run-test.true

pub overflow_mul-out : goal.overflow_mul-out
overflow_mul-out c = omega (arith, c.loop-run.invariant.1 c.loop-run-test.true, c.loop-run.invariant.0.size)

pub offset_bounds-out-n : goal.offset_bounds-out-n
offset_bounds-out-n c = omega (arith, c.loop-run.invariant.1 c.loop-run-test.true, c.loop-run.invariant.0.size)

pub bounds-out-n : goal.bounds-out-n
bounds-out-n c = omega (arith, c.loop-run.invariant.1 c.loop-run-test.true)

pub bounds-out-n-in-loop-run : goal.bounds-out-n-in-loop-run
bounds-out-n-in-loop-run c = simp length-set (omega (arith, c.loop-run.invariant.1 c.loop-run-test.true))

pub overflow_add-n : goal.overflow_add-n
overflow_add-n c = omega (arith, c.loop-run.invariant.1 c.loop-run-test.true, c.loop-run.invariant.0.size)

pub loop-run-smaller : goal.loop-run-smaller
loop-run-smaller c = fewer (known c.args.self) c.loop-run.invariant.0.passed c.next_window-w.ensures

pub loop-run-preserved : goal.loop-run-preserved
loop-run-preserved c = let N = written_more (known c.args.self) c.loop-run.invariant.0 c.next_window-w.ensures in
    (N, written_room (known c.args.self) N c.requires)

pub shape_of-out : goal.shape_of-out
shape_of-out c = c.loop-run.invariant.0.size

-- no window is left
pub returns : goal.returns
returns c = written_end (known c.args.self) c.loop-run.invariant.0 c.loop-run-test.false
