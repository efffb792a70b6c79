use native.Mathlib.Omega.{arith}
use borrow.Author.Rules.{rules}
use Rattle.position_plan.proofs.Opening.{search_start, behind_le}
use Rattle.position_plan.proofs.Passes.{passed_start, passed_fits, passed_full, counted_more, counted_fewer}
use Rattle.position_plan.proofs.Known.{known, words}
use Rattle.position_plan.proofs.log.Log.windows_fit.Goals as goal

pub next_missing-run-requires : goal.next_missing-run-requires
next_missing-run-requires c = search_start

pub loop-run-init : goal.loop-run-init
loop-run-init c = (passed_start (known c.args.self) c.next_missing-run.ensures, omega arith)

-- the room is used up, and a window is left
pub returns-then-n-room : goal.returns-then-n-room
returns-then-n-room c = passed_full (known c.args.self) c.loop-run.invariant.0 c.loop-run-test.true c.if-n-room.true

pub next_missing-run-requires-in-loop-run : goal.next_missing-run-requires-in-loop-run
next_missing-run-requires-in-loop-run c = behind_le c.loop-run.invariant.0.run.behind (omega (arith, c.saturating_add-limit.ensures))

pub loop-run-smaller : goal.loop-run-smaller
loop-run-smaller c = counted_fewer (known c.args.self) c.loop-run.invariant.0 (words c.args.self) c.loop-run-test.true c.saturating_add-limit.ensures c.next_missing-run-in-loop-run.ensures

pub loop-run-preserved : goal.loop-run-preserved
loop-run-preserved c = (counted_more (known c.args.self) c.loop-run.invariant.0 (words c.args.self) c.loop-run-test.true c.saturating_add-limit.ensures c.next_missing-run-in-loop-run.ensures, search rules)

-- no window is left
pub returns : goal.returns
returns c = passed_fits (known c.args.self) c.loop-run.invariant.0 c.loop-run-test.false c.loop-run.invariant.1
