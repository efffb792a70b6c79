-- `push_run` meets its contract. Assumes nothing.
use Prim.Native.Nat.{◌-◌}
use native.Mathlib.Omega.{arith}
use Rattle.position_report.specs.Inner.{with_run}
use Rattle.position_report.proofs.Runs.{run_empty}
use Rattle.position_report.proofs.PositionMismatch.push_run.Goals as goal

pub returns-then-from-to : goal.returns-then-from-to
unfolding with_run
returns-then-from-to c = rw (c.saturating_add.ensures, c.show_run-shown.ensures.value, c.show_run-shown.ensures.examples_after)

-- there is nothing to add
pub returns-else-from-to : goal.returns-else-from-to
returns-else-from-to c = run_empty c.args.self.now c.args.from (c.args.to - c.args.from) (omega arith) (omega arith)
