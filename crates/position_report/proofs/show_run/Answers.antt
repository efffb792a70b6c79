use Prim.Native.Nat.{◌-◌, min}
use native.Mathlib.Omega.{arith}
use Rattle.position_report.specs.Reports.{most_reported}
use mathlib.Core.Path.{◌≡◌, sym, ◌∙◌}
use Rattle.position_report.proofs.Runs.{run_none, run_start_lem, run_more, run_end}
use Rattle.position_report.proofs.show_run.Goals as goal

-- there is no place
pub returns-then-n-ge-MAX_REPORTED_POSITIONS-clause-examples_after : goal.returns-then-n-ge-MAX_REPORTED_POSITIONS-clause-examples_after
returns-then-n-ge-MAX_REPORTED_POSITIONS-clause-examples_after c = run_none _ _ _ _ (omega arith)

pub loop-k-init : goal.loop-k-init
loop-k-init c = run_start_lem _ _ _ _

pub loop-k-preserved : goal.loop-k-preserved
loop-k-preserved c = run_more c.loop-k.examples c.args.n c.args.from c.min-shown.result c.loop-k.k c.loop-k-test.true ∙ c.loop-k.invariant

pub returns : goal.returns
returns c =
    let all : c.min-shown.result ≡ min (most_reported - c.args.n) c.args.width = omega arith in
    let stored = sym (run_end c.loop-k.examples c.args.n c.args.from c.min-shown.result c.loop-k.k c.loop-k-test.false) ∙ c.loop-k.invariant in
    record { value = all; examples_after = rw (← all) stored }
