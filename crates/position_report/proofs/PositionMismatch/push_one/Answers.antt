-- `push_one` meets its contract. Assumes nothing.
use Rattle.position_report.specs.Inner.{with_run}
use Rattle.position_report.proofs.PositionMismatch.push_one.Goals as goal

pub returns : goal.returns
unfolding with_run
returns c = rw (c.saturating_add.ensures, c.show_run-shown.ensures.value, c.show_run-shown.ensures.examples_after)
