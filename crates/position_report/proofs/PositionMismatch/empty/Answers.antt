-- `PositionMismatch::empty` meets its contract, by computation. Assumes nothing.
use mathlib.Core.Path.{refl}
use Rattle.position_report.specs.Reports.{report_of}
use Rattle.position_report.proofs.PositionMismatch.empty.Goals as goal

pub returns : goal.returns
unfolding report_of
returns c = refl
