use mathlib.Core.Path.{ap, ◌∙◌}
use native.Mathlib.Omega.{arith}
use Rattle.position_report.specs.declared.PositionMismatch.{PositionMismatch}
use Rattle.position_mismatch.specs.declared.Walk.{Walk}
use Rattle.position_mismatch.proofs.Turns.{seen_start, seen_more, seen_end}
use Rattle.position_mismatch.proofs.compare.missing_positions.Goals as goal

pub loop-p-init : goal.loop-p-init
loop-p-init c = rw c.begin-walk.ensures (seen_start c.requires.sound.0 c.requires.sound.1)

pub loop-p-preserved : goal.loop-p-preserved
loop-p-preserved c = seen_more c.requires.sound.0 (record { fits = λ k. omega (arith, c.type_inv.proved k) }) c.loop-p.invariant
    c.loop-p-test.true c.saturating_add.ensures c.over_span.ensures

pub returns : goal.returns
returns c = ap {B = PositionMismatch} (λ (w : Walk). w.report) c.report_until.ensures
    ∙ seen_end c.requires.sound.0 (record { fits = λ k. omega (arith, c.type_inv.intervals k) }) c.loop-p.invariant c.loop-p-test.false
