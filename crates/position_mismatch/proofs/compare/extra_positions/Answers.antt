use native.Mathlib.Omega.{arith}
use Rattle.position_mismatch.proofs.Turns.{sorted_start, sorted_held, sorted_extra, sorted_end}
use Rattle.position_mismatch.proofs.compare.extra_positions.Goals as goal
use Rattle.position_mismatch.proofs.compare.extra_positions.Goals.{then-not-starts_by, else-not-starts_by}

pub loop-p-init : goal.loop-p-init
loop-p-init c = rw c.empty-report.ensures (sorted_start c.requires.sound.0 c.requires.sound.1)

pub loop-p-preserved : goal.loop-p-preserved
loop-p-preserved c = elim c.if-not-starts_by.branch [
  | then-not-starts_by w ↦ rw w.report-is (sorted_extra c.requires.sound.0 c.loop-p.invariant c.loop-p-test.true c.first_past-pair.ensures c.starts_by.ensures
      w.if-not-starts_by.true (omega arith) w.push_one.ensures)
  | else-not-starts_by w ↦ rw w.report-is (sorted_held c.requires.sound.0 c.loop-p.invariant c.loop-p-test.true c.first_past-pair.ensures c.starts_by.ensures w.if-not-starts_by.false)
]

pub returns : goal.returns
returns c = sorted_end c.requires.sound.0 c.loop-p.invariant c.loop-p-test.false
