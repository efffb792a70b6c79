-- `report_until` meets its contract. The invariant: the walk from here on ends as the whole walk does. Assumes nothing.
use mathlib.Core.Path.{◌≡◌}
use Rattle.position_mismatch.specs.Inner.{report_until, pairs_left}
use Rattle.position_mismatch.proofs.Walk.report_until.Given as goal

abbrev pub invariant-loop-i : goal.invariant-loop-i
invariant-loop-i l = (l.self.pair ≡ l.i)
    × (report_until (pairs_left l.intervals l.initial.self) l.initial.self l.to ≡ report_until (pairs_left l.intervals l.self) l.self l.to)
