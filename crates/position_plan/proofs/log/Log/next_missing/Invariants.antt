-- `next_missing` meets its contract. The invariant is `Searched`: what is passed is below x, and nothing from the first row asked on, below x, is
-- missing. Assumes nothing.
use Rattle.position_plan.proofs.Search.{Searched}
use Rattle.position_plan.proofs.log.Log.next_missing.Given as goal

abbrev pub invariant-loop-i : goal.invariant-loop-i
invariant-loop-i l = Searched l.self.intervals.now l.self.proved.now l.from l.i l.j l.x
