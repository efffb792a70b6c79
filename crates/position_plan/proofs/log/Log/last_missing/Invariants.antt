-- `last_missing` meets its contract. The invariant is `Backed`: what is passed is at or above t, and nothing from t on, below the row asked from,
-- is missing. Assumes nothing.
use Rattle.position_plan.proofs.Back.{Backed}
use Rattle.position_plan.proofs.log.Log.last_missing.Given as goal

abbrev pub invariant-loop-i : goal.invariant-loop-i
invariant-loop-i l = Backed l.self.intervals.now l.self.proved.now l.x l.i l.j l.t
