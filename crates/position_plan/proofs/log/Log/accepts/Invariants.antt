-- `accepts` meets its contract. The invariant is `Judges`: the plan is good exactly if the windows that are left are, for the missing rows from
-- the first run on. Assumes nothing.
use Prim.Native.Nat.{◌/◌}
use lib.ListN.{length}
use Rattle.position_plan.proofs.Judging.{Judges}
use Rattle.position_plan.proofs.log.Log.accepts.Given as goal

abbrev pub invariant-loop-i : goal.invariant-loop-i
invariant-loop-i l = Judges l.self.intervals.now l.self.proved.now l.self.most l.windows (length l.windows / 2) l.first l.i
