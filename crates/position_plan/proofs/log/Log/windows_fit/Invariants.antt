-- `windows_fit` meets its contract. The invariant is `Passed`: n windows are passed, no more than there is room for, and those from the run on
-- are left. The measure is how many these are. Assumes nothing.
use Prim.Native.Nat.{◌≤◌}
use lib.ListN.{length}
use Rattle.position_plan.specs.Inner.{windows_from}
use Rattle.position_plan.proofs.Passes.{Passed}
use Rattle.position_plan.proofs.log.Log.windows_fit.Given as goal

abbrev pub invariant-loop-run : goal.invariant-loop-run
invariant-loop-run l = Passed l.self.intervals.now l.self.proved.now l.self.most l.run l.n × (l.n ≤ l.room)

abbrev pub decreases-loop-run : goal.decreases-loop-run
decreases-loop-run l = length (windows_from l.self.most l.self.intervals.now l.self.proved.now l.run.start)
