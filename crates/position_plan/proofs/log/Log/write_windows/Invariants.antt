-- `write_windows` meets its contract. The invariant is `Written`: the windows that are left, written after the n that are, make the whole. The
-- measure is how many are left. Assumes nothing.
use Prim.Native.Nat.{◌+◌, ◌*◌, ◌<◌}
use lib.ListN.{length}
use Rattle.position_plan.specs.Inner.{windows_from}
use Rattle.position_plan.proofs.Passes.{Written}
use Rattle.position_plan.proofs.log.Log.write_windows.Given as goal

abbrev pub invariant-loop-run : goal.invariant-loop-run
invariant-loop-run l = Written l.self.intervals.now l.self.proved.now l.self.most l.initial.out l.out l.run l.n × (l.run.start < l.run.end → 2 * l.n + 1 < length l.out)

abbrev pub decreases-loop-run : goal.decreases-loop-run
decreases-loop-run l = length (windows_from l.self.most l.self.intervals.now l.self.proved.now l.run.start)
