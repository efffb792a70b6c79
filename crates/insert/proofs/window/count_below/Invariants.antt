-- `insert::window::count_below` meets its contract: the number of items below one. The invariant (`Halved`): those before low are below it,
-- those from high on are not. The measure is what lies between. Assumes nothing.
use Prim.Native.Nat.{◌-◌}
use Rattle.insert.proofs.Windows.{Halved}
use Rattle.insert.proofs.window.count_below.Given as goal

abbrev pub invariant-loop-low : goal.invariant-loop-low
invariant-loop-low l = Halved l.pool l.words l.count l.item l.low l.high

abbrev pub decreases-loop-low : goal.decreases-loop-low
decreases-loop-low l = l.high - l.low
