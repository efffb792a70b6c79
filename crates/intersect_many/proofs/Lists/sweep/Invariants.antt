-- `sweep` meets its contract: in every turn the three lists have what the pass over the ranges behind both indexes gives, the two items at them are
-- the whole of a and b, and what is left of these their rests (`Swept`). The measure is how many items of both lists are still to come. Assumes nothing.
use Prim.Native.Nat.{◌+◌, ◌-◌}
use mathlib.Core.Path.{◌≡◌}
use Rattle.query_item.specs.Boundaries.{set_at}
use Rattle.intersect_many.proofs.Swept.{Swept}
use Rattle.intersect_many.proofs.Lists.sweep.Given as goal

abbrev pub invariant-loop-i : goal.invariant-loop-i
invariant-loop-i l = Swept l.self.pool.now l.self.ours.now l.self.theirs.now l.initial.shared_out l.initial.ours_out l.initial.theirs_out l.shared_out l.ours_out l.theirs_out l.n l.i l.j l.a.left l.b.left × (l.a.whole ≡ set_at l.self.ours.now l.i) × (l.b.whole ≡ set_at l.self.theirs.now l.j)

abbrev pub decreases-loop-i : goal.decreases-loop-i
decreases-loop-i l = (l.our_count - l.i) + (l.their_count - l.j)
