-- `pool_collect::gather::gather_list` meets its contract. The invariant (`Gathering`): what the whole list comes to is what the items left at
-- i come to from here on. Assumes nothing.
use Rattle.pool_collect.proofs.Passes.{Gathering}
use Rattle.pool_collect.proofs.gather.gather_list.Given as goal

abbrev pub invariant-loop-i : goal.invariant-loop-i
invariant-loop-i l = Gathering l.pool l.words l.initial.keys.order.now l.initial.places l.initial.keys.known l.initial.keys.used l.at l.i l.keys.order.now l.keys.table.now l.places l.keys.known l.keys.used
