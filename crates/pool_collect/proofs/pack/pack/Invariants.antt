-- `pool_collect::pack::pack` meets its contract. The invariant (`Packing`): the keys of the entries so far are written, up to `at`.
-- Assumes nothing.
use Rattle.pool_collect.proofs.Packs.{Packing}
use Rattle.pool_collect.proofs.pack.pack.Given as goal

abbrev pub invariant-loop-entry : goal.invariant-loop-entry
invariant-loop-entry l = Packing l.pool l.entries l.initial.fresh l.entry-index l.fresh l.at
