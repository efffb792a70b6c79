-- `pool_collect::rewrite::rewrite_list` meets its contract. The invariant (`Rewriting`): the items from i on are as they were, and the whole
-- comes to what is left, written from i on. Assumes nothing.
use Rattle.pool_collect.proofs.Rewritten.{Rewriting}
use Rattle.pool_collect.proofs.rewrite.rewrite_list.Given as goal

abbrev pub invariant-loop-i : goal.invariant-loop-i
invariant-loop-i l = Rewriting l.places l.at l.initial.words l.i l.words
