-- `pool_collect::gather_both` meets its contract: ours, then theirs. Assumes nothing.
use Rattle.pool_collect.proofs.Both.{ready_ours, completes}
use Rattle.pool_collect.proofs.gather_both.Goals as goal

pub gather_list-requires : goal.gather_list-requires
gather_list-requires c = rw (c.requires.1, c.requires.2) (ready_ours _ _ _ _ _ _ c.requires.0, c.requires.0.ours_ok.inside)

pub returns : goal.returns
returns c = let ours = rw (c.requires.1, c.requires.2) at c.gather_list.ensures in
    completes _ _ _ _ _ _ c.requires.0 ours c.gather_list-2.ensures
