-- `pool_collect::write_all` meets its contract: the fresh pool, ours, theirs. Assumes nothing.
use Rattle.pool_collect.specs.Table.{keys_in}
use Rattle.pool_collect.proofs.Both.{pack_ready, writes}
use Rattle.pool_collect.proofs.write_all.Goals as goal

pub pack-requires : goal.pack-requires
unfolding keys_in
pack-requires c = (pack_ready _ _ _ _ _ _ _ c.requires).1

pub returns : goal.returns
unfolding keys_in
returns c = writes _ _ _ _ _ _ _ c.requires c.pack.ensures c.rewrite_list.ensures c.rewrite_list-2.ensures
