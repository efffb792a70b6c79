-- `pool_collect::rewrite::placed_item` meets its contract: the noted offsets, and all else as it was. Assumes nothing.
use Rattle.pool_collect.proofs.rewrite.placed_item.Goals as goal

pub returns : goal.returns
returns c = c.with_keys.ensures
