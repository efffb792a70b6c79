use Rattle.pool_collect.proofs.Passes.{gathering_more, gathering_end}
use Rattle.pool_collect.proofs.gather.gather_list.Goals as goal

pub loop-i-preserved : goal.loop-i-preserved
loop-i-preserved c = gathering_more _ _ _ _ _ _ _ _ c.requires.0 _ _ _ _ _ _ c.loop-i.invariant c.loop-i-test.true c.item_at.ensures c.gather_item.ensures

pub returns : goal.returns
returns c = gathering_end _ _ _ _ _ _ _ _ c.requires.0 _ _ _ _ _ _ c.loop-i.invariant c.loop-i-test.false
