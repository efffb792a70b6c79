use Rattle.pool_collect.proofs.Rewritten.{rewriting_more, rewriting_end}
use Rattle.pool_collect.proofs.rewrite.rewrite_list.Goals as goal

pub loop-i-preserved : goal.loop-i-preserved
loop-i-preserved c = rewriting_more _ _ _ _ _ c.loop-i.invariant c.loop-i-test.true c.item_at-item.ensures c.placed_item.ensures c.write_item.ensures

pub returns : goal.returns
returns c = rewriting_end _ _ _ _ _ c.loop-i.invariant c.loop-i-test.false c.requires.whole
