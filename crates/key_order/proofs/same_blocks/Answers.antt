use borrow.Author.Rules.{rules}
use Rattle.key_order.proofs.Turns.{reached_start}
use Rattle.key_order.proofs.same_blocks.Goals as goal

pub loop-i-init : goal.loop-i-init
loop-i-init c = (search rules, reached_start _ _)

pub loop-i-preserved : goal.loop-i-preserved
loop-i-preserved c = (search rules, c.same_block.ensures c.if-not-same_block.false c.loop-i.invariant.1)
