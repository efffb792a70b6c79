-- `query_item::RangeSet::to_query_item` meets its contract where no bytes decide: what holds of every pool holds of this one. Assumes nothing.
use Rattle.std.proofs.Common.{◌∙◌}
use Rattle.query_item.proofs.RangeSet.to_query_item.Goals as goal

pub returns-in-ExclusiveStart : goal.returns-in-ExclusiveStart
returns-in-ExclusiveStart c = c.item_after.ensures c.args.pool.now ∙ rw c.in-ExclusiveStart.is

pub returns-in-UnboundedStart : goal.returns-in-UnboundedStart
returns-in-UnboundedStart c = c.item_to.ensures c.args.pool.now ∙ rw c.in-UnboundedStart.is
