use Rattle.std.proofs.Common.{rules}
use Rattle.std.proofs.lemmas.Fn.{always_returns_same}
use lib.Seq.{length-take-le}
use Rattle.query_item.specs.Items.{bytes_of}
use Rattle.pool_collect.specs.Table.{is_below}
use Rattle.pool_collect.proofs.Indexed.{spot_by, told_below}
use Rattle.pool_collect.proofs.table.Keys.find_spot.Goals as goal

pub returns : goal.returns
returns c =
    let k = bytes_of c.args.pool.now c.args.key in
    let test = is_below c.args.pool.now c.args.self.now.order.now k in
    spot_by c.args.pool.now _ _ c.args.key _ test (length-take-le _ _ c.requires.table_long) c.requires.ascending (told_below c.requires k) c.partition_point.ensures.bound
    (c.partition_point.ensures.partitioned test (search (rules, always_returns_same)))
