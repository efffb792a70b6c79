-- `put_of_list` meets its contract: the title, or the item before the index. Assumes nothing.
use Rattle.krl_listing.proofs.Lines.{line_title, item_stored}
use Rattle.krl_listing.proofs.put_of_list.Goals as goal

pub returns-then-i-eq0 : goal.returns-then-i-eq0
returns-then-i-eq0 c = rw (line_title c.args.pool.now c.args.title.now c.args.words.now c.args.count c.args.i c.if-i-eq0.true) c.put_title.ensures

pub returns : goal.returns
returns c = item_stored c.args.pool.now c.args.title.now c.args.words.now c.args.count c.args.i c.if-i-eq0.false c.requires.1 c.args.out.now
    c.put_item.new.out c.put_item.result c.item_at.result c.query_item.result
    c.item_at.ensures c.query_item.ensures c.put_item.ensures
