use Rattle.sheet_write.proofs.Rows.{writes_end, writes_more}
use Rattle.sheet_write.proofs.put_rows.Goals as goal

pub loop-i-preserved : goal.loop-i-preserved
loop-i-preserved c = writes_more c.loop-i.invariant c.loop-i-test.true
    (rw c.item_at.ensures at c.put_row-at.ensures.0) (rw c.item_at.ensures at c.put_row-at.ensures.1) c.put_row-at.ensures.2

pub returns : goal.returns
returns c = writes_end c.loop-i.invariant c.loop-i-test.false
