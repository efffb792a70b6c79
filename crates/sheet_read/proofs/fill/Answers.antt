use Rattle.sheet_read.proofs.Filling.{filling_end, filling_puts, filling_more}
use Rattle.sheet_read.proofs.fill.Goals as goal

pub put_row-used-requires : goal.put_row-used-requires
put_row-used-requires c = filling_puts c.loop-row.invariant c.in-Some.row c.in-Some.after c.in-Some.ensures.found c.in-Some.ensures.shorter

pub loop-row-preserved : goal.loop-row-preserved
loop-row-preserved c = filling_more c.loop-row.invariant c.in-Some.row c.in-Some.after c.in-Some.ensures.found c.in-Some.ensures.shorter
    c.put_row-used.ensures.value c.put_row-used.ensures.pool_after c.put_row-used.ensures.out_after c.put_row-used.auto.pool

pub returns-clause-pool_after : goal.returns-clause-pool_after
returns-clause-pool_after c = (filling_end c.loop-row.invariant c.in_default.ensures.found).0

pub returns-clause-out_after : goal.returns-clause-out_after
returns-clause-out_after c = (filling_end c.loop-row.invariant c.in_default.ensures.found).1
