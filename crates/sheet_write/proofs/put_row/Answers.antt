-- `sheet_write::put_row` meets its contract: the name, a field for each key, CR LF, one after another (`row_stored`). Assumes nothing.
use native.Mathlib.Omega.{arith}
use Rattle.sheet_write.proofs.Stored.{row_stored}
use Rattle.sheet_write.proofs.put_row.Goals as goal

pub returns : goal.returns
returns c = let all = row_stored c.args.out.now c.put_name-a.new.out c.put_field-b.new.out c.put_field-c.new.out c.put_text-d.new.out
    c.args.at c.put_name-a.result c.put_field-b.result c.put_field-c.result c.put_text-d.result c.args.pool.now c.args.item _ _
    c.has_start.ensures c.has_end.ensures
    c.put_name-a.ensures.1 c.put_name-a.ensures.0 c.put_field-b.ensures.1 c.put_field-b.ensures.0 c.put_field-c.ensures.1 c.put_field-c.ensures.0 c.put_text-d.ensures.1 c.put_text-d.ensures.0 in
    (all.0, all.1, omega (arith, c.put_name-a.ensures.2, c.put_field-b.ensures.2, c.put_field-c.ensures.2, c.put_text-d.ensures.0))
