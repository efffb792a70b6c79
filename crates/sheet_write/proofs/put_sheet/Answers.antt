-- `sheet_write::put_sheet` meets its contract: the rows are counted, and written where there is room for them. Assumes nothing.
use Rattle.sheet_write.proofs.Room.{room_written}
use Rattle.sheet_write.proofs.put_sheet.Goals as goal

pub returns : goal.returns
returns c =
    let all = room_written _ c.args.out.now c.put_rows-n.result c.put_rows-n.ensures.0 c.put_rows.new.out c.put_rows.result c.if-out-n.false c.put_rows.ensures.0 c.put_rows.ensures.1 in
    record { result_value = all.0; out_after = all.1 }
