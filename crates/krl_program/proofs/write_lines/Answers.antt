-- `write_lines` meets its contract: every line that is asked for is there, and has room in the lent bytes, and it ends past the last one.
-- Assumes nothing.
use Rattle.std.proofs.Common.{arith}
use Rattle.krl_program.proofs.Laws.{lines_counted}
use Rattle.krl_program.proofs.write_lines.Goals as goal

pub count_lines-lines-requires : goal.count_lines-lines-requires
count_lines-lines-requires g c =
    let a = c.args in
    (lines_counted a.file.now a.shared_out.now a.ours_out.now a.theirs_out.now a.answer c.requires).1

pub line_of-n-requires : goal.line_of-n-requires
line_of-n-requires g c =
    let a = c.args in
    record {
      decided = c.requires;
      there = omega (arith, (lines_counted a.file.now a.shared_out.now a.ours_out.now a.theirs_out.now a.answer c.requires).0);
      room = omega arith;
    }

pub returns : goal.returns
returns g c =
    let a = c.args in
    omega (arith, (lines_counted a.file.now a.shared_out.now a.ours_out.now a.theirs_out.now a.answer c.requires).0)
