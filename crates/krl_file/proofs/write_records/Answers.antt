use mathlib.Core.Path.{◌∙◌}
use Rattle.krl_file.proofs.Written.{writing_more, writing_done}
use Rattle.krl_file.proofs.write_records.Goals as goal

pub loop-i-preserved : goal.loop-i-preserved
loop-i-preserved c =
    writing_more c.args.file.now c.args.from c.args.n c.args.out.now c.loop-i.out c.loop-i.i c.loop-i.invariant c.loop-i-test.true (c.write_item.ensures ∙ rw c.record_at.ensures)

pub returns : goal.returns
returns c = writing_done c.args.file.now c.args.from c.args.n c.args.out.now c.loop-i.out c.loop-i.i c.loop-i.invariant c.loop-i-test.false c.requires.1
