-- `krl_file::write_records` meets its contract. The loop's invariant: i records are written, and those that are left are still to be written after
-- them. Assumes nothing.
use Rattle.krl_file.proofs.Written.{Writing}
use Rattle.krl_file.proofs.write_records.Given as goal

abbrev pub invariant-loop-i : goal.invariant-loop-i
invariant-loop-i l = Writing l.file l.from l.n l.initial.out l.out l.i
