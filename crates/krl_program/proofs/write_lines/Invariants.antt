-- Each turn has written one line more.
use mathlib.Core.Path.{◌≡◌}
use Rattle.krl_program.proofs.write_lines.Given as goal

abbrev pub invariant-loop-i : goal.invariant-loop-i
invariant-loop-i g l = l.written ≡ l.i
