-- `put_numbers` meets its contract. The invariant: the count, and the bytes, with what is left of the examples are those of the start of the loop.
-- Assumes nothing.
use Prim.Native.Nat.{◌+◌, ◌*◌, ◌≤◌}
use mathlib.Core.Path.{◌≡◌}
use lib.ListN.{length}
use Rattle.lent_text.specs.Text.{stored}
use Rattle.position_describe.proofs.Laws.{left_of}
use Rattle.position_describe.proofs.put_numbers.Given as goal

abbrev pub invariant-loop-i : goal.invariant-loop-i
invariant-loop-i l = (length l.out ≡ length l.initial.out) × (l.n ≤ 22 * l.i) × (l.report.count ≤ length l.report.examples)
    × (l.n + length (left_of l.report.examples l.report.count l.i) ≡ l.initial.n + length (left_of l.report.examples l.report.count 1))
    × (stored l.out (l.at + l.n) (left_of l.report.examples l.report.count l.i) ≡ stored l.initial.out (l.at + l.initial.n) (left_of l.report.examples l.report.count 1))
