-- `lent_text::put_text` meets its contract. The invariant: storing what is left of the text gives what storing the whole gives. Assumes nothing.
use Prim.Native.Nat.{◌+◌}
use mathlib.Core.Path.{◌≡◌}
use lib.ListN.{drop}
use Rattle.lent_text.specs.Text.{stored}
use Rattle.lent_text.proofs.put_text.Given as goal

abbrev pub invariant-loop-i : goal.invariant-loop-i
invariant-loop-i l = stored l.out (l.at + l.i) (drop l.i l.text) ≡ stored l.initial.out l.at l.text
