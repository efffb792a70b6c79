-- `put_hex` meets its contract. The invariant: storing the text of what is left gives what storing the whole gives. Assumes nothing.
use Prim.Native.Nat.{◌+◌, ◌*◌}
use mathlib.Core.Path.{◌≡◌}
use lib.ListN.{drop}
use Rattle.lent_text.specs.Text.{stored}
use Rattle.key_text.specs.Text.{hex_text}
use Rattle.key_text.proofs.put_hex.Given as goal

abbrev pub invariant-loop-i : goal.invariant-loop-i
invariant-loop-i l = stored l.out (l.at + (1 + 2 * l.i)) (hex_text (drop l.i l.key)) ≡ stored l.initial.out (l.at + 1) (hex_text l.key)
