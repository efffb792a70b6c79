-- `put_byte` meets its contract: both digits, or what has room of them. Assumes nothing.
use Prim.Native.Nat.{◌+◌, ◌≤◌}
use mathlib.Core.Path.{◌∙◌}
use native.Mathlib.Numerals.{add-one}
use native.Mathlib.Omega.{arith}
use lib.ListN.{length}
use Rattle.lent_text.specs.Text.{stored}
use Rattle.lent_text.proofs.Laws.{stored_short}
use Rattle.key_text.proofs.put_byte.Goals as goal
use Rattle.key_text.proofs.put_byte.Goals.{else-at-out-via-then-at-out+else-i-out, else-at-out-via-else-at-out}

pub returns-then-i-out : goal.returns-then-i-out
unfolding stored
returns-then-i-out c = rw (← c.hex_digit.ensures, ← c.hex_digit-then-i-out.ensures, add-one (c.args.at + c.args.i))

pub returns-else-at-out : goal.returns-else-at-out
returns-else-at-out c =
    let full : length c.args.out.now ≤ c.args.at + c.args.i + 1 =
    elim c.else-at-out.branch [ else-at-out-via-then-at-out+else-i-out w ↦ omega arith | else-at-out-via-else-at-out w ↦ omega arith ] in
    c.put_past.ensures ∙ rw (← c.hex_digit-else-at-out.ensures) (stored_short _ _ _ _ full)
