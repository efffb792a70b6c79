-- `lent_text::put_past` meets its contract: past the end nothing is stored. Assumes nothing.
use mathlib.Core.Path.{refl, sym}
use native.Mathlib.Omega.{arith}
use Rattle.lent_text.specs.Text.{stored}
use Rattle.lent_text.proofs.Laws.{stored_past}
use Rattle.lent_text.proofs.put_past.Goals as goal
use Rattle.lent_text.proofs.put_past.Goals.{else-at-out-via-then-at-out+else-i-out, else-at-out-via-else-at-out}

pub returns-then-i-out : goal.returns-then-i-out
unfolding stored
returns-then-i-out c = refl

pub returns-else-at-out : goal.returns-else-at-out
returns-else-at-out c = elim c.else-at-out.branch [
  | else-at-out-via-then-at-out+else-i-out w ↦ sym (stored_past _ _ _ (omega arith))
  | else-at-out-via-else-at-out w ↦ sym (stored_past _ _ _ (omega arith))
]
