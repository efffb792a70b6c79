-- `lent_text::put` meets its contract: past the end nothing is stored. Assumes nothing.
use mathlib.Core.Path.{refl, sym}
use Rattle.lent_text.specs.Text.{stored}
use Rattle.lent_text.proofs.Laws.{stored_past}
use Rattle.lent_text.proofs.put.Goals as goal

pub returns-then-at-out : goal.returns-then-at-out
unfolding stored
returns-then-at-out c = refl

pub returns-else-at-out : goal.returns-else-at-out
returns-else-at-out c = sym (stored_past _ _ _ c.if-at-out.false)
