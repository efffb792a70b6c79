use native.Mathlib.Omega.{arith}
use mathlib.Core.Path.{◌∙◌}
use Rattle.insert.proofs.Raised.{raised_is}
use Rattle.insert.proofs.tail.shift_up.Goals as goal

pub returns : goal.returns
returns c = c.copy_within.ensures.after ∙ raised_is _ _ _ (omega arith) (omega arith)
