-- `keyless::is_empty` meets its contract: only the empty key has no byte. Assumes nothing.
use mathlib.Core.Path.{◌∙◌}
use Rattle.keyless.proofs.Next.{empty_length}
use Rattle.keyless.proofs.is_empty.Goals as goal

pub returns : goal.returns
returns c = c.is_empty.ensures ∙ empty_length c.args.b.now
