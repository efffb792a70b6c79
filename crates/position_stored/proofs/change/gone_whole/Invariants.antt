-- `gone_whole` meets its contract. The invariant is `Going`: what is left of the pairs, cut, is what all of them are, cut. Assumes nothing.
use mathlib.Core.Path.{◌≡◌}
use Rattle.position_stored.specs.Inner.{Going}
use Rattle.position_stored.proofs.change.gone_whole.Given as goal

abbrev pub invariant-loop-i : goal.invariant-loop-i
invariant-loop-i l = (l.whole.from ≡ l.i) × Going l.words l.count l.from l.e l.i l.whole.gone
