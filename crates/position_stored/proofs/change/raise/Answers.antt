-- `raise` meets its contract: no pair is left, or the first that is left starts later. Assumes nothing.
use Prim.Native.Nat.{◌<◌}
use native.Mathlib.Decide.{dec_lt}
use native.Mathlib.Omega.{arith}
use Rattle.position_stored.proofs.Turns.{raised_none, raised_some}
use Rattle.position_stored.proofs.change.raise.Goals as goal

pub returns-then-from-count : goal.returns-then-from-count
returns-then-from-count c = raised_none _ _ _ _ c.if-from-count.true

pub returns : goal.returns
returns c = let more : c.args.from < c.args.count = elim (dec_lt c.args.from c.args.count) [
  | yes u ↦ u
  | no u ↦ absurd (c.if-from-count.false (omega (arith, c.requires.0.placed)))
] in
    raised_some _ _ _ _ c.requires.0 more (c.requires.1 more) _ c.max-raised.ensures
