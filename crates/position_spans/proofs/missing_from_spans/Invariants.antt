-- `missing_from_spans` meets its contract: the walk after the first spans is `Stepped`. Assumes nothing.
use Rattle.position_spans.proofs.Stepped.{Stepped}
use Rattle.position_spans.proofs.missing_from_spans.Given as goal

abbrev pub invariant-loop-span : goal.invariant-loop-span
invariant-loop-span l = Stepped l.intervals l.spans l.walk l.span-index
