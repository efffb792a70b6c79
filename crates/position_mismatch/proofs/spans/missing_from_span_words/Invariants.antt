-- `missing_from_span_words` meets its contract. The invariant: what the pairs from i on make of the walk is what all make of the start. Assumes
-- nothing.
use Prim.Native.Nat.{◌-◌, ◌/◌}
use mathlib.Core.Path.{◌≡◌}
use lib.ListN.{length}
use Rattle.pairs_sort.specs.Pairs.{pairs_from, pairs}
use Rattle.position_mismatch.specs.Inner.{start_of, steps_of}
use Rattle.position_mismatch.proofs.spans.missing_from_span_words.Given as goal

abbrev pub invariant-loop-i : goal.invariant-loop-i
invariant-loop-i l = steps_of l.intervals l.walk (pairs_from l.spans l.i (length l.spans / 2 - l.i)) ≡ steps_of l.intervals (start_of l.intervals) (pairs l.spans (length l.spans / 2))
