-- `key_order::compare_from` meets its contract. The loop's invariant: the order asked for is that of what is left of the keys at `i`.
-- Assumes nothing.
use mathlib.Core.Path.{◌≡◌}
use lib.ListN.{drop}
use Rattle.key_order.specs.Order.{compare_keys}
use Rattle.key_order.proofs.compare_from.Given as goal

abbrev pub invariant-loop-i : goal.invariant-loop-i
invariant-loop-i l = compare_keys (drop l.from l.a) (drop l.from l.b) ≡ compare_keys (drop l.i l.a) (drop l.i l.b)
