-- `key_order::same_block` meets its contract. The loop's invariant: where no bit has differed, a place that decides (`Reached`) at the start of
-- the block is one `k` bytes on. Assumes nothing.
use Prim.Native.Nat.{◌+◌}
use mathlib.Core.Path.{◌≡◌}
use Rattle.key_order.specs.Inner.{Reached}
use Rattle.key_order.proofs.same_block.Given as goal

abbrev pub invariant-loop-k : goal.invariant-loop-k
invariant-loop-k l = l.apart ≡ 0 → Reached l.a l.b l.i → Reached l.a l.b (l.i + l.k)
