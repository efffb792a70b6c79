-- Every key of a pool is no larger than the pool, so that ranks at the pool's size serve for all of its boundaries. Assumes nothing.
use Prim.Native.Nat.{ℕ, zero, suc, ◌≤◌}
use mathlib.Core.List.{List, [], ◌∷◌}
use native.Mathlib.Omega.{arith}
use lib.ListN.{take, drop}
use Rattle.key_order.proofs.Line.{size}
use Rattle.key_order.proofs.Ranks.{extent}
use Rattle.query_item.specs.declared.KeyAt.{KeyAt}
use Rattle.query_item.specs.declared.RangeSetItem.{RangeSetItem}
use Rattle.query_item.specs.declared.RangeSetItem.TheVariants.{UnboundedStart, UnboundedEnd, Inclusive, ExclusiveStart, ExclusiveEnd}
use Rattle.query_item.specs.Items.{bytes_of}
use Rattle.query_item.specs.Boundaries.{boundary_of}

size_take : (n : ℕ) (l : List ℕ) → size (take n l) ≤ size l
unfolding size
size_take zero l = omega arith
size_take (suc n) [] = omega arith
size_take (suc n) (x ∷ l) = omega (arith, size_take n l)

size_drop : (n : ℕ) (l : List ℕ) → size (drop n l) ≤ size l
unfolding size
size_drop zero l = omega arith
size_drop (suc n) [] = omega arith
size_drop (suc n) (x ∷ l) = omega (arith, size_drop n l)

module _ (pool : List ℕ) where
  pub key_fits : (k : KeyAt) → size (bytes_of pool k) ≤ size pool
  key_fits k = omega (arith, size_take k.length (drop k.offset pool), size_drop k.offset pool)

  pub boundary_fits : (x : RangeSetItem) → extent (boundary_of pool x) ≤ size pool
  boundary_fits UnboundedStart = omega arith
  boundary_fits UnboundedEnd = omega arith
  boundary_fits (Inclusive k) = key_fits k
  boundary_fits (ExclusiveStart k) = key_fits k
  boundary_fits (ExclusiveEnd k) = key_fits k
