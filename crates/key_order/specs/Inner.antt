-- What private functions promise. Definitions only. Assumes nothing.
use Rattle.std.specs.Prelude.{ℕ, ◌≤◌, ◌≡◌, List, length, drop}
use Rattle.key_order.specs.Order.{compare_keys}

-- 02 §3.1: a place that both keys have, and from which on they stand as they do as a whole. Whether they agree before it is not said
pub record Reached (a b : List ℕ) (i : ℕ) : Type 0 where
  pub first : i ≤ length a
  pub second : i ≤ length b
  pub order : compare_keys a b ≡ compare_keys (drop i a) (drop i b)
