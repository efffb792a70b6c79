-- What an accepted list has, and which list is accepted beside one. Assumes nothing.
use Prim.Native.Nat.{ℕ}
use mathlib.Core.List.{List}
use mathlib.Core.Path.{◌≡◌}
use mathlib.Core.Logic.{◌↔◌}
use Rattle.item_check.specs.Checks.{accepted, pool_verdict, list_verdict, check_verdict}
use Rattle.item_check.proofs.Laws.{AcceptedList, accepts, accepted_list}
use Rattle.item_lists.specs.Lists.{Accepted}

module _ (pool ws : List ℕ) where
  pub accepted_pool : Accepted pool ws → pool_verdict pool ≡ accepted
  accepted_pool h = ((accepts (pool_verdict pool) (list_verdict pool ws 0)).0 h).0

  pub list_of : Accepted pool ws → AcceptedList pool ws
  list_of h = (accepted_list pool 0 ws).0 ((accepts (pool_verdict pool) (list_verdict pool ws 0)).0 h).1

  -- on any side
  pub accepted_side : (side : ℕ) → check_verdict pool ws side ≡ accepted ↔ ((pool_verdict pool ≡ accepted) × AcceptedList pool ws)
  accepted_side side =
      let both = accepts (pool_verdict pool) (list_verdict pool ws side) in
      let list = accepted_list pool side ws in
      (λ e. ((both.0 e).0, list.0 (both.0 e).1), λ h. both.1 (h.0, list.1 h.1))

-- a sound list beside an accepted one, over the same pool
pub accepted_by : (pool A ws : List ℕ) → Accepted pool A → AcceptedList pool ws → Accepted pool ws
accepted_by pool A ws h a = (accepted_side pool ws 0).1 (accepted_pool pool A h, a)
