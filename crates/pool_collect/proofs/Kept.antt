-- A list that passes the checks and whose keys are among those that are packed: over a pool that begins with these its rewritten words show
-- what it showed, so that all that goes by what a list shows stays as it was. Assumes nothing.
use Prim.Native.Nat.{ℕ, ◌/◌, ◌%◌, ◌≤◌}
use mathlib.Core.Path.{◌≡◌, refl, ap, ◌∙◌}
use mathlib.Core.List.{List, [], ◌++◌, append-nil}
use native.Mathlib.Omega.{arith}
use lib.ListN.{length, length-map}
use Rattle.query_item.specs.declared.ItemWords.{ItemWords}
use Rattle.query_item.specs.Items.{item_size, items_from, flat_all, SameShown}
use Rattle.item_check.specs.Checks.{accepted, most_items, item_fault, shape_verdict, first_bad, items_of, list_verdict}
use Rattle.item_check.proofs.Laws.{All, accepts, items_pass, shape_passes, strict_shown}
use Rattle.item_lists.proofs.Written.{length_flat}
use Rattle.item_lists.proofs.Read.{items_read_lem}
use Rattle.item_lists.proofs.Words.{length_items}
use Rattle.insert_order.specs.Refusals.{ordered_verdict}
use Rattle.insert_order.proofs.Shown.{order_verdict_shown}
use Rattle.pool_collect.specs.Collected.{packed, keys_of, moved_items, named_verdict, rewritten}
use Rattle.pool_collect.proofs.Moved.{items_shown, faults_moved, bad_moved, keys_moved, moved_again}
use Rattle.pool_collect.proofs.Distinct.{AllKnown}

-- what the checks of a list leave
pub record Checks (pool ws : List ℕ) : Type 0 where
  pub whole : length ws % item_size ≡ 0
  pub few : length ws / item_size ≤ most_items
  pub faultless : All (λ it. item_fault pool it ≡ 0) (items_of ws)

pub named_checks : (pool ws : List ℕ) (side : ℕ) → named_verdict pool ws side ≡ accepted → Checks pool ws
named_checks pool ws side e =
    let b = (accepts (shape_verdict ws side) (first_bad (item_fault pool) side 0 (items_of ws))).0 e in
    let s = (shape_passes ws side).0 b.0 in
    record { whole = s.0; few = s.1; faultless = (items_pass (item_fault pool) side 0 (items_of ws)).0 b.1 }

pub checks_named : (pool ws : List ℕ) (side : ℕ) → Checks pool ws → named_verdict pool ws side ≡ accepted
checks_named pool ws side c =
    (accepts (shape_verdict ws side) (first_bad (item_fault pool) side 0 (items_of ws))).1 (
      (shape_passes ws side).1 (c.whole, c.few),
      (items_pass (item_fault pool) side 0 (items_of ws)).1 c.faultless,
    )

-- ---- the rewritten words of a list

module _ (pool : List ℕ) (D : List (List ℕ)) (ws : List ℕ) (whole : length ws % item_size ≡ 0) where
  many : length (moved_items pool D (items_of ws)) ≡ length ws / item_size
  many = length-map (items_of ws) _ ∙ length_items ws 0 (length ws / item_size)

  pub length_rewritten : length (rewritten pool D ws) ≡ length ws
  length_rewritten = omega (arith, length_flat (moved_items pool D (items_of ws)), many)

  -- the items at the front of a buffer that begins with them
  pub items_front : (spare : List ℕ) → items_from (rewritten pool D ws ++ spare) 0 (length ws / item_size) ≡ moved_items pool D (items_of ws)
  items_front spare = rw many at (items_read_lem (moved_items pool D (items_of ws)) [] spare 0 refl)

  pub items_rewritten : items_of (rewritten pool D ws) ≡ moved_items pool D (items_of ws)
  items_rewritten = rw length_rewritten (rw append-nil at (items_front []))

-- ---- a list whose keys are among D, over a pool that begins with D, packed

module _ (pool : List ℕ) (D : List (List ℕ)) (rest ws : List ℕ) (c : Checks pool ws) (k : AllKnown D (keys_of pool (items_of ws))) where
  abbrev new : List ℕ
  new = packed D ++ rest

  abbrev its : List ItemWords
  its = items_of ws

  moved_is : items_of (rewritten pool D ws) ≡ moved_items pool D its
  moved_is = items_rewritten pool D ws c.whole

  -- it shows what it showed
  pub kept_shown : SameShown new pool (items_of (rewritten pool D ws)) its
  kept_shown = rw moved_is (items_shown pool D rest its c.faultless k)

  -- the algebra accepts it where it did, and refuses it as it did
  pub kept_list : (side : ℕ) → list_verdict new (rewritten pool D ws) side ≡ list_verdict pool ws side
  kept_list side = rw (
    moved_is,
    length_rewritten pool D ws c.whole,
    bad_moved pool D rest side 0 its c.faultless k,
    strict_shown new pool side (moved_items pool D its) its (items_shown pool D rest its c.faultless k),
  )

  -- and so does insertion
  pub kept_ordered : ordered_verdict new (moved_items pool D its) ≡ ordered_verdict pool its
  kept_ordered = rw (
    bad_moved pool D rest 0 0 its c.faultless k,
    order_verdict_shown new pool (moved_items pool D its) its (items_shown pool D rest its c.faultless k),
  )

  -- collecting takes it again, its keys are those that it had, and its words stay then

  pub kept_checks : Checks new (rewritten pool D ws)
  kept_checks = record {
    whole = omega (arith, length_rewritten pool D ws c.whole, c.whole);
    few = omega (arith, length_rewritten pool D ws c.whole, c.few);
    faultless = rw moved_is (faults_moved pool D rest its c.faultless k);
  }

  pub kept_keys : keys_of new (items_of (rewritten pool D ws)) ≡ keys_of pool its
  kept_keys = rw moved_is (keys_moved pool D rest its c.faultless k)

  pub kept_again : rewritten new D (rewritten pool D ws) ≡ rewritten pool D ws
  kept_again = rw moved_is (ap flat_all (moved_again pool D rest its c.faultless k))
