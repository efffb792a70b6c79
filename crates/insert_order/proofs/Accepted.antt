-- What the accepted have: an item is of a known code, its keys are in the pool, and it is upright; a list is of such items, in order; a
-- count is within its buffer. Assumes nothing.
use Prim.Native.Nat.{ℕ, ◌/◌, ◌≤◌, ◌<◌}
use mathlib.Core.Path.{◌≡◌, sym, ◌∙◌}
use mathlib.Core.Bool.{true, false, ◌||◌}
use mathlib.Core.List.{List, []}
use native.Mathlib.Omega.{arith}
use native.Mathlib.Nat.{le_refl}
use lib.ListN.{length}
use lib.Dec.{ltb}
use borrow.Author.Tests.{ltb-false, leb-true}
use Rattle.key_order.proofs.Line.{size}
use Rattle.query_item.specs.declared.ItemWords.{ItemWords}
use Rattle.query_item.proofs.Laws.{at_most_rank}
use Rattle.query_item.specs.Items.{item_size, item_at, items_from}
use Rattle.query_item.specs.Boundaries.{range_of, upright}
use Rattle.item_check.specs.Checks.{refusal, accepted, and_then, malformed, outside, upright_fault, most_items, pool_verdict, fault_at, first_bad}
use Rattle.item_check.proofs.Laws.{both_false, accepts, refuses, items_pass, sound_parts, fault_passes}
use Rattle.insert_order.specs.Refusals.{buffer_verdict, order_verdict, ordered_verdict, input_verdict}
use Rattle.insert_order.proofs.Ranked.{rk, lo, hi}
use Rattle.insert_order.proofs.Ordered.{Among, all_among, among_all, accepted_ordered, Sorted, ordered_sorted, among_at}

module _ (pool : List ℕ) where
  -- an accepted item: well formed, its keys in the pool, and upright
  pub record Good (it : ItemWords) : Type 0 where
    pub formed : malformed it ≡ false
    pub inside : outside pool it ≡ false
    pub standing : upright pool (range_of it) ≡ true

  pub good : (it : ItemWords) → upright_fault pool it ≡ 0 → Good it
  good it e = let p = sound_parts pool it e in record { formed = p.0; inside = p.1; standing = p.2 }

  pub good_fault : (it : ItemWords) → Good it → upright_fault pool it ≡ 0
  good_fault it g = rw (g.formed, g.inside, g.standing)

  -- its start ranks no higher than its end
  pub upright_ranks : (it : ItemWords) → upright_fault pool it ≡ 0 → lo (size pool) pool it ≤ hi (size pool) pool it
  unfolding rk
  upright_ranks it e =
      leb-true _ _ (sym (at_most_rank pool (size pool) (le_refl (size pool)) (range_of it).start (range_of it).end) ∙ (good it e).standing)

  -- ---- the list

  pub items_good : (i : ℕ) (its : List ItemWords) → first_bad (upright_fault pool) 0 i its ≡ accepted → (x : ItemWords) → Among x its → Good x
  items_good i its e x m = good x (all_among (λ it. upright_fault pool it ≡ 0) its ((items_pass (upright_fault pool) 0 i its).0 e) x m)

  pub good_items : (i : ℕ) (its : List ItemWords) → ((x : ItemWords) → Among x its → Good x) → first_bad (upright_fault pool) 0 i its ≡ accepted
  good_items i its f =
      (items_pass (upright_fault pool) 0 i its).1 (among_all (λ it. upright_fault pool it ≡ 0) its (λ x m. good_fault x (f x m)))

  pub items_upright : (i : ℕ) (its : List ItemWords) → first_bad (upright_fault pool) 0 i its ≡ accepted → (x : ItemWords) → Among x its
      → lo (size pool) pool x ≤ hi (size pool) pool x
  items_upright i its e x m = upright_ranks x (good_fault x (items_good i its e x m))

  pub upright_at : (ws : List ℕ) (count : ℕ) → first_bad (upright_fault pool) 0 0 (items_from ws 0 count) ≡ accepted → (j : ℕ) → j < count
      → lo (size pool) pool (item_at ws j) ≤ hi (size pool) pool (item_at ws j)
  upright_at ws count e j h = items_upright 0 (items_from ws 0 count) e (item_at ws j) (among_at pool ws 0 count j (omega arith) (omega arith))

  pub accepted_items : (its : List ItemWords) → ordered_verdict pool its ≡ accepted → first_bad (upright_fault pool) 0 0 its ≡ accepted
  accepted_items its e = ((accepts (first_bad (upright_fault pool) 0 0 its) (order_verdict pool its)).0 e).0

  pub accepted_order : (its : List ItemWords) → ordered_verdict pool its ≡ accepted → order_verdict pool its ≡ accepted
  accepted_order its e = ((accepts (first_bad (upright_fault pool) 0 0 its) (order_verdict pool its)).0 e).1

  pub accepted_sorted : (its : List ItemWords) → ordered_verdict pool its ≡ accepted → Sorted pool its
  accepted_sorted its e = ordered_sorted pool its (accepted_ordered pool 0 [] its (accepted_order its e)).1

-- ---- the input

module _ (pool ws : List ℕ) (count : ℕ) (new : ItemWords) (e : input_verdict pool ws count new ≡ accepted) where
  past_pool : and_then (buffer_verdict ws count) (and_then (ordered_verdict pool (items_from ws 0 count)) (fault_at (upright_fault pool new) 1 0)) ≡ accepted
  past_pool = ((accepts (pool_verdict pool) _).0 e).1

  past_buffer : and_then (ordered_verdict pool (items_from ws 0 count)) (fault_at (upright_fault pool new) 1 0) ≡ accepted
  past_buffer = ((accepts (buffer_verdict ws count) _).0 past_pool).1

  pub input_pool : pool_verdict pool ≡ accepted
  input_pool = ((accepts (pool_verdict pool) _).0 e).0

  pub input_buffer : buffer_verdict ws count ≡ accepted
  input_buffer = ((accepts (buffer_verdict ws count) _).0 past_pool).0

  pub input_count : count ≤ length ws / item_size
  input_count =
      let tests = ltb (length ws / item_size) count || ltb most_items count in
      ltb-false _ _ ((both_false (ltb (length ws / item_size) count) (ltb most_items count)).0 ((refuses tests (refusal 1 0 0)).0 input_buffer)).0

  pub input_list : ordered_verdict pool (items_from ws 0 count) ≡ accepted
  input_list = ((accepts (ordered_verdict pool (items_from ws 0 count)) _).0 past_buffer).0

  pub input_new : upright_fault pool new ≡ 0
  input_new = (fault_passes (upright_fault pool new) 1 0).0 ((accepts (ordered_verdict pool (items_from ws 0 count)) _).0 past_buffer).1

-- ---- a list that an insertion accepts: pool, count and items pass the checks

pub record Ready (pool ws : List ℕ) (count : ℕ) : Type 0 where
  pub small : pool_verdict pool ≡ accepted
  pub within : buffer_verdict ws count ≡ accepted
  pub listed : ordered_verdict pool (items_from ws 0 count) ≡ accepted
