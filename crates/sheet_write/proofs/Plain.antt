-- What is accepted to be written: whole items, not too many, each of them plain. Assumes nothing.
use Prim.Native.Nat.{ℕ, ◌+◌, ◌-◌, ◌/◌, ◌%◌, ◌≤◌, ◌<◌}
use native.Mathlib.Numerals.{add-one}
use mathlib.Core.Path.{◌≡◌, refl}
use mathlib.Core.Bool.{Bool, true, false, cond, not}
use mathlib.Core.List.{List, [], ◌∷◌}
use mathlib.Core.Logic.{◌↔◌}
use native.Mathlib.Omega.{arith}
use lib.ListN.{length}
use lib.Dec.{eqb}
use borrow.Author.Tests.{eqb-true}
use Rattle.query_item.specs.declared.ItemWords.{ItemWords}
use Rattle.query_item.specs.Items.{item_size, item_at, items_from}
use Rattle.query_item.specs.Boundaries.{range_of, upright}
use Rattle.item_check.specs.Checks.{
  Verdict,
  accepted,
  and_then,
  fault_at,
  most_items,
  most_pool,
  wrapped,
  item_fault,
  upright_fault,
  pool_verdict,
  shape_verdict,
  first_bad,
  items_of,
}
use Rattle.item_check.proofs.Laws.{items_more, All, AllSound, InOrder, accepts, items_pass, shape_passes, pool_passes, first_none, sound_parts}
use Rattle.item_lists.specs.Lists.{Accepted}
use Rattle.item_lists.proofs.Accepted.{accepted_pool, list_of, accepted_side}
use Rattle.sheet_row.proofs.Laws.{PlainIn}
use Rattle.sheet_write.specs.Writing.{plain_fault, listed_verdict, plain_verdict}

module _ (pool : List ℕ) where
  -- nothing of 1, 2 and 5 is wrong with an item exactly where it is plain
  pub plain_parts : (it : ItemWords) → plain_fault pool it ≡ 0 ↔ PlainIn pool it
  plain_parts it =
      let both = first_none (item_fault pool it) (cond (wrapped it) 5 0) in (
        λ h. let b = both.0 h in (b.0, go (eqb it.wrapper 0) refl b.1),
        λ p. both.1 (p.0, rw p.1),
      )
    where
      go : (w : Bool) → eqb it.wrapper 0 ≡ w → ◌≡◌ {A = ℕ} (cond (not w) 5 0) 0 → it.wrapper ≡ 0
      go true e z = eqb-true it.wrapper 0 e
      go false e z = absurd (omega arith)

  each_plain : (its : List ItemWords) → All (λ it. plain_fault pool it ≡ 0) its ↔ All (PlainIn pool) its
  each_plain [] = (λ a. tt, λ a. tt)
  each_plain (it ∷ its) =
      let one = plain_parts it in
      let rest = each_plain its in
      (λ a. (one.0 a.0, rest.0 a.1), λ a. (one.1 a.0, rest.1 a.1))

-- the items from an index on: the first of them decides, or those after it
pub plain_step : (pool ws : List ℕ) (i count : ℕ) {it : ItemWords} {v : Verdict} → i < count → it ≡ item_at ws i → fault_at (plain_fault pool it) 0 i ≡ v
    → first_bad (plain_fault pool) 0 i (items_from ws i (count - i)) ≡ and_then v (first_bad (plain_fault pool) 0 (i + 1) (items_from ws (i + 1) (count - (i + 1))))
unfolding first_bad
plain_step pool ws i count h e is = rw (items_more ws i count h, ← e, is, add-one i)

-- what a list that is accepted has
pub record PlainList (pool ws : List ℕ) : Type 0 where
  pub small : length pool ≤ most_pool
  pub whole : length ws % item_size ≡ 0
  pub few : length ws / item_size ≤ most_items
  pub plain : All (PlainIn pool) (items_of ws)

-- a list passes exactly where that holds
pub plain_list : (pool ws : List ℕ) → plain_verdict pool ws ≡ accepted ↔ PlainList pool ws
plain_list pool ws =
    let listed = accepts (pool_verdict pool) (listed_verdict pool ws) in
    let shaped = accepts (shape_verdict ws 0) (first_bad (plain_fault pool) 0 0 (items_of ws)) in
    let shape = shape_passes ws 0 in
    let items = items_pass (plain_fault pool) 0 0 (items_of ws) in
    let each = each_plain pool (items_of ws) in (
      λ e.
          let a = listed.0 e in
          let b = shaped.0 a.1 in
          let s = shape.0 b.0 in
          record { small = (pool_passes pool).0 a.0; whole = s.0; few = s.1; plain = each.0 (items.0 b.1) },
      λ p. listed.1 ((pool_passes pool).1 p.small, shaped.1 (shape.1 (p.whole, p.few), items.1 (each.1 p.plain))),
    )

-- ---- beside what the algebra accepts

each_upright : (pool : List ℕ) (its : List ItemWords) → All (PlainIn pool) its
    → All (λ it. upright_fault pool it ≡ 0) its ↔ All (λ it. upright pool (range_of it) ≡ true) its
each_upright pool [] p = (λ a. tt, λ a. tt)
each_upright pool (it ∷ its) p =
    let rest = each_upright pool its p.1 in
    (λ a. ((sound_parts pool it a.0).2, rest.0 a.1), λ a. (rw (p.0.0, a.0), rest.1 a.1))

-- a list that can be written is accepted by the algebra exactly where its items are upright, and each starts above the end of the one before
pub plain_checked : (pool ws : List ℕ) → PlainList pool ws
    → Accepted pool ws ↔ (All (λ it. upright pool (range_of it) ≡ true) (items_of ws) × InOrder pool (items_of ws))
plain_checked pool ws p =
    let each = each_upright pool (items_of ws) p.plain in (
      λ e. let a = list_of pool ws e in (each.0 a.sound, a.in_order),
      λ u.
          (accepted_side pool ws 0).1 (
            (pool_passes pool).1 p.small,
            record { whole = p.whole; few = p.few; sound = each.1 u.0; in_order = u.1 },
          ),
    )

each_written : (pool : List ℕ) (its : List ItemWords) → AllSound pool its → All (λ it. it.wrapper ≡ 0) its → All (PlainIn pool) its
each_written pool [] s w = tt
each_written pool (it ∷ its) s w =
    ((((first_none (item_fault pool it) _).0 s.0).0, w.0), each_written pool its s.1 w.1)

-- what the algebra accepts can be written, if no item has a wrapper: each of the three lists of two accepted ones, if it has at most 2,048 items
pub checked_plain : (pool ws : List ℕ) → Accepted pool ws → All (λ it. it.wrapper ≡ 0) (items_of ws) → PlainList pool ws
checked_plain pool ws e w =
    let a = list_of pool ws e in
    record { small = (pool_passes pool).0 (accepted_pool pool ws e); whole = a.whole; few = a.few; plain = each_written pool (items_of ws) a.sound w }
