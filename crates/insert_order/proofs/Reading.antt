-- How the test of the order reads a list: an item that is repeated, and the item before an index. Assumes nothing.
use Prim.Native.Nat.{ℕ, zero, suc, ◌+◌, ◌-◌, ◌≤◌, ◌<◌}
use mathlib.Core.Path.{◌≡◌, refl, sym, ◌∙◌}
use mathlib.Core.Bool.{Bool, true, false, not, ◌&&◌, true≢false}
use mathlib.Core.List.{List}
use native.Mathlib.Omega.{arith}
use native.Mathlib.Decide.{dec_lt}
use Rattle.key_order.proofs.Bools.{both_false}
use Rattle.query_item.specs.declared.ItemWords.{ItemWords}
use Rattle.query_item.specs.Items.{item_at, items_from}
use Rattle.insert_order.specs.Order.{compare_items, plain, same_item, ends_below}
use Rattle.insert_order.specs.Passes.{last_order, meets_plain, repeats}

-- ---- an item that is repeated

module _ (pool ws : List ℕ) (it : ItemWords) where
  -- an item at an index is another one
  abbrev pub Other : ℕ → Type 0
  Other j = same_item pool (item_at ws j) it ≡ false

  others_all : (a n : ℕ) → repeats pool (items_from ws a n) it ≡ false → (j : ℕ) → a ≤ j → j < a + n → Other j
  unfolding repeats items_from
  others_all a zero e j h l = absurd (omega arith)
  others_all a (suc n) e j h l =
      let both = (both_false (same_item pool (item_at ws a) it) (repeats pool (items_from ws (suc a) n) it)).0 e in
      elim (dec_lt a j) [
        | yes s ↦ others_all (suc a) n both.1 j (omega arith) (omega arith)
        | no s ↦ let f : j ≡ a = omega arith in rw f both.0
      ]

  others_none : (a n : ℕ) → ((j : ℕ) → a ≤ j → j < a + n → Other j) → repeats pool (items_from ws a n) it ≡ false
  unfolding repeats items_from
  others_none a zero h = refl
  others_none a (suc n) h = rw (h a (omega arith) (omega arith)) (others_none (suc a) n (λ j p q. h j (omega arith) (omega arith)))

  -- a test that is false exactly where all items from one index to another are other ones
  pub repeats_by : (a b : ℕ) (r : Bool) → (r ≡ false → (j : ℕ) → a ≤ j → j < b → Other j) → (((j : ℕ) → a ≤ j → j < b → Other j) → r ≡ false)
      → r ≡ repeats pool (items_from ws a (b - a)) it
  repeats_by a b r f g = go (repeats pool (items_from ws a (b - a)) it) refl r refl
    where
      go : (t : Bool) → repeats pool (items_from ws a (b - a)) it ≡ t → (s : Bool) → r ≡ s → r ≡ t
      go false e s h = g (λ j p q. others_all a (b - a) e j p (omega arith))
      go true e true h = h
      go true e false h = absurd (true≢false (sym e ∙ others_none a (b - a) (λ j p q. f h j p (omega arith))))

-- ---- the item before an index

module _ (pool ws : List ℕ) where
  pub last_before : (i : ℕ) (it : ItemWords) → (i ≡ 0 → ⊥) → last_order pool ws i it ≡ compare_items pool (item_at ws (i - 1)) it
  unfolding last_order
  last_before zero it h = absurd (h refl)
  last_before (suc i) it h = let e : suc i - 1 ≡ i = omega arith in rw e

  pub meets_before : (p : ℕ) (it : ItemWords) → (p ≡ 0 → ⊥) → meets_plain pool ws p it ≡ plain it && not (ends_below pool (item_at ws (p - 1)) it)
  unfolding meets_plain
  meets_before zero it h = absurd (h refl)
  meets_before (suc p) it h = let e : suc p - 1 ≡ p = omega arith in rw e
