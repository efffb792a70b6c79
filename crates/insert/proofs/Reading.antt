-- How the passes that read go over a list, a turn at a time: what is left of it at an index. Each law takes what the turn's calls gave.
-- Assumes nothing.
use Prim.Native.Nat.{ℕ, ◌-◌, ◌≤◌, ◌<◌}
use mathlib.Core.Path.{◌≡◌}
use mathlib.Core.Bool.{false}
use mathlib.Core.List.{List}
use Rattle.query_item.specs.declared.ItemWords.{ItemWords}
use Rattle.query_item.specs.Items.{item_at, items_from}
use Rattle.item_check.proofs.Scans.{items_end, items_more}
use Rattle.insert.specs.Passes.{keeps_place, first_changed}

module _ (pool ws : List ℕ) (i count : ℕ) where
  abbrev left : ℕ → List ItemWords
  left j = items_from ws j (count - j)

  pub first_here : (new result : ItemWords) {old : ItemWords} → i < count → old ≡ item_at ws i → keeps_place pool new result old ≡ false
      → first_changed pool new result (left i) ≡ 0
  unfolding first_changed
  first_here new result h p q = rw (items_more ws i count h, ← p, q)

  pub first_end : (new result : ItemWords) → count ≤ i → first_changed pool new result (left i) ≡ 0
  unfolding first_changed
  first_end new result h = rw (items_end ws i count h)
