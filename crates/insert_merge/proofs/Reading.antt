-- How the passes that read go over a list, a turn at a time: what is left of it at an index. Each law takes what the turn's calls gave.
-- Assumes nothing.
use Prim.Native.Nat.{ℕ, ◌+◌, ◌-◌, ◌≤◌, ◌<◌}
use mathlib.Core.Path.{◌≡◌}
use mathlib.Core.Bool.{Bool}
use mathlib.Core.List.{List}
use lib.ListN.{length}
use Rattle.query_item.specs.declared.ItemWords.{ItemWords}
use Rattle.query_item.specs.Items.{item_at, items_from}
use Rattle.item_check.proofs.Scans.{items_end, items_more}
use Rattle.std.specs.Int.{from_bool}
use Rattle.insert_merge.specs.declared.Fate.{Fate}
use Rattle.insert_merge.specs.Merge.{fate_of, staying, merge_by, merged_with, is_staying}
use Rattle.insert_merge.proofs.Staying.{length_keep}

module _ (pool ws : List ℕ) (i count : ℕ) where
  abbrev left : ℕ → List ItemWords
  left j = items_from ws j (count - j)

  -- ---- what merges

  pub merged_more : (new cur : ItemWords) {cur' old : ItemWords} {fate : Fate} → i < count → old ≡ item_at ws i → fate ≡ fate_of pool new old
      → cur' ≡ merge_by pool fate cur old → merged_with pool new cur (left i) ≡ merged_with pool new cur' (left (i + 1))
  unfolding merged_with
  merged_more new cur h p q r = rw (r, q, p, items_more ws i count h)

  pub merged_end : (new cur : ItemWords) → count ≤ i → merged_with pool new cur (left i) ≡ cur
  unfolding merged_with
  merged_end new cur h = rw (items_end ws i count h)

  -- ---- how many stay

  pub stay_more : (new : ItemWords) {old : ItemWords} {fate : Fate} {t : Bool} {n : ℕ} → i < count → old ≡ item_at ws i → fate ≡ fate_of pool new old
      → t ≡ is_staying fate → n ≡ from_bool t → length (staying pool new (left i)) ≡ n + length (staying pool new (left (i + 1)))
  unfolding staying
  stay_more new h p q r s =
      rw (s, r, q, p, items_more ws i count h) (length_keep (fate_of pool new (item_at ws i)) (item_at ws i) (staying pool new (left (i + 1))))

  pub stay_end : (new : ItemWords) → count ≤ i → length (staying pool new (left i)) ≡ 0
  unfolding staying
  stay_end new h = rw (items_end ws i count h)
