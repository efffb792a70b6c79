-- Insertion into a list of items: what becomes of each of its items, and what merges. Definitions only. Assumes nothing.
use Rattle.query_item.specs.declared.QueryItem.{QueryItem}
use Rattle.std.specs.Prelude.{ℕ, ◌≡◌, List, [], ◌∷◌, Bool, true, false, cond, not, ◌||◌, ◌&&◌, length, Option, None, Some}
use Rattle.key_order.specs.Order.{smaller}
use Rattle.query_item.specs.declared.ItemWords.{ItemWords}
use Rattle.query_item.specs.declared.RangeSetItem.{RangeSetItem}
use Rattle.query_item.specs.declared.RangeSet.{RangeSet}
use Rattle.query_item.specs.Items.{words_of}
use Rattle.query_item.specs.Boundaries.{compare_in, from_to, range_of, to_query_item}
use Rattle.insert_order.specs.Order.{plain, same_item, ends_below}
use Rattle.insert_merge.specs.declared.Fate.{Fate}
use Rattle.insert_merge.specs.declared.Found.{Found}
use Rattle.insert_merge.specs.declared.Fate.TheVariants.{Replaced, Stays, Merges}

-- ---- what becomes of the list's items

-- 01 m3.1, m5.5: two ranges are disjoint when one end is below the other start
abbrev pub disjoint : List ℕ → ItemWords → ItemWords → Bool
disjoint pool x y = ends_below pool x y || ends_below pool y x

-- 01 m5.2, m5.3, m5.4: an equal item is replaced; if either side is wrapped, both stay; plain items that are not disjoint merge
unfoldable pub fate_of : List ℕ → ItemWords → ItemWords → Fate
fate_of pool new it =
    cond (same_item pool new it) Replaced
    (cond (not (plain new && plain it)) Stays
    (cond (disjoint pool new it) Stays Merges))

abbrev pub keep_by : Fate → ItemWords → List ItemWords → List ItemWords
keep_by Replaced it its = its
keep_by Stays it its = it ∷ its
keep_by Merges it its = its

-- 01 m5.2: the items that stay
unfoldable pub staying : List ℕ → ItemWords → List ItemWords → List ItemWords
staying pool new [] = []
staying pool new (it ∷ its) = keep_by (fate_of pool new it) it (staying pool new its)

-- 01 m5.2: the same, an item at a time: whether it stays
abbrev pub is_staying : Fate → Bool
is_staying Replaced = false
is_staying Stays = true
is_staying Merges = false

-- ---- the result

-- 01 m5.4, reading A9: to the smaller start and the larger end; on a tie, bytes and kind, the new item's offset stays

abbrev pub smaller_start : List ℕ → RangeSetItem → RangeSetItem → RangeSetItem
smaller_start pool new old = smaller (compare_in pool old new) old new

abbrev pub larger_end : List ℕ → RangeSetItem → RangeSetItem → RangeSetItem
larger_end pool new old = smaller (compare_in pool new old) old new

abbrev pub hull : List ℕ → RangeSet → RangeSet → RangeSet
hull pool new old = from_to (smaller_start pool new.start old.start) (larger_end pool new.end old.end)

-- 01 m5.4: converted; two plain items that merge always make one
abbrev pub plain_item : ItemWords → Option QueryItem → ItemWords
plain_item it None = it
plain_item it (Some q) = words_of 0 q

unfoldable pub merged : List ℕ → ItemWords → ItemWords → ItemWords
merged pool new old = plain_item new (to_query_item pool (hull pool (range_of new) (range_of old)))

abbrev pub merge_by : List ℕ → Fate → ItemWords → ItemWords → ItemWords
merge_by pool Replaced cur it = cur
merge_by pool Stays cur it = cur
merge_by pool Merges cur it = merged pool cur it

-- 01 m5.4, reading A8: the new item with all that merge with it, in the list's order; where none does it stays as it is
unfoldable pub merged_with : List ℕ → ItemWords → ItemWords → List ItemWords → ItemWords
merged_with pool new cur [] = cur
merged_with pool new cur (it ∷ its) = merged_with pool new (merge_by pool (fate_of pool new it) cur it) its

-- 01 m5.2, m5.4: what a list comes to: the new item with all that merge with it, and how many items stay
pub record Finds (pool : List ℕ) (new : ItemWords) (its : List ItemWords) (found : Found) : Type 0 where
  pub result : found.result ≡ merged_with pool new new its
  pub stay : found.stay ≡ length (staying pool new its)
