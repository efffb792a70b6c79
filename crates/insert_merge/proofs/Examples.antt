-- Worked examples of what becomes of an item where another is inserted, by computation. The pool has the key 05. Assumes nothing.
use Prim.Native.Nat.{ℕ}
use mathlib.Core.Path.{◌≡◌, refl}
use mathlib.Core.List.{List, [], ◌∷◌}
use Rattle.key_order.specs.Order.{compare_numbers, compare_keys}
use Rattle.key_order.specs.Boundary.{compare_boundaries}
use Rattle.query_item.specs.declared.ItemWords.{ItemWords}
use Rattle.query_item.specs.Items.{key_at, absent, item_words}
use Rattle.insert_order.specs.Order.{same_item, ends_below}
use Rattle.insert_merge.specs.declared.Fate.TheVariants.{Stays, Merges}
use Rattle.insert_merge.specs.Merge.{fate_of}

abbrev pool : List ℕ
pool = 5 ∷ []

-- all below the key, all up to it and with it, and all from it on

abbrev below : ItemWords
below = item_words 5 0 absent (key_at 0 1)

abbrev up_to : ItemWords
up_to = item_words 6 0 absent (key_at 0 1)

abbrev from : ItemWords
from = item_words 4 0 (key_at 0 1) absent

-- 01 m5.5: adjacent items stay, whichever is new
adjacent_stay : (fate_of pool from below ≡ Stays) × (fate_of pool below from ≡ Stays)
unfolding fate_of same_item ends_below compare_boundaries compare_keys compare_numbers
adjacent_stay = (refl, refl)

-- 01 m5.4: items that share a key merge, whichever is new
overlapping_merge : (fate_of pool from up_to ≡ Merges) × (fate_of pool up_to from ≡ Merges)
unfolding fate_of same_item ends_below compare_boundaries compare_keys compare_numbers
overlapping_merge = (refl, refl)
