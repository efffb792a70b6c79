-- A worked example of the reading A6, by computation. The pool has the keys 01 to 09, at the offsets 0 to 8. Assumes nothing.
use Prim.Native.Nat.{ℕ}
use mathlib.Core.Path.{◌≡◌, refl}
use mathlib.Core.List.{List, [], ◌∷◌}
use Rattle.key_order.specs.Order.{compare_numbers, compare_keys}
use Rattle.key_order.specs.Boundary.{compare_boundaries}
use Rattle.query_item.specs.declared.ItemWords.{ItemWords}
use Rattle.query_item.specs.Items.{key_at, item_words}
use Rattle.item_check.specs.Checks.{refused}
use Rattle.insert_order.specs.Order.{compare_items, same_item, ends_below, clashes}
use Rattle.insert_order.specs.Refusals.{first_clash, order_verdict}

abbrev pool : List ℕ
pool = 1 ∷ 2 ∷ 3 ∷ 4 ∷ 5 ∷ 6 ∷ 7 ∷ 8 ∷ 9 ∷ []

-- RangeInclusive with a wrapper
abbrev closed : ℕ → ℕ → ℕ → ItemWords
closed w a b = item_words 2 w (key_at a 1) (key_at b 1)

-- A6: [04,09] clashes with [01,05], past the wrapped [02,03] between them
past_wrapped : order_verdict pool (closed 0 0 4 ∷ closed 1 1 2 ∷ closed 0 3 8 ∷ []) ≡ refused 4 0 2
unfolding first_clash clashes compare_items same_item ends_below compare_boundaries compare_keys compare_numbers
past_wrapped = refl
