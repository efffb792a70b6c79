-- The order of keys and of boundaries at some examples. Assumes nothing.
use Rattle.std.specs.declared.cmp.Ordering.TheVariants.{Less, Equal, Greater}
use mathlib.Core.Path.{◌≡◌, refl}
use mathlib.Core.List.{[], ◌∷◌}
use Rattle.key_order.specs.Order.{compare_numbers, compare_keys}
use Rattle.key_order.specs.Boundary.{at_key, exclusive_end, exclusive_start, compare_boundaries}

empty : compare_keys [] [] ≡ Equal
unfolding compare_keys
empty = refl

prefix : compare_keys (7 ∷ []) (7 ∷ 0 ∷ []) ≡ Less
unfolding compare_keys compare_numbers
prefix = refl

first_byte : compare_keys (2 ∷ []) (1 ∷ 255 ∷ []) ≡ Greater
unfolding compare_keys compare_numbers
first_byte = refl

bytes_first : compare_boundaries (at_key (7 ∷ []) exclusive_start) (at_key (7 ∷ 0 ∷ []) exclusive_end) ≡ Less
unfolding compare_boundaries compare_keys compare_numbers
bytes_first = refl
