-- Worked examples of the definitions. Assumes nothing.
use Rattle.std.specs.Prelude.{Ok}
use Prim.Native.Nat.{ℕ}
use mathlib.Core.Path.{◌≡◌, refl}
use mathlib.Core.List.{List, [], ◌∷◌}
use Rattle.key_order.specs.Order.{compare_numbers, compare_keys}
use Rattle.key_order.specs.Boundary.{compare_boundaries}
use Rattle.query_item.specs.Items.{item_at, items_from, flat_all}
use Rattle.item_check.specs.Checks.{refused, first_bad}
use Rattle.pool_collect.specs.Collected.{keys_of, is_known, add_key, gather, packed, together, offset_in, collect_answer, collect_bytes, collect_words}

-- four keys in the pool 09 05 07 05: ours is [05,07); theirs are 09, all up to the empty key, which stands at 4, and the other 05

abbrev pool : List ℕ
pool = 9 ∷ 5 ∷ 7 ∷ 5 ∷ []

abbrev ours : List ℕ
ours = 1 ∷ 0 ∷ 1 ∷ 1 ∷ 2 ∷ 1 ∷ []

abbrev theirs : List ℕ
theirs = 0 ∷ 0 ∷ 0 ∷ 1 ∷ 0 ∷ 0 ∷ 6 ∷ 0 ∷ 0 ∷ 0 ∷ 4 ∷ 0 ∷ 0 ∷ 3 ∷ 3 ∷ 1 ∷ 0 ∷ 0 ∷ []

abbrev fresh : List ℕ
fresh = 1 ∷ 1 ∷ 1 ∷ 1 ∷ []

-- 05, 07 and 09 are written, and the last byte stays; ours has 05 at 0 and 07 at 1, theirs 09 at 2, the empty key at 0 and 05 at 0

three_used : collect_answer pool fresh ours theirs ≡ Ok 3
unfolding item_at items_from first_bad keys_of gather add_key is_known together compare_keys compare_numbers
three_used = refl

three_written : collect_bytes pool fresh ours theirs ≡ 5 ∷ 7 ∷ 9 ∷ 1 ∷ []
unfolding item_at items_from first_bad keys_of gather add_key is_known together packed compare_keys compare_numbers
three_written = refl

ours_moved : collect_words pool fresh ours theirs ours ≡ 1 ∷ 0 ∷ 0 ∷ 1 ∷ 1 ∷ 1 ∷ []
unfolding item_at items_from first_bad keys_of gather add_key is_known together offset_in flat_all compare_keys compare_numbers
ours_moved = refl

theirs_moved : collect_words pool fresh ours theirs theirs ≡ 0 ∷ 0 ∷ 2 ∷ 1 ∷ 0 ∷ 0 ∷ 6 ∷ 0 ∷ 0 ∷ 0 ∷ 0 ∷ 0 ∷ 0 ∷ 3 ∷ 0 ∷ 1 ∷ 0 ∷ 0 ∷ []
unfolding item_at items_from first_bad keys_of gather add_key is_known together offset_in flat_all compare_keys compare_numbers
theirs_moved = refl

-- into two bytes they do not fit, and nothing is written

two_refused : collect_answer pool (1 ∷ 1 ∷ []) ours theirs ≡ refused 6 0 0
unfolding item_at items_from first_bad keys_of gather add_key is_known together compare_keys compare_numbers
two_refused = refl

two_left : collect_bytes pool (1 ∷ 1 ∷ []) ours theirs ≡ 1 ∷ 1 ∷ []
unfolding item_at items_from first_bad keys_of gather add_key is_known together compare_keys compare_numbers
two_left = refl

two_stay : collect_words pool (1 ∷ 1 ∷ []) ours theirs theirs ≡ theirs
unfolding item_at items_from first_bad keys_of gather add_key is_known together compare_keys compare_numbers
two_stay = refl

-- an item that is not upright, and items in no order, are taken: [07,05) and 09 before 05
unordered_taken : collect_answer pool fresh (1 ∷ 0 ∷ 2 ∷ 1 ∷ 1 ∷ 1 ∷ []) (0 ∷ 0 ∷ 0 ∷ 1 ∷ 0 ∷ 0 ∷ 0 ∷ 0 ∷ 1 ∷ 1 ∷ 0 ∷ 0 ∷ []) ≡ Ok 3
unfolding item_at items_from first_bad keys_of gather add_key is_known together compare_keys compare_numbers compare_boundaries
unordered_taken = refl

-- keys that overlap in the old pool stand apart in the fresh one, which may need more bytes: 05 and 05 05, of a pool of two
overlaps_parted : collect_bytes (5 ∷ 5 ∷ []) (0 ∷ 0 ∷ 0 ∷ []) (1 ∷ 0 ∷ 0 ∷ 1 ∷ 0 ∷ 2 ∷ []) [] ≡ 5 ∷ 5 ∷ 5 ∷ []
unfolding item_at items_from first_bad keys_of gather add_key is_known together packed compare_keys compare_numbers
overlaps_parted = refl
