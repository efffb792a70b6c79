-- Worked lists with ranges that hold no key, by computation. Assumes nothing.
use Rattle.std.specs.Prelude.{Ok}
use Prim.Native.Nat.{ℕ}
use mathlib.Core.Path.{◌≡◌, refl}
use mathlib.Core.List.{List, [], ◌∷◌, ◌++◌}
use Rattle.key_order.specs.Order.{compare_numbers, compare_keys}
use Rattle.key_order.specs.Boundary.{compare_boundaries}
use Rattle.intervals.specs.Lists.{meets_of, shared_of, cuts_of, without_of, keep}
use Rattle.query_item.specs.declared.KeyAt.{KeyAt}
use Rattle.query_item.specs.declared.ItemWords.{ItemWords}
use Rattle.query_item.specs.declared.QueryItem.TheVariants.{Range, RangeInclusive, RangeFrom, RangeAfter, RangeAfterTo}
use Rattle.query_item.specs.Items.{key_at, absent, words_of, item_at, items_from}
use Rattle.keyless.specs.Keyless.{keyless}
use Rattle.item_check.specs.Checks.{first_bad, first_break, strict_verdict}
use Rattle.item_lists.specs.Lists.{Accepted}
use Rattle.intersect.specs.Pair.{meet_sets, left_over, right_over}
use Rattle.intersect_many.specs.Lists.{convert_all, keyed_items, shared_items, only_items, many_answer}

-- the keys 01, 05, 05 00, 05 01 and 09
abbrev pool : List ℕ
pool = 1 ∷ 5 ∷ 0 ∷ 5 ∷ 1 ∷ 9 ∷ []

abbrev k01 : KeyAt
k01 = key_at 0 1

abbrev k05 : KeyAt
k05 = key_at 1 1

abbrev k0500 : KeyAt
k0500 = key_at 1 2

abbrev k0501 : KeyAt
k0501 = key_at 3 2

abbrev k09 : KeyAt
k09 = key_at 5 1

-- a list of one item, as words
abbrev item : ℕ → KeyAt → KeyAt → List ℕ
item code a b = code ∷ 0 ∷ a.offset ∷ a.length ∷ b.offset ∷ b.length ∷ []

abbrev Three : Type 0
Three = List ItemWords × List ItemWords × List ItemWords

abbrev three : List ℕ → List ℕ → Three
three A B = (shared_items pool A B, only_items pool A B, only_items pool B A)

left_out :
    -- 01 P6's two items: RangeTo - is left out
    three (item 3 absent absent) (item 4 absent absent)
    -- (05, 09), [05 00, 09): (05, 05 00) is left out; (05, 09), [05 01, 09): (05, 05 01) stays
    ∷ three (item 8 k05 k09) (item 1 k0500 k09)
    ∷ three (item 8 k05 k09) (item 1 k0501 k09)
    -- [01, 09], (05, 05 00): it holds no key, and still cuts
    ∷ three (item 2 k01 k09) (item 8 k05 k0500)
    -- by itself (05, 05 00) leaves nothing, RangeAfter 05 stays
    ∷ three (item 8 k05 k0500) []
    ∷ three (item 7 k05 absent) []
    ∷ []
    ≡ (words_of 0 (RangeFrom absent) ∷ [], [], [])
    ∷ (words_of 0 (Range k0500 k09) ∷ [], [], [])
    ∷ (words_of 0 (Range k0501 k09) ∷ [], words_of 0 (RangeAfterTo k05 k0501) ∷ [], [])
    ∷ ([], words_of 0 (RangeInclusive k01 k05) ∷ words_of 0 (RangeInclusive k0500 k09) ∷ [], [])
    ∷ ([], [], [])
    ∷ ([], words_of 0 (RangeAfter k05) ∷ [], [])
    ∷ []
unfolding compare_numbers compare_keys compare_boundaries item_at items_from meets_of shared_of cuts_of without_of keep meet_sets left_over right_over keyless convert_all keyed_items shared_items only_items
left_out = refl

-- the room that a list needs is that of what is left: P6's two items need none for ours
room_of_what_is_left : many_answer pool (item 3 absent absent) (item 4 absent absent) (item 0 absent absent) [] []
    ≡ Ok (record { shared = 1; ours = 0; theirs = 0 })
unfolding compare_numbers compare_keys compare_boundaries item_at items_from first_bad first_break strict_verdict meets_of shared_of cuts_of without_of keep meet_sets left_over right_over keyless convert_all keyed_items shared_items only_items
room_of_what_is_left = refl

-- 02 §2.3: a list of RangeTo - and (05, 05 00) may be given
still_given : Accepted pool (item 5 absent absent ++ item 8 k05 k0500)
unfolding compare_numbers compare_keys compare_boundaries item_at items_from first_bad first_break strict_verdict
still_given = refl
