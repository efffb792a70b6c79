-- The forms of an item's line, by computation. Assumes nothing.
use mathlib.Core.Path.{◌≡◌, refl}
use mathlib.Core.List.{[], ◌∷◌}
use Rattle.query_item.specs.declared.QueryItem.TheVariants.{Range, RangeFull, RangeToInclusive}
use Rattle.query_item.specs.Items.{key_at}
use Rattle.key_text.specs.Text.{hex_digit, hex_text, key_text}
use Rattle.krl_listing.specs.Listing.{item_line}

-- "Range - ABFF": an empty key, and digits above 9
letters : item_line (171 ∷ 255 ∷ []) (Range (key_at 0 0) (key_at 0 2)) ≡ 82 ∷ 97 ∷ 110 ∷ 103 ∷ 101 ∷ 32 ∷ 45 ∷ 32 ∷ 65 ∷ 66 ∷ 70 ∷ 70 ∷ 10 ∷ []
unfolding hex_digit hex_text key_text item_line
letters = refl

-- "RangeFull": no key
no_key : item_line [] RangeFull ≡ 82 ∷ 97 ∷ 110 ∷ 103 ∷ 101 ∷ 70 ∷ 117 ∷ 108 ∷ 108 ∷ 10 ∷ []
unfolding item_line
no_key = refl

-- "RangeToInclusive 07": the end's key
end_key : item_line (7 ∷ []) (RangeToInclusive (key_at 0 1)) ≡ 82 ∷ 97 ∷ 110 ∷ 103 ∷ 101 ∷ 84 ∷ 111 ∷ 73 ∷ 110 ∷ 99 ∷ 108 ∷ 117 ∷ 115 ∷ 105 ∷ 118 ∷ 101 ∷ 32 ∷ 48 ∷ 55 ∷ 10 ∷ []
unfolding hex_digit hex_text key_text item_line
end_key = refl
