-- The names of items, and the code of a name. Definitions only. Assumes nothing.
use Rattle.std.specs.Prelude.{ℕ, cond, List, [], ◌∷◌, eqb}
use Rattle.query_item.specs.Items.{same}

-- ---- the names in the table of 01, as bytes

-- 01 item.0: "Key"
abbrev pub key_name : List ℕ
key_name = 75 ∷ 101 ∷ 121 ∷ []

-- 01 item.1: "Range"
abbrev pub range_name : List ℕ
range_name = 82 ∷ 97 ∷ 110 ∷ 103 ∷ 101 ∷ []

-- 01 item.2: "RangeInclusive"
abbrev pub range_inclusive_name : List ℕ
range_inclusive_name = 82 ∷ 97 ∷ 110 ∷ 103 ∷ 101 ∷ 73 ∷ 110 ∷ 99 ∷ 108 ∷ 117 ∷ 115 ∷ 105 ∷ 118 ∷ 101 ∷ []

-- 01 item.3: "RangeFull"
abbrev pub range_full_name : List ℕ
range_full_name = 82 ∷ 97 ∷ 110 ∷ 103 ∷ 101 ∷ 70 ∷ 117 ∷ 108 ∷ 108 ∷ []

-- 01 item.4: "RangeFrom"
abbrev pub range_from_name : List ℕ
range_from_name = 82 ∷ 97 ∷ 110 ∷ 103 ∷ 101 ∷ 70 ∷ 114 ∷ 111 ∷ 109 ∷ []

-- 01 item.5: "RangeTo"
abbrev pub range_to_name : List ℕ
range_to_name = 82 ∷ 97 ∷ 110 ∷ 103 ∷ 101 ∷ 84 ∷ 111 ∷ []

-- 01 item.6: "RangeToInclusive"
abbrev pub range_to_inclusive_name : List ℕ
range_to_inclusive_name = 82 ∷ 97 ∷ 110 ∷ 103 ∷ 101 ∷ 84 ∷ 111 ∷ 73 ∷ 110 ∷ 99 ∷ 108 ∷ 117 ∷ 115 ∷ 105 ∷ 118 ∷ 101 ∷ []

-- 01 item.7: "RangeAfter"
abbrev pub range_after_name : List ℕ
range_after_name = 82 ∷ 97 ∷ 110 ∷ 103 ∷ 101 ∷ 65 ∷ 102 ∷ 116 ∷ 101 ∷ 114 ∷ []

-- 01 item.8: "RangeAfterTo"
abbrev pub range_after_to_name : List ℕ
range_after_to_name = 82 ∷ 97 ∷ 110 ∷ 103 ∷ 101 ∷ 65 ∷ 102 ∷ 116 ∷ 101 ∷ 114 ∷ 84 ∷ 111 ∷ []

-- 01 item.9: "RangeAfterToInclusive"
abbrev pub range_after_to_inclusive_name : List ℕ
range_after_to_inclusive_name = 82 ∷ 97 ∷ 110 ∷ 103 ∷ 101 ∷ 65 ∷ 102 ∷ 116 ∷ 101 ∷ 114 ∷ 84 ∷ 111 ∷ 73 ∷ 110 ∷ 99 ∷ 108 ∷ 117 ∷ 115 ∷ 105 ∷ 118 ∷ 101 ∷ []

-- 01 keys.4, 02 §1.2: the name of an item's code; an unknown code has none of its own
unfoldable pub name_of : ℕ → List ℕ
name_of c =
    cond (eqb c 0) key_name
    (cond (eqb c 1) range_name
    (cond (eqb c 2) range_inclusive_name
    (cond (eqb c 3) range_full_name
    (cond (eqb c 4) range_from_name
    (cond (eqb c 5) range_to_name
    (cond (eqb c 6) range_to_inclusive_name
    (cond (eqb c 7) range_after_name
    (cond (eqb c 8) range_after_to_name
    range_after_to_inclusive_name))))))))

-- 02 §1.2: the code of a name, letter by letter; 10 where no item is called so
abbrev pub no_code : ℕ
no_code = 10

unfoldable pub code_of : List ℕ → ℕ
code_of s =
    cond (same s key_name) 0
    (cond (same s range_name) 1
    (cond (same s range_inclusive_name) 2
    (cond (same s range_full_name) 3
    (cond (same s range_from_name) 4
    (cond (same s range_to_name) 5
    (cond (same s range_to_inclusive_name) 6
    (cond (same s range_after_name) 7
    (cond (same s range_after_to_name) 8
    (cond (same s range_after_to_inclusive_name) 9
    no_code)))))))))
