-- Rows of sheets by computation: what is read, then each kind of bad row. Assumes nothing.
use mathlib.Core.Path.{◌≡◌, refl}
use mathlib.Core.List.{[], ◌∷◌}
use Rattle.key_order.specs.Order.{compare_numbers, compare_keys}
use Rattle.sheet_row.specs.Fields.{leading, unquoted, quoted, field, after_comma, row_end}
use Rattle.item_name.specs.Names.{code_of}
use Rattle.sheet_row.specs.Lanes.{hex_value, all_hex, hex_bytes, lane_of, first_row, lanes, bad_at, rows_from, sheet_of}

-- no bytes, no rows
empty_sheet : sheet_of ([]) ≡ lanes ([])
unfolding compare_numbers compare_keys leading unquoted quoted field after_comma row_end code_of hex_value all_hex hex_bytes first_row rows_from
empty_sheet = refl

-- Key,03,\r\n
one_key : sheet_of (75 ∷ 101 ∷ 121 ∷ 44 ∷ 48 ∷ 51 ∷ 44 ∷ 13 ∷ 10 ∷ []) ≡ lanes (lane_of 0 (3 ∷ []) ([]) ∷ [])
unfolding compare_numbers compare_keys leading unquoted quoted field after_comma row_end code_of hex_value all_hex hex_bytes first_row rows_from
one_key = refl

-- Range,01,0a
last_row_open : sheet_of (82 ∷ 97 ∷ 110 ∷ 103 ∷ 101 ∷ 44 ∷ 48 ∷ 49 ∷ 44 ∷ 48 ∷ 97 ∷ []) ≡ lanes (lane_of 1 (1 ∷ []) (10 ∷ []) ∷ [])
unfolding compare_numbers compare_keys leading unquoted quoted field after_comma row_end code_of hex_value all_hex hex_bytes first_row rows_from
last_row_open = refl

-- RangeFull,,\r\n
full_row : sheet_of (82 ∷ 97 ∷ 110 ∷ 103 ∷ 101 ∷ 70 ∷ 117 ∷ 108 ∷ 108 ∷ 44 ∷ 44 ∷ 13 ∷ 10 ∷ []) ≡ lanes (lane_of 3 ([]) ([]) ∷ [])
unfolding compare_numbers compare_keys leading unquoted quoted field after_comma row_end code_of hex_value all_hex hex_bytes first_row rows_from
full_row = refl

-- RangeTo,,-\r\nKey,-,\r\n
empty_key : sheet_of (82 ∷ 97 ∷ 110 ∷ 103 ∷ 101 ∷ 84 ∷ 111 ∷ 44 ∷ 44 ∷ 45 ∷ 13 ∷ 10 ∷ 75 ∷ 101 ∷ 121 ∷ 44 ∷ 45 ∷ 44 ∷ 13 ∷ 10 ∷ [])
    ≡ lanes (lane_of 5 ([]) ([]) ∷ lane_of 0 ([]) ([]) ∷ [])
unfolding compare_numbers compare_keys leading unquoted quoted field after_comma row_end code_of hex_value all_hex hex_bytes first_row rows_from
empty_key = refl

-- "Key","aB",""\r\n
quoted_fields : sheet_of (34 ∷ 75 ∷ 101 ∷ 121 ∷ 34 ∷ 44 ∷ 34 ∷ 97 ∷ 66 ∷ 34 ∷ 44 ∷ 34 ∷ 34 ∷ 13 ∷ 10 ∷ []) ≡ lanes (lane_of 0 (171 ∷ []) ([]) ∷ [])
unfolding compare_numbers compare_keys leading unquoted quoted field after_comma row_end code_of hex_value all_hex hex_bytes first_row rows_from
quoted_fields = refl

-- Key,03,\r\n\r\n
blank_row : sheet_of (75 ∷ 101 ∷ 121 ∷ 44 ∷ 48 ∷ 51 ∷ 44 ∷ 13 ∷ 10 ∷ 13 ∷ 10 ∷ []) ≡ bad_at 1
unfolding compare_numbers compare_keys leading unquoted quoted field after_comma row_end code_of hex_value all_hex hex_bytes first_row rows_from
blank_row = refl

-- Key,03,\nKey,04,\r\n
bare_feed : sheet_of (75 ∷ 101 ∷ 121 ∷ 44 ∷ 48 ∷ 51 ∷ 44 ∷ 10 ∷ 75 ∷ 101 ∷ 121 ∷ 44 ∷ 48 ∷ 52 ∷ 44 ∷ 13 ∷ 10 ∷ []) ≡ bad_at 0
unfolding compare_numbers compare_keys leading unquoted quoted field after_comma row_end code_of hex_value all_hex hex_bytes first_row rows_from
bare_feed = refl

-- Key,03,\rKey,04,\r\n
bare_return : sheet_of (75 ∷ 101 ∷ 121 ∷ 44 ∷ 48 ∷ 51 ∷ 44 ∷ 13 ∷ 75 ∷ 101 ∷ 121 ∷ 44 ∷ 48 ∷ 52 ∷ 44 ∷ 13 ∷ 10 ∷ []) ≡ bad_at 0
unfolding compare_numbers compare_keys leading unquoted quoted field after_comma row_end code_of hex_value all_hex hex_bytes first_row rows_from
bare_return = refl

-- "Key"x,03,\r\n
after_quote : sheet_of (34 ∷ 75 ∷ 101 ∷ 121 ∷ 34 ∷ 120 ∷ 44 ∷ 48 ∷ 51 ∷ 44 ∷ 13 ∷ 10 ∷ []) ≡ bad_at 0
unfolding compare_numbers compare_keys leading unquoted quoted field after_comma row_end code_of hex_value all_hex hex_bytes first_row rows_from
after_quote = refl

-- Key,03,\r\n"Key,03,\r\n
unclosed : sheet_of (75 ∷ 101 ∷ 121 ∷ 44 ∷ 48 ∷ 51 ∷ 44 ∷ 13 ∷ 10 ∷ 34 ∷ 75 ∷ 101 ∷ 121 ∷ 44 ∷ 48 ∷ 51 ∷ 44 ∷ 13 ∷ 10 ∷ []) ≡ bad_at 1
unfolding compare_numbers compare_keys leading unquoted quoted field after_comma row_end code_of hex_value all_hex hex_bytes first_row rows_from
unclosed = refl

-- Key,03,\r\n"K""ey",03,\r\n
doubled_quotes : sheet_of (75 ∷ 101 ∷ 121 ∷ 44 ∷ 48 ∷ 51 ∷ 44 ∷ 13 ∷ 10 ∷ 34 ∷ 75 ∷ 34 ∷ 34 ∷ 101 ∷ 121 ∷ 34 ∷ 44 ∷ 48 ∷ 51 ∷ 44 ∷ 13 ∷ 10 ∷ []) ≡ bad_at 1
unfolding compare_numbers compare_keys leading unquoted quoted field after_comma row_end code_of hex_value all_hex hex_bytes first_row rows_from
doubled_quotes = refl

-- Key,03\r\n
two_fields : sheet_of (75 ∷ 101 ∷ 121 ∷ 44 ∷ 48 ∷ 51 ∷ 13 ∷ 10 ∷ []) ≡ bad_at 0
unfolding compare_numbers compare_keys leading unquoted quoted field after_comma row_end code_of hex_value all_hex hex_bytes first_row rows_from
two_fields = refl

-- Key,03,,\r\n
four_fields : sheet_of (75 ∷ 101 ∷ 121 ∷ 44 ∷ 48 ∷ 51 ∷ 44 ∷ 44 ∷ 13 ∷ 10 ∷ []) ≡ bad_at 0
unfolding compare_numbers compare_keys leading unquoted quoted field after_comma row_end code_of hex_value all_hex hex_bytes first_row rows_from
four_fields = refl

-- Key,033,\r\n
odd_digits : sheet_of (75 ∷ 101 ∷ 121 ∷ 44 ∷ 48 ∷ 51 ∷ 51 ∷ 44 ∷ 13 ∷ 10 ∷ []) ≡ bad_at 0
unfolding compare_numbers compare_keys leading unquoted quoted field after_comma row_end code_of hex_value all_hex hex_bytes first_row rows_from
odd_digits = refl

-- Key,0g,\r\n
bad_digit : sheet_of (75 ∷ 101 ∷ 121 ∷ 44 ∷ 48 ∷ 103 ∷ 44 ∷ 13 ∷ 10 ∷ []) ≡ bad_at 0
unfolding compare_numbers compare_keys leading unquoted quoted field after_comma row_end code_of hex_value all_hex hex_bytes first_row rows_from
bad_digit = refl

-- RangeFull,03,\r\n
absent_present : sheet_of (82 ∷ 97 ∷ 110 ∷ 103 ∷ 101 ∷ 70 ∷ 117 ∷ 108 ∷ 108 ∷ 44 ∷ 48 ∷ 51 ∷ 44 ∷ 13 ∷ 10 ∷ []) ≡ bad_at 0
unfolding compare_numbers compare_keys leading unquoted quoted field after_comma row_end code_of hex_value all_hex hex_bytes first_row rows_from
absent_present = refl

-- Key,,\r\n
present_absent : sheet_of (75 ∷ 101 ∷ 121 ∷ 44 ∷ 44 ∷ 13 ∷ 10 ∷ []) ≡ bad_at 0
unfolding compare_numbers compare_keys leading unquoted quoted field after_comma row_end code_of hex_value all_hex hex_bytes first_row rows_from
present_absent = refl

-- key,03,\r\n
unknown_name : sheet_of (107 ∷ 101 ∷ 121 ∷ 44 ∷ 48 ∷ 51 ∷ 44 ∷ 13 ∷ 10 ∷ []) ≡ bad_at 0
unfolding compare_numbers compare_keys leading unquoted quoted field after_comma row_end code_of hex_value all_hex hex_bytes first_row rows_from
unknown_name = refl

-- Key,05, and the text ends behind the comma
open_empty_field : sheet_of (75 ∷ 101 ∷ 121 ∷ 44 ∷ 48 ∷ 53 ∷ 44 ∷ []) ≡ lanes (lane_of 0 (5 ∷ []) [] ∷ [])
unfolding compare_numbers compare_keys leading unquoted quoted field after_comma row_end code_of hex_value all_hex hex_bytes first_row rows_from
open_empty_field = refl

-- RangeFull,,"", and the text ends behind the quote
open_quoted_field : sheet_of (82 ∷ 97 ∷ 110 ∷ 103 ∷ 101 ∷ 70 ∷ 117 ∷ 108 ∷ 108 ∷ 44 ∷ 44 ∷ 34 ∷ 34 ∷ []) ≡ lanes (lane_of 3 [] [] ∷ [])
unfolding compare_numbers compare_keys leading unquoted quoted field after_comma row_end code_of hex_value all_hex hex_bytes first_row rows_from
open_quoted_field = refl

-- Key,03," where the third field is not closed
quote_left_open : sheet_of (75 ∷ 101 ∷ 121 ∷ 44 ∷ 48 ∷ 51 ∷ 44 ∷ 34 ∷ []) ≡ bad_at 0
unfolding compare_numbers compare_keys leading unquoted quoted field after_comma row_end code_of hex_value all_hex hex_bytes first_row rows_from
quote_left_open = refl

-- RangeFull
name_alone : sheet_of (82 ∷ 97 ∷ 110 ∷ 103 ∷ 101 ∷ 70 ∷ 117 ∷ 108 ∷ 108 ∷ []) ≡ bad_at 0
unfolding compare_numbers compare_keys leading unquoted quoted field after_comma row_end code_of hex_value all_hex hex_bytes first_row rows_from
name_alone = refl

-- RangeFull,,\r
return_at_end : sheet_of (82 ∷ 97 ∷ 110 ∷ 103 ∷ 101 ∷ 70 ∷ 117 ∷ 108 ∷ 108 ∷ 44 ∷ 44 ∷ 13 ∷ []) ≡ bad_at 0
unfolding compare_numbers compare_keys leading unquoted quoted field after_comma row_end code_of hex_value all_hex hex_bytes first_row rows_from
return_at_end = refl

-- RangeFull,,x"
quote_inside : sheet_of (82 ∷ 97 ∷ 110 ∷ 103 ∷ 101 ∷ 70 ∷ 117 ∷ 108 ∷ 108 ∷ 44 ∷ 44 ∷ 120 ∷ 34 ∷ []) ≡ bad_at 0
unfolding compare_numbers compare_keys leading unquoted quoted field after_comma row_end code_of hex_value all_hex hex_bytes first_row rows_from
quote_inside = refl

-- Key, 03,\r\n
space_before : sheet_of (75 ∷ 101 ∷ 121 ∷ 44 ∷ 32 ∷ 48 ∷ 51 ∷ 44 ∷ 13 ∷ 10 ∷ []) ≡ bad_at 0
unfolding compare_numbers compare_keys leading unquoted quoted field after_comma row_end code_of hex_value all_hex hex_bytes first_row rows_from
space_before = refl

-- a byte of 200 in the name: K·ey,03,
no_text : sheet_of (75 ∷ 200 ∷ 101 ∷ 121 ∷ 44 ∷ 48 ∷ 51 ∷ 44 ∷ []) ≡ bad_at 0
unfolding compare_numbers compare_keys leading unquoted quoted field after_comma row_end code_of hex_value all_hex hex_bytes first_row rows_from
no_text = refl
