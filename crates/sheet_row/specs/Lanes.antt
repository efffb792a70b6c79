-- A row of a sheet as a lane, a sheet as its lanes, and the text of lanes. Definitions only. Assumes nothing.
use Rattle.std.specs.Prelude.{ℕ, zero, suc, ◌+◌, ◌*◌, ◌-◌, ◌%◌, Bool, true, false, cond, not, ◌||◌, ◌&&◌, List, [], ◌∷◌, ◌++◌, length, eqb, ltb, leb}
use Rattle.query_item.specs.declared.ItemWords.{ItemWords}
use Rattle.query_item.specs.Items.{bytes_of, same}
use Rattle.item_check.specs.Checks.{has_start, has_end}
use Rattle.key_text.specs.Text.{key_text}
use Rattle.item_name.specs.Names.{no_code, name_of, code_of}
use Rattle.sheet_row.specs.Fields.{Split, Ended, ended, unended, comma, carriage_return, line_feed, field, next_field, end_of, content}

-- ---- keys in hexadecimal

-- 02 §1.7: digits are read in either case

abbrev pub is_decimal : ℕ → Bool
is_decimal c = leb 48 c && leb c 57

abbrev pub is_upper : ℕ → Bool
is_upper c = leb 65 c && leb c 70

abbrev pub is_lower : ℕ → Bool
is_lower c = leb 97 c && leb c 102

abbrev pub is_hex : ℕ → Bool
is_hex c = is_decimal c || is_upper c || is_lower c

unfoldable pub all_hex : List ℕ → Bool
all_hex [] = true
all_hex (c ∷ s) = cond (is_hex c) (all_hex s) false

-- 02 §1.3: what a digit counts; any other byte counts 0
unfoldable pub hex_value : ℕ → ℕ
hex_value c = cond (is_decimal c) (c - 48) (cond (is_upper c) (c - 55) (cond (is_lower c) (c - 87) 0))

-- 02 §1.3: the bytes of digits, two by two, the higher first; `-`, or an odd one at the end, gives none
unfoldable pub hex_bytes : List ℕ → List ℕ
hex_bytes [] = []
hex_bytes (c ∷ []) = []
hex_bytes (c ∷ d ∷ s) = (16 * hex_value c + hex_value d) ∷ hex_bytes s

-- 02 §1.3: the empty key is `-`
abbrev pub is_dash : List ℕ → Bool
is_dash s = same s (45 ∷ [])

-- 02 §1.3, reading B4: a key is `-`, or digits, at least two and even in number
abbrev pub is_key : List ℕ → Bool
is_key s = is_dash s || (not (eqb (length s) 0) && eqb (length s % 2) 0 && all_hex s)

-- 02 §1.3, reading B4: a key where the item has one, and an empty field where it has none
abbrev pub fits_field : Bool → List ℕ → Bool
fits_field present s = (present && is_key s) || (not present && eqb (length s) 0)

-- ---- a lane: what a row says, and what an item says over a pool (02 §1.1)

pub record Lane : Type 0 where
  pub code : ℕ
  pub start : List ℕ
  pub end : List ℕ

abbrev pub lane_of : ℕ → List ℕ → List ℕ → Lane
lane_of c a b = record { code = c; start = a; end = b }

-- an absent key has no bytes
abbrev pub lane_at : List ℕ → ItemWords → Lane
lane_at pool it =
    lane_of it.code (cond (has_start it.code) (bytes_of pool it.start) []) (cond (has_end it.code) (bytes_of pool it.end) [])

-- 02 §1.2, §1.3: the name of an item, and the keys that this item has
abbrev pub is_lane : ℕ → List ℕ → List ℕ → Bool
is_lane c a b = ltb c no_code && fits_field (has_start c) a && fits_field (has_end c) b

-- ---- the first row of a text (02 §1.1): three fields and an end; its lane and the text after it, or a bad row (02 §1.11, reading B4)

pub data Row : Type 0 where
  row : Lane → List ℕ → Row
  bad_row : Row

abbrev pub closed : ℕ → List ℕ → List ℕ → Ended → Row
closed c a b (ended s) = cond (is_lane c a b) (row (lane_of c (hex_bytes a) (hex_bytes b)) s) bad_row
closed c a b unended = bad_row

abbrev pub row_by : Split → Split → Split → Row
row_by n a b = closed (code_of (content n)) (content a) (content b) (end_of b)

unfoldable pub first_row : List ℕ → Row
first_row s = row_by (field s) (next_field (field s)) (next_field (next_field (field s)))

-- ---- a sheet (02 §1.6): its lanes, or the number from 0 of the first bad row (02 §1.11)

pub data Sheet : Type 0 where
  lanes : List Lane → Sheet
  bad_at : ℕ → Sheet

abbrev pub with_lane : Lane → Sheet → Sheet
with_lane l (lanes ls) = lanes (l ∷ ls)
with_lane l (bad_at n) = bad_at n

-- a row's lane before those of the text after it; the number of a bad row
abbrev pub then_rows : ℕ → (List ℕ → Sheet) → Row → Sheet
then_rows n rest (row l s) = with_lane l (rest s)
then_rows n rest bad_row = bad_at n

-- the rows up to the end of the text, of which the first has the number n; so many at most
unfoldable pub rows_from : ℕ → ℕ → List ℕ → Sheet
rows_from zero n s = lanes []
rows_from (suc k) n [] = lanes []
rows_from (suc k) n (b ∷ s) = then_rows n (rows_from k (suc n)) (first_row (b ∷ s))

-- there is no header, and an empty sheet has no rows; a row has at least a byte, so that there are no more rows than bytes
abbrev pub sheet_of : List ℕ → Sheet
sheet_of text = rows_from (length text) 0 text

-- ---- writing

-- 02 §1.3, §1.7: an absent key is an empty field, a present one upper-case digits, or `-`
abbrev pub key_field : Bool → List ℕ → List ℕ
key_field present k = cond present (key_text k) []

-- 02 §1.4, §1.5: no field is quoted, and CR LF ends each row
unfoldable pub row_text : Lane → List ℕ
row_text l =
    name_of l.code
    ++ (comma ∷ (key_field (has_start l.code) l.start ++ (comma ∷ (key_field (has_end l.code) l.end ++ (carriage_return ∷ line_feed ∷ [])))))

unfoldable pub sheet_text : List Lane → List ℕ
sheet_text [] = []
sheet_text (l ∷ ls) = row_text l ++ sheet_text ls
