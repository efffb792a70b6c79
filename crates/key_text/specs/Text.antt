-- The text of a key: upper-case hexadecimal. Definitions only. Assumes nothing.
use Rattle.std.specs.Prelude.{ℕ, ◌+◌, ◌/◌, ◌%◌, cond, List, [], ◌∷◌, ◌++◌, ltb}
use Rattle.query_item.specs.declared.KeyAt.{KeyAt}
use Rattle.query_item.specs.Items.{bytes_of}

-- 01 m7.4: keys are upper-case hexadecimal
unfoldable pub hex_digit : ℕ → ℕ
hex_digit d = cond (ltb d 10) (48 + d) (55 + d)

-- 01 m7.4: a byte is two digits, the higher first
abbrev pub hex_byte : ℕ → List ℕ
hex_byte b = hex_digit (b / 16) ∷ hex_digit (b % 16) ∷ []

unfoldable pub hex_text : List ℕ → List ℕ
hex_text [] = []
hex_text (b ∷ k) = hex_byte b ++ hex_text k

-- 01 m7.4: an empty key is `-`; any other its bytes in order
unfoldable pub key_text : List ℕ → List ℕ
key_text [] = 45 ∷ []
key_text (b ∷ k) = hex_text (b ∷ k)

-- 01 m7.3, the example, 02 §1.1: a byte before each key: a space in the listing, a comma in a sheet
abbrev pub marked_key : ℕ → List ℕ → KeyAt → List ℕ
marked_key mark pool k = mark ∷ key_text (bytes_of pool k)

abbrev pub spaced_key : List ℕ → KeyAt → List ℕ
spaced_key pool k = marked_key 32 pool k
