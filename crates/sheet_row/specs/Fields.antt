-- RFC 4180: a field and the end of a row, each with the text after it. Definitions only. Assumes nothing.
use Rattle.std.specs.Prelude.{ℕ, suc, Bool, true, false, cond, not, ◌||◌, ◌&&◌, List, [], ◌∷◌, take, drop, eqb}

-- ---- the bytes that the grammar names (02 §1.1): COMMA, DQUOTE, CR, LF

abbrev pub comma : ℕ
comma = 44

abbrev pub quote : ℕ
quote = 34

abbrev pub carriage_return : ℕ
carriage_return = 13

abbrev pub line_feed : ℕ
line_feed = 10

-- 02 §1.1, TEXTDATA: what a field without quotes is made of. The grammar has no control byte and none past 126 there; here a field may have them,
-- and is then neither a name nor a key
abbrev pub is_text : ℕ → Bool
is_text b = not (eqb b quote || eqb b comma || eqb b carriage_return || eqb b line_feed)

-- 02 §1.1, `*`: how many bytes at the front pass a test
unfoldable pub leading : (ℕ → Bool) → List ℕ → ℕ
leading t [] = 0
leading t (b ∷ s) = cond (t b) (suc (leading t s)) 0

-- ---- a field (02 §1.1, §1.4): its content and the text after it, or none

pub data Split : Type 0 where
  split : List ℕ → List ℕ → Split
  broken : Split

-- one more byte of content in front
abbrev pub with_byte : ℕ → Split → Split
with_byte b (split f s) = split (b ∷ f) s
with_byte b broken = broken

-- non-escaped = *TEXTDATA
unfoldable pub unquoted : List ℕ → Split
unquoted s = split (take (leading is_text s) s) (drop (leading is_text s) s)

-- escaped = DQUOTE *(TEXTDATA / COMMA / CR / LF / 2DQUOTE) DQUOTE: what follows the first quote. The flag says that the byte before was a quote:
-- with a second one it is a byte of content, with anything else it closed the field. A field that is not closed is broken
unfoldable pub quoted : Bool → List ℕ → Split
quoted false [] = broken
quoted true [] = split [] []
quoted false (b ∷ s) = cond (eqb b quote) (quoted true s) (with_byte b (quoted false s))
quoted true (b ∷ s) = cond (eqb b quote) (with_byte b (quoted false s)) (split [] (b ∷ s))

-- field = (escaped / non-escaped)
unfoldable pub field : List ℕ → Split
field [] = split [] []
field (b ∷ s) = cond (eqb b quote) (quoted false s) (unquoted (b ∷ s))

-- record = field *(COMMA field): the field after a comma; without the comma there is none
unfoldable pub after_comma : List ℕ → Split
after_comma [] = broken
after_comma (b ∷ s) = cond (eqb b comma) (field s) broken

abbrev pub next_field : Split → Split
next_field (split f s) = after_comma s
next_field broken = broken

abbrev pub content : Split → List ℕ
content (split f s) = f
content broken = []

-- ---- the end of a row (02 §1.5, §1.6): CR LF, or the end of the text, since the last row may lack its line end

pub data Ended : Type 0 where
  ended : List ℕ → Ended
  unended : Ended

unfoldable pub row_end : List ℕ → Ended
row_end [] = ended []
row_end (b ∷ []) = unended
row_end (b ∷ c ∷ s) = cond (eqb b carriage_return && eqb c line_feed) (ended s) unended

abbrev pub end_of : Split → Ended
end_of (split f s) = row_end s
end_of broken = unended
