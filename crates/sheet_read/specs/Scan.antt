-- What the scanner finds in what is left of a text. No promise of a public call cites this. Definitions only. It serves 02 §1.1, §1.4.
-- Assumes nothing.
use Rattle.std.specs.Borrow.{Bor}
use Rattle.std.specs.Prelude.{ℕ, suc, ◌+◌, ◌<◌, Bool, cond, not, Option, Some, None, List, [], ◌∷◌, length, take, drop, eqb, ltb}
use Rattle.sheet_row.specs.Fields.{Split, split, broken, Ended, ended, unended, comma, quote, leading, unquoted}
use Rattle.sheet_row.specs.Lanes.{Lane, Row, row, bad_row, closed, lane_of, hex_bytes}
use Rattle.sheet_read.specs.declared.row.RowFields.{RowFields}

abbrev pub not_quote : ℕ → Bool
not_quote b = not (eqb b quote)

-- a quoted field up to the next quote, doubled or not: no name and no key has a quote in it, so that a row with a doubled one is bad either way
unfoldable pub short_quoted : List ℕ → Split
short_quoted s =
    cond (ltb (leading not_quote s) (length s)) (split (take (leading not_quote s) s) (drop (suc (leading not_quote s)) s)) broken

unfoldable pub short_field : List ℕ → Split
short_field [] = split [] []
short_field (b ∷ s) = cond (eqb b quote) (short_quoted s) (unquoted (b ∷ s))

unfoldable pub short_after : List ℕ → Split
short_after [] = broken
short_after (b ∷ s) = cond (eqb b comma) (short_field s) broken

abbrev pub short_next : Split → Split
short_next (split f s) = short_after s
short_next broken = broken

-- ---- what is read: a part of the text, and what is left behind it

abbrev pub split_of : Option (Bor (List ℕ) × Bor (List ℕ)) → Split
split_of (Some p) = split p.0.now p.1.now
split_of None = broken

abbrev pub ended_of : Option (Bor (List ℕ)) → Ended
ended_of (Some s) = ended s.now
ended_of None = unended

-- the lane of a row that was read
abbrev pub row_lane : RowFields → Lane
row_lane r = lane_of r.code (hex_bytes r.start.now) (hex_bytes r.end.now)

-- a row that is good
abbrev pub row_of : Option (RowFields × Bor (List ℕ)) → Row
row_of (Some p) = row (row_lane p.0) p.1.now
row_of None = bad_row

-- a row whose fields were read, asked whether they say a lane
abbrev pub asked_row : Option (RowFields × Bor (List ℕ)) → Row
asked_row (Some p) = closed p.0.code p.0.start.now p.0.end.now (ended p.1.now)
asked_row None = bad_row

-- a row takes a byte at least, besides its fields
abbrev pub Shorter : List ℕ → RowFields × Bor (List ℕ) → Type 0
Shorter s p = length p.0.start.now + length p.0.end.now + length p.1.now < length s
