-- What the passes over a sheet go by: one counts, one writes. No promise of a public call cites this. Definitions only. It serves 02 §1.8, §1.11,
-- §1.13. Assumes nothing.
use Rattle.std.specs.Prelude.{ℕ, ◌+◌, ◌*◌, ◌/◌, ◌^◌, ◌≤◌, ◌<◌, ◌≡◌, max, Bool, true, false, cond, ◌&&◌, Option, Some, None, Ok, List, [], ◌∷◌, length, get_or, ltb}
use Rattle.std.specs.Option.{is_none}
use Rattle.item_check.specs.Checks.{Answer, refused, Verdict, accepted, and_then, most_pool, most_key, pool_verdict}
use Rattle.sheet_read.specs.declared.row.RowFields.{RowFields}
use Rattle.sheet_row.specs.Lanes.{Lane, is_hex, hex_bytes, Sheet, lanes, bad_at, sheet_of}
use Rattle.sheet_read.specs.declared.Measured.{Measured}
use Rattle.sheet_read.specs.Reading.{packed_keys, room_verdict, lanes_in}

-- ---- counting

-- rows, bytes of keys, and the first row where a key is too long
abbrev pub measured : ℕ → ℕ → Option ℕ → Measured
measured rows bytes long = record { rows = rows; bytes = bytes; long = long }

-- that row, with one row more, whose longer key has so many bytes
abbrev pub longest_first : Measured → ℕ → Option ℕ
longest_first m n = cond (is_none m.long && ltb most_key n) (Some m.rows) m.long

-- one row more, with keys of so many bytes
abbrev pub add_keys : Measured → ℕ → ℕ → Measured
add_keys m a b = measured (m.rows + 1) (m.bytes + a + b) (longest_first m (max a b))

unfoldable pub add_lanes : Measured → List Lane → Measured
add_lanes m [] = m
add_lanes m (l ∷ ls) = add_lanes (add_keys m (length l.start) (length l.end)) ls

-- a bad row is refused with its number
abbrev pub measure_of : Measured → Sheet → Answer Measured
measure_of m (lanes ls) = Ok (add_lanes m ls)
measure_of m (bad_at n) = refused 12 0 n

-- one row more can be counted
pub record Adds (m : Measured) (r : RowFields) : Type 0 where
  pub rows : m.rows + 1 < 2 ^ 64
  pub bytes : m.bytes + length r.start.now / 2 + length r.end.now / 2 < 2 ^ 64

-- what a sheet is refused for, by what was counted

abbrev pub long_verdict : Option ℕ → Verdict
long_verdict (Some i) = refused 2 0 i
long_verdict None = accepted

abbrev pub measure_verdict : Measured → List ℕ → List ℕ → Verdict
measure_verdict m pool out = and_then (pool_verdict pool) (and_then (long_verdict m.long) (room_verdict m.rows m.bytes pool out))

-- ---- writing

abbrev pub is_good : Sheet → Bool
is_good (lanes ls) = true
is_good (bad_at n) = false

-- a sheet that has no bad row, and whose keys fit a pool
pub record Readable (text : List ℕ) : Type 0 where
  pub good : is_good (sheet_of text) ≡ true
  pub fits : length (packed_keys (lanes_in text)) ≤ most_pool

-- two by two there are digits only
abbrev pub Digits : List ℕ → Type 0
Digits s = (i : ℕ) → i < length s / 2 → (is_hex (get_or s (2 * i) 0) ≡ true) × (is_hex (get_or s (2 * i + 1) 0) ≡ true)

-- a row whose keys are digits, and fit a pool
pub record Puts (r : RowFields) (used : ℕ) : Type 0 where
  pub start_digits : Digits r.start.now
  pub end_digits : Digits r.end.now
  pub fits : used + (length (hex_bytes r.start.now) + length (hex_bytes r.end.now)) ≤ most_pool
