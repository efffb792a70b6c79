-- What the counting pass counts. Assumes nothing.
use Prim.Native.Nat.{ℕ, suc, ◌+◌, ◌/◌, max}
use mathlib.Core.Path.{◌≡◌, refl, ap, ◌∙◌}
use mathlib.Core.Bool.{Bool, true, false, cond, ◌||◌}
use mathlib.Core.List.{List, [], ◌∷◌, ◌++◌}
use native.Mathlib.Numerals.{add-one}
use native.Mathlib.Decide.{dec_lt}
use native.Mathlib.Omega.{arith}
use borrow.Author.Tests.{lt-ltb, le-ltb}
use lib.ListN.{length, length-append}
use lib.Dec.{ltb}
use Rattle.item_check.specs.Checks.{most_key, refused}
use Rattle.std.proofs.Common.{Some, None, Ok}
use Rattle.sheet_row.specs.Lanes.{Lane, Sheet, lanes, bad_at, hex_bytes}
use Rattle.sheet_read.specs.declared.Measured.{Measured}
use Rattle.sheet_read.specs.Reading.{packed_keys, is_long, first_long, sheet_verdict}
use Rattle.sheet_read.specs.Passes.{measured, add_keys, add_lanes, measure_of, long_verdict, measure_verdict}

pub add_rows : (m : Measured) (ls : List Lane) → (add_lanes m ls).rows ≡ m.rows + length ls
unfolding add_lanes
add_rows m [] = omega arith
add_rows m (l ∷ ls) = add_rows (add_keys m (length l.start) (length l.end)) ls ∙ omega arith

pub add_bytes : (m : Measured) (ls : List Lane) → (add_lanes m ls).bytes ≡ m.bytes + length (packed_keys ls)
unfolding add_lanes packed_keys
add_bytes m [] = omega arith
add_bytes m (l ∷ ls) =
    add_bytes (add_keys m (length l.start) (length l.end)) ls
    ∙ rw (length-append (l.start ++ l.end) (packed_keys ls), length-append l.start l.end) (omega arith)

-- once a long key is found, it stays the first
add_long : (m : Measured) (i : ℕ) (ls : List Lane) → m.long ≡ Some i → (add_lanes m ls).long ≡ Some i
unfolding add_lanes
add_long m i [] h = h
add_long m i (l ∷ ls) h = add_long (add_keys m (length l.start) (length l.end)) i ls (rw h)

-- the longer of two keys is too long just if one of them is
longer : (a b : ℕ) → ltb most_key (max a b) ≡ ltb most_key a || ltb most_key b
longer a b = elim (dec_lt most_key a) [
  | yes h ↦ rw (lt-ltb most_key a h, lt-ltb most_key (max a b) (omega arith))
  | no h ↦
      elim (dec_lt most_key b) [
        | yes l ↦ rw (le-ltb most_key a (omega arith), lt-ltb most_key b l, lt-ltb most_key (max a b) (omega arith))
        | no l ↦ rw (le-ltb most_key a (omega arith), le-ltb most_key b (omega arith), le-ltb most_key (max a b) (omega arith))
      ]
]

add_short : (m : Measured) (ls : List Lane) → m.long ≡ None → long_verdict (add_lanes m ls).long ≡ first_long m.rows ls
unfolding add_lanes first_long
add_short m [] h = rw h
add_short m (l ∷ ls) h = go (is_long l) refl (add_short (add_keys m (length l.start) (length l.end)) ls)
  where
    n : Measured
    n = add_keys m (length l.start) (length l.end)

    go : (t : Bool) → is_long l ≡ t → (n.long ≡ None → long_verdict (add_lanes n ls).long ≡ first_long n.rows ls)
        → long_verdict (add_lanes n ls).long ≡ cond t (refused 2 0 m.rows) (first_long (suc m.rows) ls)
    go true e more = ap long_verdict (add_long n m.rows ls (rw (h, longer (length l.start) (length l.end), e)))
    go false e more = more (rw (h, longer (length l.start) (length l.end), e)) ∙ rw (add-one m.rows)

-- what is refused by what is counted
pub measure_verdict_lem : (s : Sheet) (m : Measured) (pool out : List ℕ) → Ok m ≡ measure_of (measured 0 0 None) s → measure_verdict m pool out ≡ sheet_verdict s pool out
measure_verdict_lem (bad_at n) m pool out e = cc
measure_verdict_lem (lanes ls) m pool out e =
    let z = measured 0 0 None in
    let is : m ≡ add_lanes z ls = cc in
    let rows : (add_lanes z ls).rows ≡ length ls = add_rows z ls ∙ omega arith in
    let bytes : (add_lanes z ls).bytes ≡ length (packed_keys ls) = add_bytes z ls ∙ omega arith in
    rw (is, add_short z ls refl, rows, bytes)

pub length_hex_bytes : (s : List ℕ) → length (hex_bytes s) ≡ length s / 2
unfolding hex_bytes
length_hex_bytes [] = refl
length_hex_bytes (c ∷ []) = refl
length_hex_bytes (c ∷ d ∷ s) = ap suc (length_hex_bytes s) ∙ omega arith
