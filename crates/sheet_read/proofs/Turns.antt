-- A turn of a pass over the rows: what is left of the sheet is the row's lane, and what is left after it. Assumes nothing.
use Prim.Native.Nat.{ℕ, suc, ◌+◌, ◌-◌, ◌/◌, ◌≤◌, ◌<◌}
use mathlib.Core.Path.{◌≡◌, refl, sym, ap, ◌∙◌}
use Rattle.std.proofs.Common.{None, Ok}
use Rattle.item_check.specs.Checks.{refused}
use mathlib.Core.List.{List, []}
use native.Mathlib.Numerals.{add-one}
use native.Mathlib.Omega.{arith}
use lib.ListN.{length}
use Rattle.std.proofs.lemmas.List.{nil_from_length}
use Rattle.std.specs.Borrow.{Bor}
use Rattle.sheet_read.specs.declared.row.RowFields.{RowFields}
use Rattle.sheet_row.specs.Lanes.{Lane, row, bad_row, first_row, Sheet, lanes, bad_at, with_lane, then_rows, rows_from, sheet_of}
use Rattle.sheet_read.specs.Scan.{row_lane, Shorter}
use Rattle.sheet_row.proofs.Laws.{rows_step, rows_none}
use Rattle.sheet_read.specs.declared.Measured.{Measured}
use Rattle.sheet_read.specs.Passes.{measured, add_keys, add_lanes, measure_of}
use Rattle.sheet_read.proofs.Measures.{length_hex_bytes}

-- what is left of a sheet that has so many bytes, n rows passed
abbrev pub left : ℕ → ℕ → List ℕ → Sheet
left k n s = rows_from (k - n) n s

module _ (k n : ℕ) (s : List ℕ) (some : 0 < length s) (few : n + length s ≤ k) where
  left_row : left k n s ≡ then_rows n (rows_from (k - (n + 1)) (n + 1)) (first_row s)
  left_row =
      let q : k - n ≡ suc (k - (n + 1)) = omega arith in
      rw (q, add-one n) (rows_step (k - suc n) n s some)

  pub left_good : {l : Lane} {t : List ℕ} → row l t ≡ first_row s → left k n s ≡ with_lane l (left k (n + 1) t)
  left_good e = left_row ∙ rw (← e)

  pub left_bad : bad_row ≡ first_row s → left k n s ≡ bad_at n
  left_bad e = left_row ∙ rw (← e)

pub left_none : (k n : ℕ) (s : List ℕ) → length s ≡ 0 → left k n s ≡ lanes []
left_none k n s h = rw (nil_from_length s h) (rows_none (k - n) n)

-- ---- counting

measure_lane : (m : Measured) (l : Lane) (s : Sheet) → measure_of m (with_lane l s) ≡ measure_of (add_keys m (length l.start) (length l.end)) s
unfolding add_lanes
measure_lane m l (lanes ls) = refl
measure_lane m l (bad_at n) = refl

-- a pass over what is left: m counts what is passed
pub record Measuring (text : List ℕ) (m : Measured) (s : List ℕ) : Type 0 where
  pub rows : m.rows + length s ≤ length text
  pub bytes : m.bytes + length s ≤ length text
  pub whole : measure_of (measured 0 0 None) (sheet_of text) ≡ measure_of m (left (length text) m.rows s)

module _ {text : List ℕ} {m : Measured} {s : List ℕ} (v : Measuring text m s) where
  pub measuring_end : length s ≡ 0 → Ok m ≡ measure_of (measured 0 0 None) (sheet_of text)
  unfolding add_lanes
  measuring_end h = sym (v.whole ∙ rw (left_none (length text) m.rows s h))

  pub measuring_bad : 0 < length s → bad_row ≡ first_row s → refused 12 0 m.rows ≡ measure_of (measured 0 0 None) (sheet_of text)
  measuring_bad some e = sym (v.whole ∙ rw (left_bad (length text) m.rows s some v.rows e))

  pub measuring_more : (r : RowFields) (t : Bor (List ℕ)) {o : Measured} → row (row_lane r) t.now ≡ first_row s → Shorter s (r, t)
      → o ≡ add_keys m (length r.start.now / 2) (length r.end.now / 2) → Measuring text o t.now
  measuring_more r t e short q =
      let some : 0 < length s = omega (arith, short) in
      let a = length_hex_bytes r.start.now in
      let b = length_hex_bytes r.end.now in
      let here = ap (measure_of m) (left_good (length text) m.rows s some v.rows e) in
      let one = measure_lane m (row_lane r) (left (length text) (m.rows + 1) t.now) in
      rw q record {
        rows = omega (arith, v.rows);
        bytes = omega (arith, v.bytes);
        whole = v.whole ∙ here ∙ one ∙ rw (a, b);
      }
