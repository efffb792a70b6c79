-- The pass that writes: what is left to write is written from where it stands. Assumes nothing.
use Prim.Native.Nat.{ℕ, ◌+◌, ◌≤◌, ◌<◌}
use mathlib.Core.Path.{◌≡◌, refl, sym, ap, ◌∙◌}
use mathlib.Core.Bool.{Bool, true, false, ◌&&◌, false≢true}
use mathlib.Core.List.{List, ◌∷◌, ◌++◌}
use native.Mathlib.Decide.{dec_lt}
use native.Mathlib.Omega.{arith}
use Rattle.std.proofs.Common.{Some}
use lib.ListN.{length, length-append}
use Rattle.query_item.specs.Items.{with_item}
use lib.Dec.{ltb}
use Rattle.item_check.specs.Checks.{most_pool, has_start, has_end}
use Rattle.item_lists.specs.Written.{put_all}
use Rattle.item_lists.proofs.Written.{Left, left_one, left_done}
use Rattle.lent_text.specs.Text.{stored}
use Rattle.lent_text.proofs.Laws.{stored_append, stored_none}
use Rattle.std.specs.Borrow.{Bor}
use Rattle.sheet_read.specs.declared.row.RowFields.{RowFields}
use Rattle.key_order.proofs.Bools.{both_true}
use Rattle.sheet_read.proofs.Digits.{field_digits}
use Rattle.sheet_row.specs.Lanes.{Lane, is_lane, fits_field, bad_row, first_row, Sheet, lanes, bad_at, with_lane, sheet_of}
use Rattle.sheet_read.specs.Scan.{row_lane, asked_row, Shorter}
use Rattle.sheet_read.specs.Reading.{packed_keys, lane_item, packed_items, lanes_of}
use Rattle.sheet_read.specs.Passes.{is_good, Puts}
use Rattle.sheet_read.proofs.Turns.{left, left_good, left_bad, left_none}

good_lanes : (l : Lane) (s : Sheet) → is_good (with_lane l s) ≡ true → (is_good s ≡ true) × (lanes_of (with_lane l s) ≡ l ∷ lanes_of s)
good_lanes l (lanes ls) h = (refl, refl)
good_lanes l (bad_at n) h = absurd (false≢true h)

pub record Filling (text pool₀ out₀ pool out s : List ℕ) (n used : ℕ) : Type 0 where
  pub rows : n + length s ≤ length text
  pub good : is_good (left (length text) n s) ≡ true
  pub fits : used + length (packed_keys (lanes_of (left (length text) n s))) ≤ most_pool
  pub pool_same : length pool ≡ length pool₀
  pub bytes : stored pool used (packed_keys (lanes_of (left (length text) n s))) ≡ stored pool₀ 0 (packed_keys (lanes_of (sheet_of text)))
  pub items : Left (packed_items 0 (lanes_of (sheet_of text))) out₀ 0 out n (packed_items used (lanes_of (left (length text) n s)))

module _ {text pool₀ out₀ pool out s : List ℕ} {n used : ℕ} (v : Filling text pool₀ out₀ pool out s n used) where
  abbrev k : ℕ
  k = length text

  -- before the end of the text there is a row
  pub filling_end : bad_row ≡ first_row s
      → (pool ≡ stored pool₀ 0 (packed_keys (lanes_of (sheet_of text)))) × (out ≡ put_all out₀ 0 (packed_items 0 (lanes_of (sheet_of text))))
  unfolding packed_keys packed_items
  filling_end bad =
      let none = left_none k n s at_end in
      (rw (none, stored_none pool used) at v.bytes, (left_done v.items (rw none)).words)
    where
      at_end : length s ≡ 0
      at_end = elim (dec_lt 0 (length s)) [
        | yes h ↦ absurd (false≢true (sym (ap is_good (left_bad k n s h v.rows bad)) ∙ v.good))
        | no h ↦ omega arith
      ]

  module _ (r : RowFields) (t : Bor (List ℕ)) (found : asked_row (Some (r, t)) ≡ first_row s) (short : Shorter s (r, t)) where
    some : 0 < length s
    some = omega (arith, short)

    lane : is_lane r.code r.start.now r.end.now ≡ true
    lane = go (is_lane r.code r.start.now r.end.now) refl
      where
        go : (u : Bool) → is_lane r.code r.start.now r.end.now ≡ u → u ≡ true
        go true e = refl
        go false e = absurd (false≢true (sym (ap is_good (left_bad k n s some v.rows (rw e at found))) ∙ v.good))

    here : left k n s ≡ with_lane (row_lane r) (left k (n + 1) t.now)
    here = left_good k n s some v.rows (rw lane at found)

    rest : (is_good (left k (n + 1) t.now) ≡ true) × (lanes_of (left k n s) ≡ row_lane r ∷ lanes_of (left k (n + 1) t.now))
    rest =
        let both = good_lanes (row_lane r) (left k (n + 1) t.now) (sym (ap is_good here) ∙ v.good) in
        (both.0, ap lanes_of here ∙ both.1)

    keys : length (packed_keys (lanes_of (left k n s)))
        ≡ length (row_lane r).start + length (row_lane r).end + length (packed_keys (lanes_of (left k (n + 1) t.now)))
    unfolding packed_keys
    keys =
        let l = row_lane r in
        rw (rest.1, length-append (l.start ++ l.end) (packed_keys (lanes_of (left k (n + 1) t.now))), length-append l.start l.end)

    pub filling_puts : Puts r used
    filling_puts =
        let known = ltb r.code 10 in
        let starts = fits_field (has_start r.code) r.start.now in
        let ends = fits_field (has_end r.code) r.end.now in
        let front = (both_true (known && starts) ends lane).0 in
        record {
          start_digits = field_digits (has_start r.code) r.start.now (both_true known starts front).1;
          end_digits = field_digits (has_end r.code) r.end.now (both_true (known && starts) ends lane).1;
          fits = omega (arith, keys, v.fits);
        }

    pub filling_more : {pool' out' : List ℕ} {used' : ℕ}
        → used' ≡ used + (length (row_lane r).start + length (row_lane r).end)
        → pool' ≡ stored pool used ((row_lane r).start ++ (row_lane r).end)
        → out' ≡ with_item out n (lane_item used (row_lane r))
        → length pool' ≡ length pool
        → Filling text pool₀ out₀ pool' out' t.now (n + 1) used'
    unfolding packed_keys packed_items
    filling_more {pool'} {out'} {used'} eu ep eo lp =
        let l = row_lane r in
        let S = lanes_of (left k (n + 1) t.now) in
        let step : used' ≡ used + length (l.start ++ l.end) = eu ∙ rw (length-append l.start l.end) in
        record {
          rows = omega (arith, v.rows, short);
          good = rest.0;
          fits = omega (arith, keys, v.fits, eu);
          pool_same = lp ∙ v.pool_same;
          bytes = rw (ep, step) (stored_append pool used (l.start ++ l.end) (packed_keys S)) ∙ rw rest.1 at v.bytes;
          items = left_one v.items (rw (rest.1, eu)) eo;
        }
