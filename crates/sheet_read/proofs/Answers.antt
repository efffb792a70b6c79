-- What reading a sheet answers and leaves, by its verdict. Assumes nothing.
use Rattle.std.specs.Prelude.{Ok}
use Prim.Native.Nat.{ℕ, suc, ◌+◌, ◌/◌, ◌≤◌}
use mathlib.Core.Path.{◌≡◌, refl, sym, ap, ◌∙◌}
use mathlib.Core.Bool.{Bool, true, false, cond, ◌||◌, false≢true}
use mathlib.Core.List.{List, [], ◌∷◌}
use mathlib.Core.Logic.{◌↔◌}
use native.Mathlib.Omega.{arith}
use lib.ListN.{length}
use lib.Dec.{ltb}
use borrow.Author.Tests.{ltb-false, le-ltb}
use Rattle.query_item.specs.Items.{item_size}
use Rattle.item_check.specs.Checks.{Answer, refused, refusal, accepted, most_items, most_pool, pool_verdict, and_then}
use Rattle.item_check.proofs.Laws.{All, accepts, refuses, both_false, pool_passes}
use Rattle.item_lists.specs.Written.{passes, put_all, Put}
use Rattle.item_lists.proofs.Written.{put_laid}
use Rattle.lent_text.specs.Text.{stored}
use Rattle.lent_text.proofs.Laws.{stored_whole}
use Rattle.sheet_row.specs.Lanes.{Lane, Sheet, lanes, bad_at, sheet_of}
use Rattle.std.proofs.Common.{None, Ok}
use Rattle.sheet_read.specs.declared.Measured.{Measured}
use Rattle.sheet_read.specs.declared.SheetCounts.{SheetCounts}
use Rattle.sheet_read.specs.Reading.{
  packed_keys,
  packed_items,
  is_long,
  first_long,
  room_verdict,
  sheet_verdict,
  lanes_of,
  lanes_in,
  counts_of,
  read_answer,
  read_pool,
  read_list,
}
use Rattle.sheet_read.specs.Passes.{measured, add_lanes, measure_of, is_good, Readable}
use Rattle.sheet_read.proofs.Measures.{add_rows, add_bytes}

-- ---- what a sheet that is read has

pub record Reads (s : Sheet) (pool out : List ℕ) : Type 0 where
  pub good : is_good s ≡ true
  pub small : length pool ≤ most_pool
  pub short : All (λ l. is_long l ≡ false) (lanes_of s)
  pub bytes : length (packed_keys (lanes_of s)) ≤ length pool
  pub items : length (lanes_of s) ≤ length out / item_size
  pub few : length (lanes_of s) ≤ most_items

pub long_passes : (n : ℕ) (ls : List Lane) → first_long n ls ≡ accepted ↔ All (λ l. is_long l ≡ false) ls
unfolding first_long
long_passes n [] = (λ e. tt, λ e. refl)
long_passes n (l ∷ ls) = go (is_long l) (long_passes (suc n) ls)
  where
    go : (t : Bool) → first_long (suc n) ls ≡ accepted ↔ All (λ l. is_long l ≡ false) ls
        → cond t (refused 2 0 n) (first_long (suc n) ls) ≡ accepted ↔ ((t ≡ false) × All (λ l. is_long l ≡ false) ls)
    go true rest = (λ e. absurd (false≢true (sym ((refuses true (refusal 2 0 n)).0 e))), λ e. absurd (false≢true (sym e.0)))
    go false rest = (λ e. (refl, rest.0 e), λ e. rest.1 e.1)

room_passes : (items bytes : ℕ) (pool out : List ℕ)
    → room_verdict items bytes pool out ≡ accepted ↔ ((bytes ≤ length pool) × (items ≤ length out / item_size) × (items ≤ most_items))
room_passes items bytes pool out =
    let one = refuses (ltb (length pool) bytes || passes items out || ltb most_items items) (refusal 6 0 0) in
    let last = both_false (ltb (length pool) bytes || passes items out) (ltb most_items items) in
    let first = both_false (ltb (length pool) bytes) (passes items out) in (
      λ e. let b = last.0 (one.0 e) in let c = first.0 b.0 in (ltb-false _ _ c.0, ltb-false _ _ c.1, ltb-false _ _ b.1),
      λ p. one.1 (last.1 (first.1 (le-ltb _ _ p.0, le-ltb _ _ p.1), le-ltb _ _ p.2)),
    )

-- a sheet passes exactly where that holds
pub reads : (s : Sheet) (pool out : List ℕ) → sheet_verdict s pool out ≡ accepted ↔ Reads s pool out
reads (bad_at n) pool out = (λ e. absurd (false≢true (sym ((refuses true (refusal 12 0 n)).0 e))), λ r. absurd (false≢true r.good))
reads (lanes ls) pool out =
    let room = room_verdict (length ls) (length (packed_keys ls)) pool out in
    let first = accepts (pool_verdict pool) (and_then (first_long 0 ls) room) in
    let later = accepts (first_long 0 ls) room in
    let fits = room_passes (length ls) (length (packed_keys ls)) pool out in (
      λ e.
          let a = first.0 e in
          let b = later.0 a.1 in
          let c = fits.0 b.1 in
          record {
            good = refl;
            small = (pool_passes pool).0 a.0;
            short = (long_passes 0 ls).0 b.0;
            bytes = c.0;
            items = c.1;
            few = c.2;
          },
      λ r. first.1 ((pool_passes pool).1 r.small, later.1 ((long_passes 0 ls).1 r.short, fits.1 (r.bytes, r.items, r.few))),
    )

pub reads_readable : {text pool out : List ℕ} → Reads (sheet_of text) pool out → Readable text
reads_readable r = record { good = r.good; fits = omega (arith, r.bytes, r.small) }

-- ---- the call

pub length_packed : (at : ℕ) (ls : List Lane) → length (packed_items at ls) ≡ length ls
unfolding packed_items
length_packed at [] = refl
length_packed at (l ∷ ls) = ap suc (length_packed (at + (length l.start + length l.end)) ls)

counted : (s : Sheet) (m : Measured) → Ok m ≡ measure_of (measured 0 0 None) s → record { items = m.rows; bytes = m.bytes } ≡ counts_of (lanes_of s)
counted (bad_at n) m e = cc
counted (lanes ls) m e =
    let z = measured 0 0 None in
    let is : m ≡ add_lanes z ls = cc in
    let r : m.rows ≡ length ls = ap (λ (x : Measured). x.rows) is ∙ add_rows z ls ∙ omega arith in
    let b : m.bytes ≡ length (packed_keys ls) = ap (λ (x : Measured). x.bytes) is ∙ add_bytes z ls ∙ omega arith in
    rw (r, b)

-- what a call answers, and leaves in the pool and in the list
pub leaves_read : (text pool out : List ℕ) (m : Measured) {pool' out' : List ℕ} → Ok m ≡ measure_of (measured 0 0 None) (sheet_of text)
    → accepted ≡ sheet_verdict (sheet_of text) pool out
    → pool' ≡ stored pool 0 (packed_keys (lanes_in text))
    → out' ≡ put_all out 0 (packed_items 0 (lanes_in text))
    → (◌≡◌ {A = Answer SheetCounts} (Ok (record { items = m.rows; bytes = m.bytes })) (read_answer text pool out))
    × ((pool' ≡ read_pool text pool out) × (out' ≡ read_list text pool out))
leaves_read text pool out m {pool'} {out'} em h ep eo =
    let f = (reads (sheet_of text) pool out).0 (sym h) in
    let its = packed_items 0 (lanes_in text) in
    let put : Put out 0 its out' (length its) = record { count = omega arith; words = eo } in
    rw (← h) (
      ap Ok (counted (sheet_of text) m em),
      (ep ∙ stored_whole pool (packed_keys (lanes_in text)) f.bytes, put_laid its put (rw (length_packed 0 (lanes_in text)) f.items)),
    )
