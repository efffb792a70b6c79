-- What a call that reads a sheet leaves in the pool and in the list: items that are plain, and that show the sheet's lanes, row by row.
-- Assumes nothing.
use Rattle.std.specs.Prelude.{Ok, Err}
use Prim.Native.Nat.{ℕ}
use mathlib.Core.Path.{◌≡◌, refl, sym, ap, ◌∙◌}
use mathlib.Core.Bool.{true, false≢true}
use mathlib.Core.List.{List, [], ◌++◌, map}
use native.Mathlib.Omega.{arith}
use lib.ListN.{length, drop, length-append, length-drop}
use Rattle.query_item.specs.Items.{items_from, flat_all, shown}
use Rattle.item_check.specs.declared.Refusal.{Refusal}
use Rattle.item_check.specs.Checks.{Answer, accepted}
use Rattle.item_check.proofs.Laws.{All, answers, words_answered, words_refused}
use Rattle.item_lists.specs.Written.{laid_over}
use Rattle.item_lists.proofs.Read.{items_read_lem}
use Rattle.item_lists.proofs.Written.{length_flat}
use Rattle.lent_text.specs.Text.{laid}
use Rattle.sheet_row.specs.Lanes.{Lane, lane_at, Sheet, lanes, bad_at, sheet_of}
use Rattle.sheet_row.proofs.Laws.{SoundAll, lanes_sound, PlainIn, lane_shown, shown_lanes}
use Rattle.sheet_read.specs.declared.SheetCounts.{SheetCounts}
use Rattle.sheet_read.specs.Reading.{packed_keys, packed_items, sheet_verdict, lanes_of, lanes_in, counts_of, read_answer, read_pool, read_list}
use Rattle.sheet_read.specs.Passes.{is_good}
use Rattle.sheet_read.proofs.Packed.{items_shown, packed_plain}
use Rattle.sheet_read.proofs.Answers.{Reads, reads, length_packed}

-- ---- a call that refuses

-- 02 §1.9, 01 demand.1: the pool and the list are as they were
pub read_refused : (text pool out : List ℕ) {r : Refusal} → read_answer text pool out ≡ Err r
    → (read_pool text pool out ≡ pool) × (read_list text pool out ≡ out)
read_refused text pool out e = (
  words_refused e pool (laid pool (packed_keys (lanes_in text))),
  words_refused e out (laid_over out (packed_items 0 (lanes_in text))),
)

-- ---- a call that answers

good_lanes : (s : Sheet) → is_good s ≡ true → s ≡ lanes (lanes_of s)
good_lanes (lanes ls) g = refl
good_lanes (bad_at n) g = absurd (false≢true g)

module _ (text pool out : List ℕ) (c : SheetCounts) (h : read_answer text pool out ≡ Ok c) where
  abbrev ls : List Lane
  ls = lanes_in text

  passed : (sheet_verdict (sheet_of text) pool out ≡ accepted) × (◌≡◌ {A = Answer SheetCounts} (Ok (counts_of ls)) (Ok c))
  passed = answers (sheet_verdict (sheet_of text) pool out) (Ok (counts_of ls)) c h

  -- the sheet has no bad row, its keys are short, and there is room
  pub read_passed : Reads (sheet_of text) pool out
  read_passed = (reads (sheet_of text) pool out).0 passed.0

  pub read_good : sheet_of text ≡ lanes (lanes_in text)
  read_good = good_lanes (sheet_of text) read_passed.good

  -- 02 §1.9: the counts are those of the lanes
  pub read_counts : c ≡ counts_of (lanes_in text)
  read_counts = sym (cc passed.1)

  pub read_rows : c.items ≡ length (lanes_in text)
  read_rows = ap (λ (k : SheetCounts). k.items) read_counts

  sound : SoundAll ls
  sound = lanes_sound text ls read_good

  -- 02 §1.8: the keys stand at the front of the pool, and the bytes behind them are as they were
  pub read_bytes : read_pool text pool out ≡ packed_keys (lanes_in text) ++ drop (length (packed_keys (lanes_in text))) pool
  read_bytes = words_answered h pool (laid pool (packed_keys ls))

  pub length_read_pool : length (read_pool text pool out) ≡ length pool
  length_read_pool = rw read_bytes (simp (length-append, length-drop) (omega (arith, read_passed.bytes)))

  pub read_words : read_list text pool out ≡ laid_over out (packed_items 0 (lanes_in text))
  read_words = words_answered h out (laid_over out (packed_items 0 ls))

  pub length_read_list : length (read_list text pool out) ≡ length out
  length_read_list =
      let its = packed_items 0 ls in
      rw read_words (simp (length-append, length-drop) (omega (arith, length_flat its, length_packed 0 ls, read_passed.items)))

  -- 02 §1.9: the first items of the list are those of the lanes
  pub read_items : items_from (read_list text pool out) 0 c.items ≡ packed_items 0 (lanes_in text)
  read_items =
      let its = packed_items 0 ls in
      rw (read_words, read_rows ∙ sym (length_packed 0 ls)) (items_read_lem its [] (drop (length (flat_all its)) out) 0 refl)

  pub read_lanes : map (lane_at (read_pool text pool out)) (items_from (read_list text pool out) 0 c.items) ≡ lanes_in text
  read_lanes = rw (read_items, read_bytes) (items_shown [] ls (drop (length (packed_keys ls)) pool) 0 sound refl)

  pub read_plain : All (PlainIn (read_pool text pool out)) (items_from (read_list text pool out) 0 c.items)
  read_plain =
      rw read_items
      (packed_plain (read_pool text pool out) ls 0 sound read_passed.short (omega (arith, length_read_pool, read_passed.bytes)))

  -- 02 §1.9: item by item the list shows what the rows say
  pub read_shown : map (shown (read_pool text pool out)) (items_from (read_list text pool out) 0 c.items) ≡ map lane_shown (lanes_in text)
  read_shown =
      shown_lanes (read_pool text pool out) (items_from (read_list text pool out) 0 c.items) read_plain ∙ ap (map lane_shown) read_lanes
