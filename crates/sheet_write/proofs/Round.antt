-- Both calls, one after the other: what was written is read to the same items by bytes, and what was read is written in its plain form.
-- Assumes nothing.
use Rattle.std.specs.Prelude.{Ok, Err}
use Prim.Native.Nat.{ℕ, ◌*◌, ◌/◌, ◌≤◌}
use mathlib.Core.Path.{◌≡◌, sym, ap, ◌∙◌}
use mathlib.Core.Bool.{Bool, true, false, cond, ◌||◌}
use mathlib.Core.List.{List, ◌++◌, map}
use mathlib.Core.Logic.{◌↔◌}
use native.Mathlib.Omega.{arith}
use lib.ListN.{length, take, drop, length-map}
use lib.Seq.{take_at, length-take-le}
use lib.Dec.{ltb}
use Rattle.query_item.specs.Items.{item_size, items_from, SameShown}
use Rattle.query_item.specs.Boundaries.{range_of, upright}
use Rattle.item_check.specs.declared.Refusal.{Refusal}
use Rattle.item_check.specs.Checks.{Answer, refused, accepted, and_then, most_items, most_pool, pool_verdict, items_of}
use Rattle.item_check.proofs.Laws.{All, InOrder, answers, words_answered, words_refused}
use Rattle.item_lists.specs.Lists.{Accepted}
use Rattle.item_lists.specs.Written.{passes}
use Rattle.item_lists.proofs.Words.{items_taken, length_items}
use Rattle.lent_text.specs.Text.{laid}
use Rattle.sheet_row.specs.Lanes.{Lane, lane_at, lanes, sheet_of, sheet_text}
use Rattle.sheet_row.proofs.Laws.{Bytes, sheet_text_lem, items_sound, lane_shown, shown_lanes}
use Rattle.sheet_read.specs.declared.SheetCounts.{SheetCounts}
use Rattle.sheet_read.specs.Reading.{packed_keys, lanes_of, lanes_in, read_answer, read_pool, read_list}
use Rattle.sheet_read.proofs.Laws.{lanes_short, read_room, read_fits, read_passed, read_rows, length_read_pool, length_read_list}
use Rattle.sheet_read.proofs.Laws.{read_lanes, read_plain, read_shown}
use Rattle.sheet_write.specs.Writing.{plain_verdict, text_room, room_bytes, list_text, write_answer, write_bytes}
use Rattle.sheet_write.proofs.Plain.{PlainList, plain_list, plain_checked}

-- 02 §1.9, 01 demand.1: where writing refuses, the bytes are as they were
pub write_refused : (pool ws out : List ℕ) {r : Refusal} → write_answer pool ws out ≡ Err r → write_bytes pool ws out ≡ out
write_refused pool ws out e = words_refused e out (laid out (list_text pool ws))

-- ---- what was written is read

module _ (pool ws out : List ℕ) (n : ℕ) (h : write_answer pool ws out ≡ Ok n) where
  passed : (plain_verdict pool ws ≡ accepted) × (text_room (list_text pool ws) out ≡ Ok n)
  passed = answers (plain_verdict pool ws) (text_room (list_text pool ws) out) n h

  pub written_plain : PlainList pool ws
  written_plain = (plain_list pool ws).0 passed.0

  -- 02 §1.9: it has so many bytes
  pub written_length : length (list_text pool ws) ≡ n
  written_length = go (ltb (length out) (length (list_text pool ws))) passed.1
    where
      go : (t : Bool) → ◌≡◌ {A = Answer ℕ} (cond t (refused 6 0 0) (Ok (length (list_text pool ws)))) (Ok n)
          → length (list_text pool ws) ≡ n
      go true e = cc
      go false e = cc

  -- 02 §1.9: the text of the list, then the bytes that stood there
  pub written_bytes : write_bytes pool ws out ≡ list_text pool ws ++ drop n out
  written_bytes = words_answered h out (laid out (list_text pool ws)) ∙ rw written_length

  pub written_text : take n (write_bytes pool ws out) ≡ list_text pool ws
  written_text = rw written_bytes (take_at (list_text pool ws) (drop n out) n written_length)

  module _ (bytes : Bytes pool) where
    abbrev said : List Lane
    said = map (lane_at pool) (items_of ws)

    sheet : sheet_of (take n (write_bytes pool ws out)) ≡ lanes said
    sheet = rw written_text (sheet_text_lem said (items_sound pool (items_of ws) bytes written_plain.plain))

    many : length said ≡ length (items_of ws)
    many = length-map (items_of ws) (lane_at pool)

    few : length said ≤ most_items
    few = omega (arith, many, length_items ws 0 (length ws / item_size), written_plain.few)

    module _ (pool₂ out₂ : List ℕ) where
      -- 02 §1.10, §1.13: reading it is refused with 1 for the size of the pool, or with 6 for want of room, and is else answered
      pub written_answer : read_answer (take n (write_bytes pool ws out)) pool₂ out₂
          ≡ and_then (pool_verdict pool₂)
          (cond (ltb (length pool₂) (length (packed_keys (map (lane_at pool) (items_of ws)))) || passes (length (items_of ws)) out₂)
          (refused 6 0 0)
          (Ok (record { items = length (items_of ws); bytes = length (packed_keys (map (lane_at pool) (items_of ws))) })))
      written_answer =
          rw many at (read_room (take n (write_bytes pool ws out)) said sheet (lanes_short pool (items_of ws) written_plain.plain) few pool₂ out₂)

      -- that is, exactly where there is room for its keys and its items, in a pool that is accepted
      pub written_fits : read_answer (take n (write_bytes pool ws out)) pool₂ out₂
          ≡ Ok (record { items = length (items_of ws); bytes = length (packed_keys (map (lane_at pool) (items_of ws))) })
          ↔ ((length pool₂ ≤ most_pool)
          × (length (packed_keys (map (lane_at pool) (items_of ws))) ≤ length pool₂)
          × (length (items_of ws) ≤ length out₂ / item_size))
      written_fits =
          rw many at (read_fits (take n (write_bytes pool ws out)) said sheet (lanes_short pool (items_of ws) written_plain.plain) few pool₂ out₂)

      -- 02 §1.10: the items are as many, and the same by bytes: code, wrapper, start bytes, end bytes
      pub written_read : (c : SheetCounts) → read_answer (take n (write_bytes pool ws out)) pool₂ out₂ ≡ Ok c
          → (c.items ≡ length (items_of ws))
          × SameShown (read_pool (take n (write_bytes pool ws out)) pool₂ out₂) pool
          (items_from (read_list (take n (write_bytes pool ws out)) pool₂ out₂) 0 c.items) (items_of ws)
      written_read c e =
          let text = take n (write_bytes pool ws out) in
          let same : lanes_in text ≡ said = ap lanes_of sheet in (
            read_rows text pool₂ out₂ c e ∙ ap length same ∙ many,
            read_shown text pool₂ out₂ c e ∙ ap (map lane_shown) same ∙ sym (shown_lanes pool (items_of ws) written_plain.plain),
          )

-- ---- what was read is written

module _ (text pool out : List ℕ) (c : SheetCounts) (h : read_answer text pool out ≡ Ok c) where
  abbrev pool' : List ℕ
  pool' = read_pool text pool out

  abbrev ws' : List ℕ
  ws' = take (item_size * c.items) (read_list text pool out)

  fits : item_size * c.items ≤ length (read_list text pool out)
  fits = omega (arith, read_rows text pool out c h, length_read_list text pool out c h, (read_passed text pool out c h).items)

  front : items_of ws' ≡ items_from (read_list text pool out) 0 c.items
  front = items_taken (read_list text pool out) c.items fits

  -- what is read is accepted to be written
  pub read_accepted : plain_verdict (read_pool text pool out) (take (item_size * c.items) (read_list text pool out)) ≡ accepted
  read_accepted =
      let reads = read_passed text pool out c h in
      let long = length-take-le (item_size * c.items) (read_list text pool out) fits in
      (plain_list pool' ws').1 (record {
        small = omega (arith, length_read_pool text pool out c h, reads.small);
        whole = omega arith;
        few = omega (arith, read_rows text pool out c h, reads.few);
        plain = rw front (read_plain text pool out c h);
      })

  -- and by the algebra exactly where it is upright and in order
  pub read_checked : Accepted (read_pool text pool out) (take (item_size * c.items) (read_list text pool out))
      ↔ (All (λ it. upright pool' (range_of it) ≡ true) (items_of ws') × InOrder pool' (items_of ws'))
  read_checked = plain_checked pool' ws' ((plain_list pool' ws').0 read_accepted)

  -- its text is the plain form of the sheet
  pub read_text : list_text (read_pool text pool out) (take (item_size * c.items) (read_list text pool out)) ≡ sheet_text (lanes_in text)
  read_text = ap (λ its. sheet_text (map (lane_at pool') its)) front ∙ ap sheet_text (read_lanes text pool out c h)

  -- so that writing answers by the room alone, and leaves the plain form
  pub read_written : (t : List ℕ)
      → (write_answer (read_pool text pool out) (take (item_size * c.items) (read_list text pool out)) t ≡ text_room (sheet_text (lanes_in text)) t)
      × (write_bytes (read_pool text pool out) (take (item_size * c.items) (read_list text pool out)) t ≡ room_bytes (sheet_text (lanes_in text)) t)
  read_written t = (rw (read_accepted, read_text), rw (read_accepted, read_text))
