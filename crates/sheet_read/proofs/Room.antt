-- A sheet whose keys are short and whose rows are few is read exactly where there is room, as is the sheet of plain items. Assumes nothing.
use Rattle.std.specs.Prelude.{Ok}
use Prim.Native.Nat.{ℕ, ◌/◌, ◌≤◌}
use mathlib.Core.Path.{◌≡◌, refl}
use mathlib.Core.Bool.{Bool, true, false, cond, ◌||◌}
use mathlib.Core.List.{List, [], ◌∷◌, map}
use mathlib.Core.Logic.{◌↔◌}
use native.Mathlib.Omega.{arith}
use lib.ListN.{length, drop, length-take}
use lib.Dec.{ltb}
use borrow.Author.Tests.{ltb-false, le-ltb}
use Rattle.query_item.specs.declared.KeyAt.{KeyAt}
use Rattle.query_item.specs.declared.ItemWords.{ItemWords}
use Rattle.query_item.specs.Items.{item_size, bytes_of}
use Rattle.item_check.specs.Checks.{refused, accepted, and_then, has_start, has_end, key_out, most_items, most_pool, most_key, pool_verdict}
use Rattle.item_check.proofs.Laws.{All, both_false, keys_in, answers}
use Rattle.item_lists.specs.Written.{passes}
use Rattle.sheet_row.specs.Lanes.{Lane, lane_at, lanes, sheet_of}
use Rattle.sheet_row.proofs.Laws.{PlainIn}
use Rattle.sheet_read.specs.Reading.{packed_keys, is_long, sheet_verdict, counts_of, read_answer}
use Rattle.sheet_read.proofs.Answers.{reads, long_passes}

module _ (text : List ℕ) (ls : List Lane) (is : sheet_of text ≡ lanes ls) (short : All (λ l. is_long l ≡ false) ls) (few : length ls ≤ most_items)
    (pool out : List ℕ) where
  -- 02 §1.11, §1.13: it is refused with 1 for the pool's size and with 6 for want of room, and for nothing else
  pub read_room : read_answer text pool out
      ≡ and_then (pool_verdict pool)
      (cond (ltb (length pool) (length (packed_keys ls)) || passes (length ls) out) (refused 6 0 0) (Ok (counts_of ls)))
  read_room =
      rw (is, (long_passes 0 ls).1 short, le-ltb most_items (length ls) few)
      (go (ltb most_pool (length pool)) (ltb (length pool) (length (packed_keys ls)) || passes (length ls) out))
    where
      go : (p t : Bool)
          → and_then (and_then (cond p (refused 1 0 0) accepted) (cond (t || false) (refused 6 0 0) accepted)) (Ok (counts_of ls))
          ≡ and_then (cond p (refused 1 0 0) accepted) (cond t (refused 6 0 0) (Ok (counts_of ls)))
      go true t = refl
      go false true = refl
      go false false = refl

  pub read_fits : read_answer text pool out ≡ Ok (counts_of ls)
      ↔ ((length pool ≤ most_pool) × (length (packed_keys ls) ≤ length pool) × (length ls ≤ length out / item_size))
  read_fits = (
    λ e.
        let r = (reads (lanes ls) pool out).0 (answers (sheet_verdict (lanes ls) pool out) (Ok (counts_of ls)) (counts_of ls) (rw is at e)).0 in
        (r.small, r.bytes, r.items),
    λ r.
        let passed = (reads (lanes ls) pool out).1 (record { good = refl; small = r.0; short = short; bytes = r.1; items = r.2; few = few }) in
        rw (is, passed),
  )

-- ---- plain items

key_short : (p : Bool) (pool : List ℕ) (k : KeyAt) → key_out pool k ≡ false → ltb most_key (length (cond p (bytes_of pool k) [])) ≡ false
key_short true pool k h =
    let short = ltb-false most_key k.length ((both_false (ltb most_key k.length) _).0 h).0 in
    le-ltb most_key (length (bytes_of pool k)) (rw (length-take k.length (drop k.offset pool)) (omega arith))
key_short false pool k h = refl

lane_short : (pool : List ℕ) (it : ItemWords) → PlainIn pool it → is_long (lane_at pool it) ≡ false
lane_short pool it p =
    let c = it.code in
    let inside = keys_in pool it p.0 in
    (both_false _ _).1 (key_short (has_start c) pool it.start inside.0, key_short (has_end c) pool it.end inside.1)

-- their lanes have short keys
pub lanes_short : (pool : List ℕ) (its : List ItemWords) → All (PlainIn pool) its → All (λ l. is_long l ≡ false) (map (lane_at pool) its)
lanes_short pool [] a = tt
lanes_short pool (it ∷ its) a = (lane_short pool it a.0, lanes_short pool its a.1)
