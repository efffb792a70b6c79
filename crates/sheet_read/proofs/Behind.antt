-- Items read into the rest of a pool: with the length of what stands before the rest added to the offsets of their keys, they show over the
-- whole pool what they show over the rest. Assumes nothing.
use Rattle.std.specs.Prelude.{Ok}
use Prim.Native.Nat.{ℕ, ◌+◌}
use mathlib.Core.Path.{◌≡◌, refl, sym, ap₂, ◌∙◌}
use mathlib.Core.Bool.{Bool, true, false, cond, not, ◌&&◌}
use mathlib.Core.List.{List, [], ◌∷◌, ◌++◌, map}
use native.Mathlib.Decide.{dec_lt}
use native.Mathlib.Omega.{arith}
use lib.ListN.{length, length-append}
use lib.Seq.{drop-append-add}
use lib.Dec.{ltb}
use borrow.Author.Tests.{lt-ltb, le-ltb}
use Rattle.query_item.specs.declared.KeyAt.{KeyAt}
use Rattle.query_item.specs.declared.ItemWords.{ItemWords}
use Rattle.query_item.specs.Items.{key_at, absent, bytes_of, with_keys, items_from, shown, SameShown}
use Rattle.item_check.specs.Checks.{has_start, has_end, nonzero, malformed, key_out, item_fault}
use Rattle.item_check.proofs.Laws.{All, fault_parts, formed_parts, absent_in, outside_words}
use Rattle.sheet_row.proofs.Laws.{PlainIn}
use Rattle.sheet_read.specs.declared.SheetCounts.{SheetCounts}
use Rattle.sheet_read.specs.Reading.{read_answer, read_pool, read_list}
use Rattle.sheet_read.proofs.Read.{read_plain}

-- a key that the item has, n bytes further on; the words of an absent key stay as they are
abbrev key_moved : ℕ → Bool → KeyAt → KeyAt
key_moved n present k = cond present (key_at (n + k.offset) k.length) k

abbrev pub moved : ℕ → ItemWords → ItemWords
moved n it = with_keys it (key_moved n (has_start it.code) it.start) (key_moved n (has_end it.code) it.end)

less_behind : (n m x y : ℕ) → ltb (n + m) (n + x + y) ≡ ltb m (x + y)
less_behind n m x y = elim (dec_lt m (x + y)) [
  | yes l ↦ rw (lt-ltb m (x + y) l, lt-ltb (n + m) (n + x + y) (omega arith))
  | no l ↦ rw (le-ltb m (x + y) (omega arith), le-ltb (n + m) (n + x + y) (omega arith))
]

module _ (front pool : List ℕ) where
  key_behind : (p : Bool) (k : KeyAt) → (p ≡ false → k ≡ absent) → bytes_of (front ++ pool) (key_moved (length front) p k) ≡ bytes_of pool k
  key_behind true k h = rw (drop-append-add front pool k.offset)
  key_behind false k h = rw (h refl)

  -- an item so moved shows over the whole pool what it shows over the rest
  pub item_behind : (it : ItemWords) → malformed it ≡ false → shown (front ++ pool) (moved (length front) it) ≡ shown pool it
  item_behind it h =
      let a = key_behind (has_start it.code) it.start (formed_parts it h).no_start in
      let b = key_behind (has_end it.code) it.end (formed_parts it h).no_end in
      rw (a, b)

  items_behind : (its : List ItemWords) → All (PlainIn pool) its → SameShown (front ++ pool) pool (map (moved (length front)) its) its
  items_behind [] a = refl
  items_behind (it ∷ its) a = ap₂ ◌∷◌ (item_behind it (fault_parts pool it a.0.0).0) (items_behind its a.1)

  absent_behind : (p : Bool) (k : KeyAt) → not p && nonzero (key_moved (length front) p k) ≡ not p && nonzero k
  absent_behind true k = refl
  absent_behind false k = refl

  out_behind : (p : Bool) (k : KeyAt) → (p ≡ false → k ≡ absent) → key_out (front ++ pool) (key_moved (length front) p k) ≡ key_out pool k
  out_behind true k h = rw (length-append front pool, less_behind (length front) (length pool) k.offset k.length)
  out_behind false k h = rw (h refl) (absent_in (front ++ pool) ∙ sym (absent_in pool))

  -- and what is wrong with it over the rest is wrong with it over the whole
  pub fault_behind : (it : ItemWords) → item_fault (front ++ pool) (moved (length front) it) ≡ item_fault pool it
  fault_behind it = go (malformed it) refl
    where
      it' : ItemWords
      it' = moved (length front) it

      same : malformed it' ≡ malformed it
      same = rw (absent_behind (has_start it.code) it.start, absent_behind (has_end it.code) it.end)

      go : (m : Bool) → malformed it ≡ m → item_fault (front ++ pool) it' ≡ item_fault pool it
      go true e = rw (same, e)
      go false e =
          let f = formed_parts it e in
          let a = out_behind (has_start it.code) it.start f.no_start in
          let b = out_behind (has_end it.code) it.end f.no_end in
          rw (same, e, outside_words (front ++ pool) it' (same ∙ e), outside_words pool it e, a, b)

-- so that the items of a sheet that is read into the rest of a pool are the same by bytes over the whole pool
pub read_behind : (front text pool out : List ℕ) (c : SheetCounts) → read_answer text pool out ≡ Ok c
    → SameShown (front ++ read_pool text pool out) (read_pool text pool out) (map (moved (length front)) (items_from (read_list text pool out) 0 c.items))
    (items_from (read_list text pool out) 0 c.items)
read_behind front text pool out c h =
    items_behind front (read_pool text pool out) (items_from (read_list text pool out) 0 c.items) (read_plain text pool out c h)
