-- Items over a fresh pool that begins with the packed keys: every key reads as before, so that each item shows what it showed, and nothing is
-- wrong with it that was not. Assumes nothing.
use Prim.Native.Nat.{ℕ, suc, ◌+◌}
use mathlib.Core.Path.{◌≡◌, refl, ap₂}
use mathlib.Core.Bool.{true, false}
use mathlib.Core.List.{List, [], ◌∷◌, ◌++◌}
use native.Mathlib.Omega.{arith}
use lib.Dec.{ltb}
use lib.ListN.{length, length-append, length-take, length-drop}
use borrow.Author.Tests.{ltb-false, le-ltb}
use Rattle.query_item.specs.declared.KeyAt.{KeyAt}
use Rattle.query_item.specs.declared.ItemWords.{ItemWords}
use Rattle.query_item.specs.Items.{bytes_of, absent, shown, SameShown}
use Rattle.query_item.proofs.Laws.{upright_shown}
use Rattle.item_check.specs.Checks.{key_out, item_fault, upright_fault, first_bad, most_key}
use Rattle.item_check.proofs.Laws.{All, both_false, fault_parts, Formed, formed_parts, fault_by, keys_in}
use Rattle.pool_collect.specs.Collected.{is_known, packed, keys_of, moved_key, moved_item, moved_items}
use Rattle.pool_collect.specs.Table.{Lies}
use Rattle.pool_collect.proofs.Distinct.{AllKnown, reads_packed, offset_inside, offset_empty}

-- 02 §6.4, 01 keys.5: the words of an absent key stay 0
pub absent_moved : (pool : List ℕ) (D : List (List ℕ)) → moved_key pool D absent ≡ absent
absent_moved pool D = rw (offset_empty D)

-- ---- a key

lies_in : (pool : List ℕ) (k : KeyAt) → key_out pool k ≡ false → Lies pool k
lies_in pool k o =
    let b = (both_false (ltb most_key k.length) (ltb (length pool) (k.offset + k.length))).0 o in
    record { short = ltb-false _ _ b.0; within = ltb-false _ _ b.1 }

in_lies : (pool : List ℕ) (k : KeyAt) → Lies pool k → key_out pool k ≡ false
in_lies pool k l = (both_false _ _).1 (le-ltb _ _ l.short, le-ltb _ _ l.within)

pub length_bytes : (pool : List ℕ) (k : KeyAt) → Lies pool k → length (bytes_of pool k) ≡ k.length
length_bytes pool k l = simp (length-take, length-drop) (omega arith)

-- the keys of an item that nothing of 1 and 2 is wrong with
pub keys_lie : (pool : List ℕ) (it : ItemWords) → item_fault pool it ≡ 0 → Lies pool it.start × Lies pool it.end
keys_lie pool it f = let k = keys_in pool it f in (lies_in pool it.start k.0, lies_in pool it.end k.1)

-- ---- a pool that begins with the keys D, packed

module _ (pool : List ℕ) (D : List (List ℕ)) (rest : List ℕ) where
  abbrev new : List ℕ
  new = packed D ++ rest

  module _ (k : KeyAt) (l : Lies pool k) (e : is_known D (bytes_of pool k) ≡ true) where
    -- 02 §6.5: every key reads as before
    pub key_reads : bytes_of new (moved_key pool D k) ≡ bytes_of pool k
    key_reads = rw (length_bytes pool k l) at (reads_packed D (bytes_of pool k) rest e)

    key_lies : Lies new (moved_key pool D k)
    key_lies = record {
      short = l.short;
      within = omega (arith, length_bytes pool k l, offset_inside D (bytes_of pool k) e, length-append (packed D) rest);
    }

    key_moved_lem : key_out new (moved_key pool D k) ≡ false
    key_moved_lem = in_lies new (moved_key pool D k) key_lies

  -- ---- an item that nothing of 1 and 2 is wrong with, and whose keys are among D

  module _ (it : ItemWords) (f : item_fault pool it ≡ 0) where
    lie : Lies pool it.start × Lies pool it.end
    lie = keys_lie pool it f

    module _ (ka : is_known D (bytes_of pool it.start) ≡ true) (kb : is_known D (bytes_of pool it.end) ≡ true) where
      pub item_shown_lem : shown new (moved_item pool D it) ≡ shown pool it
      item_shown_lem = rw (key_reads it.start lie.0 ka, key_reads it.end lie.1 kb)

      pub fault_moved : item_fault new (moved_item pool D it) ≡ 0
      fault_moved =
          let w = formed_parts it (fault_parts pool it f).0 in
          let formed : Formed (moved_item pool D it) = record {
            known = w.known;
            known_wrapper = w.known_wrapper;
            no_start = λ e. rw (w.no_start e) (absent_moved pool D);
            no_end = λ e. rw (w.no_end e) (absent_moved pool D);
          } in
          fault_by new (moved_item pool D it) formed (key_moved_lem it.start lie.0 ka) (key_moved_lem it.end lie.1 kb)

      -- it is upright where it was
      pub upright_moved : upright_fault new (moved_item pool D it) ≡ upright_fault pool it
      upright_moved = rw (fault_moved, f, upright_shown new pool (moved_item pool D it) it item_shown_lem)

  -- ---- and a list of such items

  pub items_shown : (its : List ItemWords) → All (λ it. item_fault pool it ≡ 0) its → AllKnown D (keys_of pool its)
      → SameShown new pool (moved_items pool D its) its
  unfolding keys_of
  items_shown [] f k = refl
  items_shown (it ∷ its) f k = ap₂ ◌∷◌ (item_shown_lem it f.0 k.0 k.1.0) (items_shown its f.1 k.1.1)

  pub faults_moved : (its : List ItemWords) → All (λ it. item_fault pool it ≡ 0) its → AllKnown D (keys_of pool its)
      → All (λ it. item_fault new it ≡ 0) (moved_items pool D its)
  unfolding keys_of
  faults_moved [] f k = tt
  faults_moved (it ∷ its) f k = (fault_moved it f.0 k.0 k.1.0, faults_moved its f.1 k.1.1)

  pub bad_moved : (side i : ℕ) (its : List ItemWords) → All (λ it. item_fault pool it ≡ 0) its → AllKnown D (keys_of pool its)
      → first_bad (upright_fault new) side i (moved_items pool D its) ≡ first_bad (upright_fault pool) side i its
  unfolding keys_of first_bad
  bad_moved side i [] f k = refl
  bad_moved side i (it ∷ its) f k = rw (upright_moved it f.0 k.0 k.1.0, bad_moved side (suc i) its f.1 k.1.1)

  -- the keys in use are as before
  pub keys_moved : (its : List ItemWords) → All (λ it. item_fault pool it ≡ 0) its → AllKnown D (keys_of pool its)
      → keys_of new (moved_items pool D its) ≡ keys_of pool its
  unfolding keys_of
  keys_moved [] f k = refl
  keys_moved (it ∷ its) f k =
      let l = keys_lie pool it f.0 in
      rw (key_reads it.start l.0 k.0, key_reads it.end l.1 k.1.0, keys_moved its f.1 k.1.1)

  -- and so offsets that are rewritten stay when they are rewritten again
  pub moved_again : (its : List ItemWords) → All (λ it. item_fault pool it ≡ 0) its → AllKnown D (keys_of pool its)
      → moved_items new D (moved_items pool D its) ≡ moved_items pool D its
  unfolding keys_of
  moved_again [] f k = refl
  moved_again (it ∷ its) f k =
      let l = keys_lie pool it f.0 in
      rw (key_reads it.start l.0 k.0, key_reads it.end l.1 k.1.0, moved_again its f.1 k.1.1)
