-- The short check of an item says what the long one does: an item is clean exactly where its fault is 0, and one that is not, and breaks nothing
-- of 1, 2 and 5, has a bad key. Assumes nothing.
use Prim.Native.Nat.{ℕ, zero, suc, ◌+◌, ◌≤◌}
use Rattle.std.specs.Prelude.{Err}
use Rattle.key_order.proofs.Impossible.{impossible}
use Rattle.item_check.specs.declared.Refusal.{Refusal}
use mathlib.Core.Path.{◌≡◌, refl, sym, ◌∙◌}
use mathlib.Core.Bool.{Bool, true, false, not, ◌&&◌, ◌||◌, and-true, not-not, true≢false}
use mathlib.Core.List.{List}
use native.Mathlib.Omega.{arith}
use lib.ListN.{length, drop, length-take, length-drop}
use lib.Dec.{leb, ltb, eqb}
use borrow.Author.Tests.{ltb-false, leb-true, le-leb, eqb-true, eq-eqb, not-true}
use Rattle.query_item.specs.declared.KeyAt.{KeyAt}
use Rattle.query_item.specs.declared.ItemWords.{ItemWords}
use Rattle.query_item.specs.Items.{bytes_of, absent}
use Rattle.item_check.specs.Checks.{most_key, has_start, has_end, nonzero, key_out, item_fault, fault_at}
use Rattle.key_order.proofs.Bools.{both_true}
use Rattle.item_check.proofs.Laws.{both_false, fault_parts, Formed, formed_parts, zero_absent, absent_in, fault_by, keys_in}
use Rattle.position_key.specs.Keys.{key_size}
use Rattle.position_query.specs.Covered.{no_position, position_fault}
use Rattle.position_query.specs.Inner.{is_good, is_clean}

-- what is refused has a fault
pub some_fault : (f side i : ℕ) (r : Refusal) → fault_at f side i ≡ Err r → f ≡ 0 → ⊥
some_fault zero side i r e = λ z. impossible cc
some_fault (suc f) side i r e = λ z. omega arith

module _ (pool : List ℕ) where
  -- ---- one key

  -- the bytes of a key that lies in the pool are as many as its length says
  key_length : (k : KeyAt) → key_out pool k ≡ false → length (bytes_of pool k) ≡ k.length
  key_length k o =
      let fits : k.offset + k.length ≤ length pool =
      ltb-false _ _ ((both_false (ltb most_key k.length) (ltb (length pool) (k.offset + k.length))).0 o).1 in
      omega (arith, length-take k.length (drop k.offset pool), length-drop k.offset pool)

  -- a good key breaks nothing
  good_parts : (has : Bool) (k : KeyAt) → is_good pool has k ≡ true
      → (has ≡ false → k ≡ absent) × (key_out pool k ≡ false) × (has && no_position pool k ≡ false)
  good_parts true k g =
      let both = both_true (eqb k.length key_size) (not (key_out pool k)) g in
      let o = not-true (key_out pool k) both.1 in
      (λ e. absurd (true≢false e), o, rw (key_length k o, both.0))
  good_parts false k g = let e = zero_absent k (not-true (nonzero k) g) in (λ h. e, rw e (absent_in pool), refl)

  -- a key that breaks nothing of 1 and 2 is good exactly where it breaks nothing of 7
  good_key : (has : Bool) (k : KeyAt) → (has ≡ false → k ≡ absent) → key_out pool k ≡ false → is_good pool has k ≡ not (has && no_position pool k)
  good_key true k w o = let t = eqb k.length key_size in rw (key_length k o, o) (and-true t ∙ sym (not-not t))
  good_key false k w o = rw (w refl)

  -- ---- an item

  module _ (it : ItemWords) where
    pub clean_fault : is_clean pool it ≡ true → position_fault pool it ≡ 0
    clean_fault h =
        let three = both_true (leb it.code 9 && eqb it.wrapper 0 && is_good pool (has_start it.code) it.start) (is_good pool (has_end it.code) it.end) h in
        let two = both_true (leb it.code 9 && eqb it.wrapper 0) (is_good pool (has_start it.code) it.start) three.0 in
        let one = both_true (leb it.code 9) (eqb it.wrapper 0) two.0 in
        let plain : it.wrapper ≡ 0 = eqb-true it.wrapper 0 one.1 in
        let s = good_parts (has_start it.code) it.start two.1 in
        let e = good_parts (has_end it.code) it.end three.1 in
        let formed : Formed it = record { known = leb-true it.code 9 one.0; known_wrapper = omega arith; no_start = s.0; no_end = e.0 } in
        rw (fault_by pool it formed s.1 e.1, one.1, s.2, e.2)

    module _ (none : item_fault pool it ≡ 0) where
      -- what is left to be wrong
      pub fault_key : it.wrapper ≡ 0 → is_clean pool it ≡ false → position_fault pool it ≡ 7
      fault_key w h =
          let f = formed_parts it (fault_parts pool it none).0 in
          let keys = keys_in pool it none in
          let p = has_start it.code && no_position pool it.start in
          let q = has_end it.code && no_position pool it.end in
          let clean : is_clean pool it ≡ not p && not q = rw (
            le-leb it.code 9 f.known,
            eq-eqb it.wrapper 0 w,
            good_key (has_start it.code) it.start f.no_start keys.0,
            good_key (has_end it.code) it.end f.no_end keys.1,
          ) in
          rw (none, eq-eqb it.wrapper 0 w, some p q (sym clean ∙ h))
        where
          some : (p q : Bool) → not p && not q ≡ false → p || q ≡ true
          some true q e = refl
          some false true e = refl
          some false false e = absurd (true≢false e)
