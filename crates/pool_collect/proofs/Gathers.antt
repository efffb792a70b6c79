-- The first pass, a key at a time: an empty key and a known one change nothing, a new one is put into both arrays. Assumes nothing.
use Prim.Native.Nat.{ℕ, ◌+◌, ◌%◌, ◌<◌}
use mathlib.Core.Path.{◌≡◌, refl, sym, ◌∙◌}
use mathlib.Core.Bool.{Bool, true, false, cond, true≢false}
use mathlib.Core.List.{List, [], ◌∷◌, ◌++◌, map-append, append-nil}
use native.Mathlib.Decide.{ℕ_discrete}
use native.Mathlib.Omega.{arith}
use native.Mathlib.Numerals.{add-one}
use lib.Dec.{ltb}
use lib.ListN.{length, get_or, take, set, length-set}
use lib.Seq.{take-suc-set, get_or-set_same, get_or-set_other}
use borrow.Author.Tests.{lt-ltb, ltb-true}
use Rattle.query_item.specs.declared.KeyAt.{KeyAt}
use Rattle.query_item.specs.Items.{bytes_of, same}
use Rattle.pool_collect.specs.Collected.{is_empty, is_known, packed, offset_in}
use Rattle.pool_collect.specs.Table.{entry_of, new_offset, entry_key, keys_in, entry_at, Spot, Shifted, Inserted, Searchable, Ready, Gathers, is_there}
use Rattle.pool_collect.proofs.Distinct.{empty_known, add_known, add_new, length_packed, offset_empty, offset_inside, offset_last}
use Rattle.pool_collect.proofs.Moved.{length_bytes}
use Rattle.pool_collect.proofs.Indexed.{entry_new, entry_key_lem, old_index, found, not_known, indexed_more}

filled : (l : List ℕ) → 0 < length l → is_empty l ≡ false
filled [] h = absurd (omega arith)
filled (x ∷ l) h = refl

emptied : (l : List ℕ) → length l ≡ 0 → l ≡ []
emptied [] h = refl
emptied (x ∷ l) h = absurd (omega arith)

-- the keys with one entry more
keys_more : (pool order : List ℕ) (m e : ℕ) → m < length order → keys_in pool (set order m e) (m + 1) ≡ keys_in pool order m ++ entry_key pool e ∷ []
unfolding keys_in
keys_more pool order m e h = rw (add-one m, take-suc-set order m e h) (map-append (entry_key pool) (take m order) (e ∷ []))

length_packed_one : (D : List (List ℕ)) (k : List ℕ) → length (packed (D ++ k ∷ [])) ≡ length (packed D) + length k
unfolding packed
length_packed_one D k = length_packed D (k ∷ []) ∙ rw append-nil

-- a key that is at a spot is one of the known ones
pub there_below : (pool : List ℕ) (T : ℕ → ℕ) (m p : ℕ) (k : List ℕ) → is_there pool T m p k ≡ true → p < m
unfolding is_there
there_below pool T m p k t = go (ltb p m) refl t
  where
    go : (s : Bool) → ltb p m ≡ s → cond s (same (entry_key pool (T p)) k) false ≡ true → p < m
    go true h t = ltb-true p m h
    go false h t = absurd (true≢false (sym t))

module _ (pool order table : List ℕ) (known used : ℕ) (key : KeyAt) (R : Ready pool order table known used key) where
  pub searchable : Searchable pool order table known
  searchable = record {
    order_long = omega (arith, R.room, R.state.order_long);
    table_long = omega (arith, R.room, R.state.table_long);
    indices = R.state.indices;
    ascending = R.state.index.ascending;
  }

  abbrev T : ℕ → ℕ
  T = entry_at order table

  stays : {to : ℕ} → is_known (keys_in pool order known) (bytes_of pool key) ≡ true → to ≡ offset_in (keys_in pool order known) (bytes_of pool key)
      → Gathers pool order known used (bytes_of pool key) order table known used to
  stays e p = record {
    state = R.state;
    keys = sym (add_known _ _ e);
    few = omega arith;
    most = omega arith;
    place = p;
  }

  pub gathers_empty : key.length ≡ 0 → Gathers pool order known used (bytes_of pool key) order table known used 0
  gathers_empty z =
      let e = emptied (bytes_of pool key) (length_bytes pool key R.inside.lies ∙ z) in
      stays (rw e (empty_known (keys_in pool order known))) (rw e (sym (offset_empty (keys_in pool order known))))

  module _ (full : (key.length ≡ 0) → ⊥) (p : ℕ) (S : Spot pool T known (bytes_of pool key) p) where
    is_filled : is_empty (bytes_of pool key) ≡ false
    is_filled = filled (bytes_of pool key) (rw (length_bytes pool key R.inside.lies) (omega arith))

    pub gathers_known : is_there pool T known p (bytes_of pool key) ≡ true → {to : ℕ} → to ≡ new_offset (T p) % 4294967296
        → Gathers pool order known used (bytes_of pool key) order table known used to
    unfolding is_there
    gathers_known t e =
        let D = keys_in pool order known in
        let h = there_below pool T known p (bytes_of pool key) t in
        let f = found pool T known key D R.state.index p S h (rw (lt-ltb p known h) at t) in
        stays f.0 (e ∙ omega (arith, f.1, offset_inside D (bytes_of pool key) f.0, R.state.used_is, R.fits))

    -- an entry more leaves the others as they are
    shifted : (e : ℕ) (table' : List ℕ) → Inserted table p known known table' → Shifted T p known e (entry_at (set order known e) table')
    shifted e table' Q = record {
      below = λ i h. kept i (Q.shifted.below i h) (omega (arith, S.within));
      here = rw Q.shifted.here (get_or-set_same order known e 0 (omega (arith, R.room, R.state.order_long)));
      moved = λ i h l. kept i (Q.shifted.moved i h l) l;
    }
      where
        kept : (i : ℕ) {j : ℕ} → j ≡ get_or table i 0 → i < known → get_or (set order known e) j 0 ≡ get_or order (get_or table i 0) 0
        kept i q l = rw q (get_or-set_other order known (get_or table i 0) e 0 (λ z. omega (arith, R.state.indices i l)))

    -- each index is that of a known key
    indices_more : (table' : List ℕ) → Inserted table p known known table' → (i : ℕ) → i < known + 1 → get_or table' i 0 < known + 1
    indices_more table' Q i h = elim (ℕ_discrete i p) [
      | yes q ↦ rw (q, Q.shifted.here) (omega arith)
      | no q ↦ let o = old_index Q.shifted S.within i h q in omega (arith, o.1.1, R.state.indices o.0 o.1.0)
    ]

    pub gathers_new : is_there pool T known p (bytes_of pool key) ≡ false → (table' : List ℕ) → Inserted table p known known table'
        → Gathers pool order known used (bytes_of pool key) (set order known (entry_of used key)) table' (known + 1) (used + key.length) used
    unfolding is_there
    gathers_new t table' Q =
        let st = R.state in
        let D = keys_in pool order known in
        let new : is_known D (bytes_of pool key) ≡ false =
        not_known pool T known key D st.index p S is_filled (λ h. rw (lt-ltb p known h) at t) in
        let long : 0 < key.length = omega arith in
        let is_key = entry_key_lem used pool key R.inside long in
        let keys : keys_in pool (set order known (entry_of used key)) (known + 1) ≡ D ++ bytes_of pool key ∷ [] =
        keys_more pool order known (entry_of used key) (omega (arith, R.room, st.order_long)) ∙ rw is_key in
        record {
          state = record {
            order_long = rw (length-set order known (entry_of used key)) st.order_long;
            table_long = rw Q.long st.table_long;
            indices = indices_more table' Q;
            used_is = rw (keys, length_packed_one D (bytes_of pool key), length_bytes pool key R.inside.lies, ← st.used_is);
            index = rw keys
                (indexed_more pool T known key D st.index p S _ (entry_of used key) (shifted (entry_of used key) table' Q) new is_filled is_key
                (entry_new used pool key R.inside long ∙ st.used_is));
          };
          keys = keys ∙ sym (add_new D (bytes_of pool key) new);
          few = omega arith;
          most = omega (arith, R.inside.lies.short);
          place = st.used_is ∙ sym (rw keys (offset_last D (bytes_of pool key) new));
        }
