-- The keys written one after another, a key at a time. Assumes nothing.
use Prim.Native.Nat.{ℕ, ◌+◌, ◌-◌, ◌≤◌, ◌<◌}
use mathlib.Core.Path.{◌≡◌, refl, sym, ap, ◌∙◌}
use mathlib.Core.List.{List, [], ◌∷◌, ◌++◌, append_assoc, append-nil, map, map-append}
use native.Mathlib.Omega.{arith}
use native.Mathlib.Numerals.{add-one}
use lib.ListN.{length, get_or, take, drop, take-append-drop, length-append, length-drop}
use lib.Seq.{take_all, take-suc, take_at, drop_at, drop-drop}
use borrow.Rule.Slice.PartMut.{put_mid}
use Rattle.pool_collect.specs.Collected.{packed, packed_over}
use Rattle.pool_collect.specs.Table.{entry_key}
use Rattle.pool_collect.proofs.Distinct.{length_packed}

packed_last : (D : List (List ℕ)) (k : List ℕ) → packed (D ++ k ∷ []) ≡ packed D ++ k
unfolding packed
packed_last [] k = append-nil k
packed_last (d ∷ D) k = rw (packed_last D k) (sym (append_assoc d (packed D) k))

module _ (pool es : List ℕ) where
  -- the keys of the first i entries
  abbrev pub first_keys : ℕ → List (List ℕ)
  first_keys i = map (entry_key pool) (take i es)

  abbrev pub all_keys : List (List ℕ)
  all_keys = map (entry_key pool) es

  -- those of the first i are written, up to `at`
  pub record Packing (fresh₀ : List ℕ) (i : ℕ) (fresh : List ℕ) (at : ℕ) : Type 0 where
    pub at_is : at ≡ length (packed (first_keys i))
    pub written : fresh ≡ packed_over (first_keys i) fresh₀

  pub packing_start : (fresh : List ℕ) → Packing fresh 0 fresh 0
  unfolding packed
  packing_start fresh = record { at_is = refl; written = refl }

  keys_next : (i : ℕ) → i < length es → packed (first_keys (i + 1)) ≡ packed (first_keys i) ++ entry_key pool (get_or es i 0)
  keys_next i h =
      rw (add-one i, take-suc es i 0 h, map-append (entry_key pool) (take i es) (get_or es i 0 ∷ []))
      (packed_last (first_keys i) (entry_key pool (get_or es i 0)))

  first_length : (i : ℕ) → length (packed (first_keys i)) ≤ length (packed all_keys)
  first_length i =
      let e : first_keys i ++ map (entry_key pool) (drop i es) ≡ all_keys = sym (map-append (entry_key pool) (take i es) (drop i es)) ∙ ap (map (entry_key pool)) (take-append-drop i es) in
      omega (arith, ap (λ (D : List (List ℕ)). length (packed D)) e, length_packed (first_keys i) (map (entry_key pool) (drop i es)))

  module _ (fresh₀ : List ℕ) (room : length (packed all_keys) ≤ length fresh₀) (i : ℕ) (fresh : List ℕ) (at : ℕ) (v : Packing fresh₀ i fresh at) where
    abbrev done : List ℕ
    done = packed (first_keys i)

    next_length : i < length es → {k : List ℕ} → k ≡ entry_key pool (get_or es i 0) → length (packed (first_keys (i + 1))) ≡ at + length k
    next_length h {k} e = rw (v.at_is, keys_next i h, ← e) (length-append done k)

    pub packing_room : i < length es → {k : List ℕ} → k ≡ entry_key pool (get_or es i 0) → at + length k ≤ length fresh
    packing_room h e =
        omega (
          arith,
          next_length h e,
          first_length i,
          first_length (i + 1),
          v.at_is,
          room,
          ap length v.written,
          length-append done (drop (length done) fresh₀),
          length-drop (length done) fresh₀,
        )

    pub packing_more : i < length es → {k fresh' : List ℕ} → k ≡ entry_key pool (get_or es i 0) → fresh' ≡ put_mid at (at + length k - at) fresh k
        → Packing fresh₀ (i + 1) fresh' (at + length k)
    packing_more h {k} e p =
        let long = next_length h e in
        let front : take at fresh ≡ done = ap (take at) v.written ∙ take_at done (drop (length done) fresh₀) at (sym v.at_is) in
        let back : drop at fresh ≡ drop (length done) fresh₀ = ap (drop at) v.written ∙ drop_at done (drop (length done) fresh₀) at (sym v.at_is) in
        let past : length done + (at + length k - at) ≡ at + length k = omega (arith, v.at_is) in
        record {
          at_is = sym long;
          written = p ∙ rw (front, back, drop-drop, past, long, keys_next i h, ← e) (sym (append_assoc done k (drop (at + length k) fresh₀)));
        }

    pub packing_end : length es ≤ i → fresh ≡ packed_over all_keys fresh₀
    packing_end h = v.written ∙ rw (take_all i es h)
