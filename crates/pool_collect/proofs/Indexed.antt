-- The entries in order of bytes: a key is found by halving, and a new one is put where it would stand. Assumes nothing.
use Rattle.std.specs.declared.cmp.Ordering.{Ordering}
use Rattle.std.specs.declared.cmp.Ordering.TheVariants.{Less, Equal, Greater}
use Rattle.std.specs.Ordering.{is_lt}
use Prim.Native.Nat.{ℕ, ◌+◌, ◌-◌, ◌*◌, ◌/◌, ◌%◌, ◌≤◌, ◌<◌}
use mathlib.Core.Path.{◌≡◌, refl, sym, ap, ◌∙◌}
use mathlib.Core.Bool.{Bool, true, false, ◌||◌, true≢false}
use mathlib.Core.List.{List, [], ◌∷◌, ◌++◌}
use native.Mathlib.Decide.{dec_lt, ℕ_discrete}
use native.Mathlib.Omega.{arith}
use lib.Dec.{ltb}
use lib.ListN.{length, get_or, take}
use lib.Seq.{get_or-take}
use Rattle.std.proofs.lemmas.List.{get_or_default}
use Rattle.std.specs.List.Sorted.{IsPartitionedBy, IsPartitionPoint}
use borrow.Author.Tests.{ltb-true, ltb-false, lt-ltb, le-ltb}
use Rattle.key_order.specs.Order.{compare_keys}
use Rattle.key_order.proofs.Numbers.{says_less, flip}
use Rattle.key_order.proofs.Laws.{compare_flip, compare_equal, compare_same}
use Rattle.key_order.proofs.Line.{size, place, place_says}
use Rattle.query_item.specs.declared.KeyAt.{KeyAt}
use Rattle.query_item.specs.Items.{bytes_of, same}
use Rattle.query_item.proofs.Fits.{key_fits}
use Rattle.pool_collect.specs.Collected.{is_empty, is_known, packed, offset_in}
use Rattle.pool_collect.specs.Table.{is_below as is_below_at}
use Rattle.pool_collect.specs.Table.{entry_at, entry_of, new_offset, old_key, entry_key, Ascending, Indexed, Searchable, Spot, Shifted, Inside}
use Rattle.pool_collect.proofs.Distinct.{known_append, known_snoc, known_last, offset_append, offset_last}

-- ---- entries

pub entry_new : (to : ℕ) (pool : List ℕ) (k : KeyAt) → Inside pool k → 0 < k.length → new_offset (entry_of to k) ≡ to
entry_new to pool k h z = omega arith

pub entry_key_lem : (to : ℕ) (pool : List ℕ) (k : KeyAt) → Inside pool k → 0 < k.length → entry_key pool (entry_of to k) ≡ bytes_of pool k
unfolding entry_key
entry_key_lem to pool k h z =
    let l : (to * 16777216 + k.offset * 256 + k.length) % 256 ≡ k.length = omega arith in
    let q : (to * 16777216 + k.offset * 256 + k.length) / 256 ≡ to * 65536 + k.offset = omega arith in
    let o : (to * 65536 + k.offset) % 65536 ≡ k.offset = omega arith in
    rw (l, q, o)

-- a known index can be read, and the entry that it names
pub search_at : {pool order table : List ℕ} {known : ℕ} → Searchable pool order table known → (i : ℕ) → i < known
    → (i < length table) × (get_or table i 0 < length order)
search_at s i h = (omega (arith, s.table_long), omega (arith, s.indices i h, s.order_long))

-- what is told of the indices in order of bytes
pub told_below : {pool order table : List ℕ} {known : ℕ} → Searchable pool order table known → (k : List ℕ) → (i d : ℕ) → i < known
    → is_below_at pool order k (get_or (take known table) i d) ≡ is_lt (compare_keys (entry_key pool (entry_at order table i)) k)
told_below {table} {known} s k i d h =
    let e : get_or (take known table) i d ≡ get_or table i 0 = get_or-take known table i d h ∙ get_or_default table i d 0 (omega (arith, s.table_long)) in
    rw (e, lt-ltb _ _ (search_at s i h).1)

-- an index below m + 1 that is not the spot is that of an old entry before it, or of one after it
pub old_index : {T T' : ℕ → ℕ} {p m e : ℕ} → Shifted T p m e T' → p ≤ m → (i : ℕ) → i < m + 1 → (i ≡ p → ⊥) → (j : ℕ) × ((j < m) × (T' i ≡ T j))
old_index {T} {T'} {p} Q w i h n = elim (dec_lt i p) [
  | yes l ↦ (i, (omega arith, Q.below i l))
  | no l ↦ (i - 1, (omega arith, let q : i ≡ i - 1 + 1 = omega arith in ap T' q ∙ Q.moved (i - 1) (omega arith) (omega arith)))
]

-- ---- keys of a pool as numbers

module _ (pool : List ℕ) where
  num : List ℕ → ℕ
  num k = place (size pool) k

  -- the order of a table's key and a key of the pool is that of their numbers
  less_num : (e : ℕ) (k : KeyAt) → is_lt (compare_keys (entry_key pool e) (bytes_of pool k)) ≡ ltb (num (entry_key pool e)) (num (bytes_of pool k))
  unfolding entry_key num
  less_num e k =
      says_less (compare_keys (bytes_of pool (old_key e)) (bytes_of pool k)) (place (size pool) (bytes_of pool (old_key e))) (place (size pool) (bytes_of pool k))
      (place_says (size pool) (bytes_of pool (old_key e)) (bytes_of pool k) (key_fits pool (old_key e)) (key_fits pool k))

  module _ (T : ℕ → ℕ) (m : ℕ) where
    abbrev N : ℕ → ℕ
    N i = num (entry_key pool (T i))

    ascends : Ascending pool T m → (i j : ℕ) → i < j → j < m → N i < N j
    unfolding entry_key
    ascends a i j h l = ltb-true _ _ (sym (less_num (T i) (old_key (T j))) ∙ a i j h l)

    module _ (key : KeyAt) where
      x : ℕ
      x = num (bytes_of pool key)

      is_below : (i : ℕ) → is_lt (compare_keys (entry_key pool (T i)) (bytes_of pool key)) ≡ true → N i < x
      unfolding x
      is_below i e = ltb-true _ _ (sym (less_num (T i) key) ∙ e)

      is_not : (i : ℕ) → is_lt (compare_keys (entry_key pool (T i)) (bytes_of pool key)) ≡ false → x ≤ N i
      unfolding x
      is_not i e = ltb-false _ _ (sym (less_num (T i) key) ∙ e)

      below_is : (i : ℕ) → N i < x → is_lt (compare_keys (entry_key pool (T i)) (bytes_of pool key)) ≡ true
      unfolding x
      below_is i h = less_num (T i) key ∙ lt-ltb _ _ h

      not_is : (i : ℕ) → x ≤ N i → is_lt (compare_keys (entry_key pool (T i)) (bytes_of pool key)) ≡ false
      unfolding x
      not_is i h = less_num (T i) key ∙ le-ltb _ _ h

      -- ---- a list of indices, by a test that says which entries are below the key

      module _ (xs : List ℕ) (p : ℕ → Bool) (long : length xs ≡ m) (a : Ascending pool T m)
          (told : (i d : ℕ) → i < m → p (get_or xs i d) ≡ is_lt (compare_keys (entry_key pool (T i)) (bytes_of pool key))) where
        parted : IsPartitionedBy p xs
        parted i j d le lt e = elim (ℕ_discrete i j) [
          | yes q ↦ rw q e
          | no q ↦
              let l : j < m = omega arith in
              told i d (omega arith) ∙ below_is i (omega (arith, ascends a i j (omega arith) l, is_below j (sym (told j d l) ∙ e)))
        ]

        pub spot_by : {n : ℕ} → n ≤ length xs → (IsPartitionedBy p xs → IsPartitionPoint (λ y. p y ≡ true) (λ y. p y ≡ false) xs n)
            → Spot pool T m (bytes_of pool key) n
        spot_by l h =
            let at = h parted in
            record {
              within = omega arith;
              below = λ i k. sym (told i 0 (omega arith)) ∙ at.0 i 0 (omega arith) k;
              others = λ i k o. sym (told i 0 o) ∙ at.1 i 0 k (omega arith);
            }

      -- where the last entry is below the key, all are
      pub past_last : Ascending pool T m → 0 < m → is_lt (compare_keys (entry_key pool (T (m - 1))) (bytes_of pool key)) ≡ true
          → Spot pool T m (bytes_of pool key) m
      past_last a h e =
          record {
            within = omega arith;
            below = λ i k. elim (ℕ_discrete i (m - 1)) [
              | yes q ↦ rw q e
              | no q ↦ below_is i (omega (arith, ascends a i (m - 1) (omega arith) (omega arith), is_below (m - 1) e))
            ];
            others = λ i k l. absurd (omega arith);
          }

      -- ---- what stands at the spot

      module _ (D : List (List ℕ)) (X : Indexed pool T m D) (p : ℕ) (S : Spot pool T m (bytes_of pool key) p) where
        -- a known key that is not empty stands there
        pub known_here : is_empty (bytes_of pool key) ≡ false → is_known D (bytes_of pool key) ≡ true
            → (p < m) × (entry_key pool (T p) ≡ bytes_of pool key)
        unfolding x
        known_here z e =
            let f = X.complete (bytes_of pool key) z e in
            let i = f.0 in
            let n : N i ≡ num (bytes_of pool key) = ap num f.1.1 in
            elim (dec_lt i p) [
              | yes h ↦ absurd (omega (arith, is_below i (S.below i h)))
              | no h ↦ elim (dec_lt p i) [
                | yes l ↦ absurd (omega (arith, f.1.0, ascends X.ascending p i l f.1.0, is_not p (S.others p (omega arith) (omega (arith, f.1.0)))))
                | no l ↦
                    let q : i ≡ p = omega arith in
                    (omega (arith, f.1.0), rw (← q) f.1.1)
              ]
            ]

        -- what stands there, equal to the key, tells its offset
        pub found : p < m → same (entry_key pool (T p)) (bytes_of pool key) ≡ true
            → (is_known D (bytes_of pool key) ≡ true) × (new_offset (T p) ≡ offset_in D (bytes_of pool key))
        found h e = rw ((compare_same _ _).0 e) at (X.sound p h)

        -- nothing there is equal to the key: it is new
        pub not_known : is_empty (bytes_of pool key) ≡ false → (p < m → same (entry_key pool (T p)) (bytes_of pool key) ≡ false)
            → is_known D (bytes_of pool key) ≡ false
        not_known z n = go (is_known D (bytes_of pool key)) refl
          where
            go : (t : Bool) → is_known D (bytes_of pool key) ≡ t → t ≡ false
            go true e =
                let f = known_here z e in
                absurd (true≢false (sym (rw f.1 ((compare_same (bytes_of pool key) (bytes_of pool key)).1 refl)) ∙ n f.0))
            go false e = refl

        -- ---- a new key is put there

        module _ (T' : ℕ → ℕ) (e : ℕ) (Q : Shifted T p m e T') (new : is_known D (bytes_of pool key) ≡ false)
            (filled : is_empty (bytes_of pool key) ≡ false) (is_key : entry_key pool e ≡ bytes_of pool key) (is-to : new_offset e ≡ length (packed D)) where
          at_old : (i j : ℕ) → T' i ≡ T j → entry_key pool (T' i) ≡ entry_key pool (T j)
          at_old i j q = ap (entry_key pool) q

          at_spot : (i : ℕ) → i ≡ p → entry_key pool (T' i) ≡ bytes_of pool key
          at_spot i q = rw (q, Q.here) is_key

          after : (i : ℕ) → p < i → i < m + 1 → T' i ≡ T (i - 1)
          after i h l = let q : i ≡ i - 1 + 1 = omega arith in ap T' q ∙ Q.moved (i - 1) (omega arith) (omega arith)

          -- an old entry from the spot on is above the new key
          above : (i : ℕ) → p ≤ i → i < m → is_lt (compare_keys (bytes_of pool key) (entry_key pool (T i))) ≡ true
          above i h l = rw (compare_flip (entry_key pool (T i)) (bytes_of pool key)) (go (compare_keys (entry_key pool (T i)) (bytes_of pool key)) refl (S.others i h l))
            where
              go : (o : Ordering) → compare_keys (entry_key pool (T i)) (bytes_of pool key) ≡ o → is_lt o ≡ false → is_lt (flip o) ≡ true
              go Less q z = absurd (true≢false z)
              go Equal q z = absurd (true≢false (sym (rw ((compare_equal _ _).0 q) at (X.sound i l).0) ∙ new))
              go Greater q z = refl

          ascending_more : Ascending pool T' (m + 1)
          ascending_more i j h l = elim (dec_lt j p) [
            | yes a ↦ rw (at_old i i (Q.below i (omega arith)), at_old j j (Q.below j a)) (X.ascending i j h (omega (arith, S.within)))
            | no a ↦ elim (ℕ_discrete j p) [
              | yes b ↦ rw (at_old i i (Q.below i (omega arith)), at_spot j b) (S.below i (omega arith))
              | no b ↦ elim (dec_lt i p) [
                | yes d ↦ rw (at_old i i (Q.below i d), at_old j (j - 1) (after j (omega arith) l)) (X.ascending i (j - 1) (omega arith) (omega arith))
                | no d ↦ elim (ℕ_discrete i p) [
                  | yes f ↦ rw (at_spot i f, at_old j (j - 1) (after j (omega arith) l)) (above (j - 1) (omega arith) (omega arith))
                  | no f ↦
                      rw (at_old i (i - 1) (after i (omega arith) (omega arith)), at_old j (j - 1) (after j (omega arith) l))
                      (X.ascending (i - 1) (j - 1) (omega arith) (omega arith))
                ]
              ]
            ]
          ]

          complete_more : (k : List ℕ) → is_empty k ≡ false → is_known (D ++ bytes_of pool key ∷ []) k ≡ true
              → (i : ℕ) × ((i < m + 1) × (entry_key pool (T' i) ≡ k))
          complete_more k z f = go (is_known D k) refl (same (bytes_of pool key) k) refl (sym (known_snoc D (bytes_of pool key) k) ∙ f)
            where
              go : (s : Bool) → is_known D k ≡ s → (t : Bool) → same (bytes_of pool key) k ≡ t → s || t ≡ true
                  → (i : ℕ) × ((i < m + 1) × (entry_key pool (T' i) ≡ k))
              go true a t b g =
                  let o = X.complete k z a in
                  elim (dec_lt o.0 p) [
                    | yes h ↦ (o.0, (omega (arith, o.1.0), at_old o.0 o.0 (Q.below o.0 h) ∙ o.1.1))
                    | no h ↦ (o.0 + 1, (omega (arith, o.1.0), at_old (o.0 + 1) o.0 (Q.moved o.0 (omega arith) o.1.0) ∙ o.1.1))
                  ]
              go false a true b g = (p, (omega (arith, S.within), at_spot p refl ∙ (compare_same (bytes_of pool key) k).0 b))
              go false a false b g = absurd (true≢false (sym g))

          pub indexed_more : Indexed pool T' (m + 1) (D ++ bytes_of pool key ∷ [])
          indexed_more = record {
            ascending = ascending_more;
            sound = λ i h. elim (ℕ_discrete i p) [
              | yes q ↦ rw (q, Q.here, is_key) (known_last D (bytes_of pool key), is-to ∙ sym (offset_last D (bytes_of pool key) new))
              | no q ↦
                  let o = old_index Q S.within i h q in
                  let s = X.sound o.0 o.1.0 in
                  rw o.1.1 (known_append D (bytes_of pool key ∷ []) _ s.0, s.1 ∙ sym (offset_append D (bytes_of pool key ∷ []) _ s.0))
            ];
            complete = complete_more;
          }
