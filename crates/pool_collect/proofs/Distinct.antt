-- The distinct keys: each key in use is among them, each of them is in use, no two are equal, and a key reads where it stands in them.
-- Assumes nothing.
use Prim.Native.Nat.{ℕ, ◌+◌, ◌≤◌}
use mathlib.Core.Path.{◌≡◌, refl, sym, ap, ◌∙◌}
use mathlib.Core.Bool.{Bool, true, false, cond, ◌||◌, true≢false, or-true, or_comm, or_assoc}
use mathlib.Core.List.{List, [], ◌∷◌, ◌++◌, append_assoc, append-nil}
use native.Mathlib.Omega.{arith}
use lib.ListN.{length, take, drop, length-append}
use lib.Seq.{take-append_seam, drop-append-add}
use Rattle.key_order.proofs.Laws.{compare_same}
use Rattle.item_check.proofs.Laws.{All}
use Rattle.query_item.specs.Items.{same}
use Rattle.pool_collect.specs.Collected.{is_empty, is_known, add_key, gather, distinct, packed, together, offset_in}

-- ---- known keys

-- every key of a list of keys is known
abbrev pub AllKnown : List (List ℕ) → List (List ℕ) → Type 0
AllKnown D ks = All (λ k. is_known D k ≡ true) ks

pub empty_known : (D : List (List ℕ)) → is_known D [] ≡ true
unfolding is_known
empty_known [] = refl
empty_known (d ∷ D) = rw (empty_known D) (or-true (same d []))

pub known_append : (D E : List (List ℕ)) (k : List ℕ) → is_known D k ≡ true → is_known (D ++ E) k ≡ true
unfolding is_known
known_append [] E [] e = empty_known E
known_append [] E (b ∷ k) e = absurd (true≢false (sym e))
known_append (d ∷ D) E k e = go (same d k) e (known_append D E k)
  where
    go : (t : Bool) → t || is_known D k ≡ true → (is_known D k ≡ true → is_known (D ++ E) k ≡ true) → t || is_known (D ++ E) k ≡ true
    go true e r = refl
    go false e r = r e

-- the key at the end
pub known_last : (D : List (List ℕ)) (k : List ℕ) → is_known (D ++ k ∷ []) k ≡ true
unfolding is_known
known_last [] k = rw ((compare_same k k).1 refl)
known_last (d ∷ D) k = rw (known_last D k) (or-true (same d k))

-- what is known with a key at the end: that key, and what was known
pub known_snoc : (D : List (List ℕ)) (k l : List ℕ) → is_known (D ++ k ∷ []) l ≡ is_known D l || same k l
unfolding is_known
known_snoc [] k l = or_comm (same k l) (is_empty l)
known_snoc (d ∷ D) k l = rw (known_snoc D k l) (sym (or_assoc (same d l) (is_known D l) (same k l)))

-- ---- one key more

pub add_known : (D : List (List ℕ)) (k : List ℕ) → is_known D k ≡ true → add_key D k ≡ D
unfolding add_key
add_known D k e = rw e

pub add_new : (D : List (List ℕ)) (k : List ℕ) → is_known D k ≡ false → add_key D k ≡ D ++ k ∷ []
unfolding add_key
add_new D k e = rw e

-- D is the front of E
pub Front : List (List ℕ) → List (List ℕ) → Type 0
Front D E = (X : List (List ℕ)) × (E ≡ D ++ X)

pub add_front : (D : List (List ℕ)) (k : List ℕ) → Front D (add_key D k)
unfolding add_key Front
add_front D k = go (is_known D k)
  where
    go : (t : Bool) → (X : List (List ℕ)) × (cond t D (D ++ k ∷ []) ≡ D ++ X)
    go true = ([], sym (append-nil D))
    go false = (k ∷ [], refl)

pub gather_front : (D ks : List (List ℕ)) → Front D (gather D ks)
unfolding gather Front
gather_front D [] = ([], sym (append-nil D))
gather_front D (k ∷ ks) =
    let a = add_front D k in
    let g = gather_front (add_key D k) ks in
    (a.0 ++ g.0, g.1 ∙ rw (a.1, append_assoc))

pub known_add : (D : List (List ℕ)) (k : List ℕ) → is_known (add_key D k) k ≡ true
unfolding add_key
known_add D k = go (is_known D k) refl
  where
    go : (t : Bool) → is_known D k ≡ t → is_known (cond t D (D ++ k ∷ [])) k ≡ true
    go true e = e
    go false e = known_last D k

pub known_front : (D E : List (List ℕ)) (k : List ℕ) → Front D E → is_known D k ≡ true → is_known E k ≡ true
unfolding Front
known_front D E k f e = rw f.1 (known_append D f.0 k e)

-- every key that was gone through is known
pub gather_known : (D ks : List (List ℕ)) → AllKnown (gather D ks) ks
unfolding gather
gather_known D [] = tt
gather_known D (k ∷ ks) = (known_front (add_key D k) (gather (add_key D k) ks) k (gather_front (add_key D k) ks) (known_add D k), gather_known (add_key D k) ks)

-- ---- where a key stands

-- 02 §6.8: packed keys have as many bytes as the keys have together
pub packed_together : (D : List (List ℕ)) → length (packed D) ≡ together D
unfolding packed together
packed_together [] = refl
packed_together (d ∷ D) = rw (length-append d (packed D), packed_together D)

pub length_packed : (D E : List (List ℕ)) → length (packed (D ++ E)) ≡ length (packed D) + length (packed E)
unfolding packed
length_packed [] E = omega arith
length_packed (d ∷ D) E = simp length-append (rw (length_packed D E) (omega arith))

-- 02 §6.4: the empty key gets offset 0
pub offset_empty : (D : List (List ℕ)) → offset_in D [] ≡ 0
unfolding offset_in
offset_empty [] = refl
offset_empty (d ∷ D) = refl

-- a known key keeps its offset
pub offset_append : (D E : List (List ℕ)) (k : List ℕ) → is_known D k ≡ true → offset_in (D ++ E) k ≡ offset_in D k
unfolding offset_in is_known
offset_append [] [] k e = refl
offset_append [] (d ∷ E) [] e = refl
offset_append [] (d ∷ E) (b ∷ k) e = absurd (true≢false (sym e))
offset_append (d ∷ D) E k e = go (is_empty k) (same d k) e (offset_append D E k)
  where
    go : (s t : Bool) → t || is_known D k ≡ true → (is_known D k ≡ true → offset_in (D ++ E) k ≡ offset_in D k)
        → cond (s || t) 0 (length d + offset_in (D ++ E) k) ≡ cond (s || t) 0 (length d + offset_in D k)
    go true t e r = refl
    go false true e r = refl
    go false false e r = rw (r e)

pub offset_front : (D E : List (List ℕ)) (k : List ℕ) → Front D E → is_known D k ≡ true → offset_in E k ≡ offset_in D k
unfolding Front
offset_front D E k f e = rw f.1 (offset_append D f.0 k e)

-- a new key at the end stands past all others
pub offset_last : (D : List (List ℕ)) (k : List ℕ) → is_known D k ≡ false → offset_in (D ++ k ∷ []) k ≡ length (packed D)
unfolding offset_in is_known packed
offset_last [] k e = rw ((compare_same k k).1 refl) (go (is_empty k))
  where
    go : (t : Bool) → cond (t || true) 0 (length k + 0) ≡ 0
    go true = refl
    go false = refl
offset_last (d ∷ D) k e = go (is_empty k) refl (same d k) e (offset_last D k)
  where
    go : (s : Bool) → is_empty k ≡ s → (t : Bool) → t || is_known D k ≡ false
        → (is_known D k ≡ false → offset_in (D ++ k ∷ []) k ≡ length (packed D))
        → cond (s || t) 0 (length d + offset_in (D ++ k ∷ []) k) ≡ length (d ++ packed D)
    go s q true e r = absurd (true≢false e)
    go true q false e r = absurd (true≢false (sym (empty_is_known k q) ∙ e))
      where
        empty_is_known : (k : List ℕ) → is_empty k ≡ true → is_known D k ≡ true
        empty_is_known [] q = empty_known D
        empty_is_known (b ∷ k) q = absurd (true≢false (sym q))
    go false q false e r = rw (length-append d (packed D), r e)

-- a known key is inside the packed keys
pub offset_inside : (D : List (List ℕ)) (k : List ℕ) → is_known D k ≡ true → offset_in D k + length k ≤ length (packed D)
unfolding offset_in is_known packed
offset_inside [] [] e = omega arith
offset_inside [] (b ∷ k) e = absurd (true≢false (sym e))
offset_inside (d ∷ D) [] e = omega arith
offset_inside (d ∷ D) (b ∷ k) e = go (same d (b ∷ k)) refl e (offset_inside D (b ∷ k))
  where
    go : (t : Bool) → same d (b ∷ k) ≡ t → t || is_known D (b ∷ k) ≡ true
        → (is_known D (b ∷ k) ≡ true → offset_in D (b ∷ k) + length (b ∷ k) ≤ length (packed D))
        → cond t 0 (length d + offset_in D (b ∷ k)) + length (b ∷ k) ≤ length (d ++ packed D)
    go true q e r = omega (arith, length-append d (packed D), ap length ((compare_same d (b ∷ k)).0 q))
    go false q e r = omega (arith, length-append d (packed D), r e)

-- 02 §6.5: a known key reads where it stands, whatever follows the packed keys
pub reads_packed : (D : List (List ℕ)) (k rest : List ℕ) → is_known D k ≡ true
    → take (length k) (drop (offset_in D k) (packed D ++ rest)) ≡ k
unfolding offset_in is_known packed
reads_packed D [] rest e = refl
reads_packed [] (b ∷ k) rest e = absurd (true≢false (sym e))
reads_packed (d ∷ D) (b ∷ k) rest e = go (same d (b ∷ k)) refl e (reads_packed D (b ∷ k) rest)
  where
    go : (t : Bool) → same d (b ∷ k) ≡ t → t || is_known D (b ∷ k) ≡ true
        → (is_known D (b ∷ k) ≡ true → take (length (b ∷ k)) (drop (offset_in D (b ∷ k)) (packed D ++ rest)) ≡ b ∷ k)
        → take (length (b ∷ k)) (drop (cond t 0 (length d + offset_in D (b ∷ k))) ((d ++ packed D) ++ rest)) ≡ b ∷ k
    go true q e r = rw (append_assoc d (packed D) rest, (compare_same d (b ∷ k)).0 q) (take-append_seam (b ∷ k) (packed D ++ rest))
    go false q e r = rw (append_assoc d (packed D) rest, drop-append-add d (packed D ++ rest) (offset_in D (b ∷ k))) (r e)

-- ---- each key once, and no other

-- no key of the list is known by those before it: each is there once, and none is empty
abbrev pub Once : List (List ℕ) → List (List ℕ) → Type 0
Once D [] = Unit {0}
Once D (k ∷ E) = (is_known D k ≡ false) × Once (D ++ k ∷ []) E

once_append : (D E : List (List ℕ)) (k : List ℕ) → Once D E → is_known (D ++ E) k ≡ false → Once D (E ++ k ∷ [])
once_append D [] k o e = (rw append-nil at e, tt)
once_append D (l ∷ E) k o e =
    let s : D ++ l ∷ E ≡ (D ++ l ∷ []) ++ E = sym (append_assoc D (l ∷ []) E) in
    (o.0, once_append (D ++ l ∷ []) E k o.1 (rw s at e))

once_add : (D : List (List ℕ)) (k : List ℕ) → Once [] D → Once [] (add_key D k)
unfolding add_key
once_add D k o = go (is_known D k) refl
  where
    go : (t : Bool) → is_known D k ≡ t → Once [] (cond t D (D ++ k ∷ []))
    go true e = o
    go false e = once_append [] D k o e

gather_once : (D ks : List (List ℕ)) → Once [] D → Once [] (gather D ks)
unfolding gather
gather_once D [] o = o
gather_once D (k ∷ ks) o = gather_once (add_key D k) ks (once_add D k o)

pub distinct_once : (ks : List (List ℕ)) → Once [] (distinct ks)
distinct_once ks = gather_once [] ks tt

-- what is known at the end was known at the start, or is one of the keys gone through

known_or_empty : (D : List (List ℕ)) (l : List ℕ) → is_known D l ≡ is_known D l || is_empty l
known_or_empty D [] = rw (empty_known D)
known_or_empty D (b ∷ l) = or_comm false (is_known D (b ∷ l))

pub known_by_add : (D : List (List ℕ)) (k l : List ℕ) → is_known (add_key D k) l ≡ is_known D l || same k l
unfolding add_key
known_by_add D k l = go (is_known D k) refl
  where
    found : (t : Bool) → same k l ≡ t → is_known D k ≡ true → is_known D l ≡ is_known D l || t
    found true q e = let r : is_known D l ≡ true = rw (← (compare_same k l).0 q) e in rw r
    found false q e = or_comm false (is_known D l)

    go : (t : Bool) → is_known D k ≡ t → is_known (cond t D (D ++ k ∷ [])) l ≡ is_known D l || same k l
    go true e = found (same k l) refl e
    go false e = known_snoc D k l

pub gather_no_more : (D ks : List (List ℕ)) (l : List ℕ) → is_known (gather D ks) l ≡ is_known D l || is_known ks l
unfolding gather is_known
gather_no_more D [] l = known_or_empty D l
gather_no_more D (k ∷ ks) l =
    gather_no_more (add_key D k) ks l ∙ rw (known_by_add D k l) (or_assoc (is_known D l) (same k l) (is_known ks l))

-- 02 §6.1: the distinct keys are the keys in use, and no others
pub distinct_no_more : (ks : List (List ℕ)) (l : List ℕ) → is_known (distinct ks) l ≡ is_known ks l
unfolding is_known
distinct_no_more ks l = gather_no_more [] ks l ∙ rw (or_comm (is_empty l) (is_known ks l)) (sym (known_or_empty ks l))
