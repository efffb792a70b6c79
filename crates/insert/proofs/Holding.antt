-- Which keys a list holds after insertion: an item holds a key where the key's rank lies between those of its start and its end, and what
-- merges holds what each of its items held, no more. Ranks are taken at the sizes of pool and key together. Assumes nothing.
use Rattle.std.specs.Ordering.{is_lt}
use Prim.Native.Nat.{ℕ, ◌+◌, ◌≤◌, ◌<◌, min, max}
use mathlib.Core.Path.{◌≡◌, refl, sym, ap, ◌∙◌}
use mathlib.Core.Bool.{Bool, true, false, cond, ◌||◌, ◌&&◌}
use mathlib.Core.List.{List, [], ◌∷◌}
use native.Mathlib.Omega.{arith}
use native.Mathlib.Decide.{dec_le}
use lib.Dec.{leb}
use borrow.Author.Tests.{le-leb, lt-leb}
use Rattle.key_order.proofs.Line.{size}
use Rattle.key_order.proofs.Ranks.{key_rank, between_rank}
use Rattle.query_item.specs.declared.ItemWords.{ItemWords}
use Rattle.query_item.specs.Items.{holds, query_item, holds_any}
use Rattle.query_item.specs.Boundaries.{boundary_of, range_of}
use Rattle.query_item.proofs.Laws.{holds_between}
use Rattle.insert_order.specs.Order.{compare_items, same_item}
use Rattle.insert_merge.specs.declared.Fate.{Fate}
use Rattle.insert_merge.specs.declared.Fate.TheVariants.{Replaced, Stays, Merges}
use Rattle.insert_merge.specs.Merge.{fate_of, keep_by, staying, merged, merge_by, merged_with}
use Rattle.insert.specs.Insertion.{placed, inserted}
use Rattle.query_item.proofs.Laws.{boundary_fits}
use Rattle.insert_order.proofs.Ranked.{rk, lo, hi, same_rank}
use Rattle.insert_merge.proofs.Merged.{Meets, fate_is, merged_spans, meets_ranks}

-- ---- a number between two

abbrev inside : ℕ → ℕ → ℕ → Bool
inside a x b = leb a x && leb x b

inside_yes : (a x b : ℕ) → a ≤ x → x ≤ b → inside a x b ≡ true
inside_yes a x b h k = rw (le-leb a x h, le-leb x b k)

inside_low : (a x b : ℕ) → x < a → inside a x b ≡ false
inside_low a x b h = rw (lt-leb a x h)

inside_high : (a x b : ℕ) → b < x → inside a x b ≡ false
inside_high a x b h = rw (lt-leb x b h) (go (leb a x))
  where
    go : (t : Bool) → t && false ≡ false
    go true = refl
    go false = refl

or_right : (t : Bool) → t || true ≡ true
or_right true = refl
or_right false = refl

-- of two that share a number, from the smaller start to the larger end there is what is in one of them
inside_hull : (a b c d x : ℕ) → c ≤ b → a ≤ d → inside (min a c) x (max b d) ≡ inside a x b || inside c x d
inside_hull a b c d x h k = elim (dec_le a x) [
  | yes p ↦ elim (dec_le x b) [
    | yes q ↦ rw (inside_yes (min a c) x (max b d) (omega arith) (omega arith), inside_yes a x b p q)
    | no q ↦ elim (dec_le x d) [
      | yes r ↦ rw (inside_yes (min a c) x (max b d) (omega arith) (omega arith), inside_yes c x d (omega arith) r) (sym (or_right (inside a x b)))
      | no r ↦ rw (inside_high (min a c) x (max b d) (omega arith), inside_high a x b (omega arith), inside_high c x d (omega arith))
    ]
  ]
  | no p ↦ elim (dec_le c x) [
    | yes q ↦ elim (dec_le x d) [
      | yes r ↦ rw (inside_yes (min a c) x (max b d) (omega arith) (omega arith), inside_yes c x d q r) (sym (or_right (inside a x b)))
      | no r ↦ absurd (omega arith)
    ]
    | no q ↦ rw (inside_low (min a c) x (max b d) (omega arith), inside_low a x b (omega arith), inside_low c x d (omega arith))
  ]
]

-- what a wider one holds in addition is nothing where it holds it already
inside_wider : (a b c d x : ℕ) → a ≤ c → d ≤ b → inside a x b ≡ inside a x b || inside c x d
inside_wider a b c d x h k = elim (dec_le c x) [
  | yes p ↦ elim (dec_le x d) [
    | yes q ↦ rw (inside_yes a x b (omega arith) (omega arith))
    | no q ↦ rw (inside_high c x d (omega arith)) (or-false (inside a x b))
  ]
  | no p ↦ rw (inside_low c x d (omega arith)) (or-false (inside a x b))
]
  where
    or-false : (t : Bool) → t ≡ t || false
    or-false true = refl
    or-false false = refl

-- ---- the list

module _ (pool k : List ℕ) where
  abbrev N : ℕ
  N = size pool + size k

  abbrev X : ℕ
  X = key_rank N k

  abbrev S : ItemWords → ℕ
  S it = lo N pool it

  abbrev E : ItemWords → ℕ
  E it = hi N pool it

  abbrev held : ItemWords → Bool
  held it = holds pool (query_item it) k

  fits : size pool ≤ N
  fits = omega arith

  -- an item holds a key where the key's rank lies between those of its boundaries
  pub holds_rank : (it : ItemWords) → held it ≡ inside (S it) X (E it)
  unfolding rk
  holds_rank it =
      holds_between pool (query_item it) k
      ∙ between_rank N (boundary_of pool (range_of it).start) (boundary_of pool (range_of it).end) k
      (omega (arith, boundary_fits pool (range_of it).start))
      (omega (arith, boundary_fits pool (range_of it).end))
      (omega arith)

  -- what merges holds what either held
  held_merged : (new cur it : ItemWords) → S cur ≤ S new → E new ≤ E cur → Meets pool new it → held (merged pool cur it) ≡ held cur || held it
  held_merged new cur it p q m =
      let s = merged_spans N pool fits cur it in
      let r = meets_ranks N pool fits new it m in
      rw (holds_rank (merged pool cur it), holds_rank cur, holds_rank it, s.0, s.1)
      (inside_hull (S cur) (E cur) (S it) (E it) X (omega (arith, r.0)) (omega (arith, r.1)))

  -- an equal item holds nothing that the new one does not
  held_same : (new cur it : ItemWords) → S cur ≤ S new → E new ≤ E cur → same_item pool new it ≡ true → held cur ≡ held cur || held it
  held_same new cur it p q e =
      let r = same_rank N pool new it e in
      rw (holds_rank cur, holds_rank it) (inside_wider (S cur) (E cur) (S it) (E it) X (omega (arith, r.0)) (omega (arith, r.1)))

  or_assoc : (a b c : Bool) → a || b || c ≡ a || (b || c)
  or_assoc true b c = refl
  or_assoc false b c = refl

  or_swap : (a b c d e : Bool) → a || c ≡ d || e → a || (b || c) ≡ d || (b || e)
  or_swap a true c d e h = or_right a ∙ sym (or_right d)
  or_swap a false c d e h = h

  holds_fold : (new cur : ItemWords) (its : List ItemWords) → S cur ≤ S new → E new ≤ E cur
      → held (merged_with pool new cur its) || holds_any pool (staying pool new its) k ≡ held cur || holds_any pool its k
  unfolding merged_with staying holds_any
  holds_fold new cur [] p q = refl
  holds_fold new cur (it ∷ its) p q = go (fate_of pool new it) refl (λ x h l. holds_fold new x its h l)
    where
      rest : Bool
      rest = holds_any pool its k

      go : (f : Fate) → fate_of pool new it ≡ f
          → ((x : ItemWords) → S x ≤ S new → E new ≤ E x → held (merged_with pool new x its) || holds_any pool (staying pool new its) k ≡ held x || rest)
          → held (merged_with pool new (merge_by pool f cur it) its) || holds_any pool (keep_by f it (staying pool new its)) k ≡ held cur || (held it || rest)
      go Replaced e r =
          r cur p q ∙ ap (λ (t : Bool). t || rest) (held_same new cur it p q (fate_is pool new it e)) ∙ or_assoc (held cur) (held it) rest
      go Stays e r =
          or_swap (held (merged_with pool new cur its)) (held it) (holds_any pool (staying pool new its) k) (held cur) rest (r cur p q)
      go Merges e r =
          let s = merged_spans N pool fits cur it in
          r (merged pool cur it) (omega (arith, s.0)) (omega (arith, s.1))
          ∙ ap (λ (t : Bool). t || rest) (held_merged new cur it p q (fate_is pool new it e))
          ∙ or_assoc (held cur) (held it) rest

  holds_placed : (result : ItemWords) (its : List ItemWords) → holds_any pool (placed pool result its) k ≡ held result || holds_any pool its k
  unfolding placed holds_any
  holds_placed result [] = refl
  holds_placed result (it ∷ its) = go (is_lt (compare_items pool it result)) (holds_placed result its)
    where
      go : (t : Bool) → holds_any pool (placed pool result its) k ≡ held result || holds_any pool its k
          → holds_any pool (cond t (it ∷ placed pool result its) (result ∷ it ∷ its)) k ≡ held result || (held it || holds_any pool its k)
      go true e = rw e (swap (held it) (held result) (holds_any pool its k))
        where
          swap : (a b c : Bool) → a || (b || c) ≡ b || (a || c)
          swap true true c = refl
          swap true false c = refl
          swap false b c = refl
      go false e = refl

  pub holds_inserted : (new : ItemWords) (its : List ItemWords) → holds_any pool (inserted pool new its) k ≡ held new || holds_any pool its k
  unfolding inserted
  holds_inserted new its =
      holds_placed (merged_with pool new new its) (staying pool new its) ∙ holds_fold new new its (omega arith) (omega arith)
