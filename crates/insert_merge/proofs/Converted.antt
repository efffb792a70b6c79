-- A result is converted where anything merged: it then shows what its boundaries tell. Where nothing merged the new item stays as it is, and
-- may be written otherwise, as [05,05] is for Key 05 (reading A8). Assumes nothing.
use Rattle.query_item.specs.declared.QueryItem.{QueryItem}
use Rattle.std.specs.Prelude.{Option, None, Some}
use Prim.Native.Nat.{ℕ}
use mathlib.Core.Path.{◌≡◌, refl, sym, ap, ◌∙◌}
use mathlib.Core.Bool.{true}
use mathlib.Core.Logic.{◌⊎◌, inl, inr}
use mathlib.Core.List.{List, [], ◌∷◌}
use native.Mathlib.Omega.{arith}
use native.Mathlib.Nat.{le_refl}
use lib.ListN.{length}
use Rattle.key_order.proofs.Impossible.{impossible}
use Rattle.key_order.proofs.Line.{size}
use Rattle.query_item.specs.declared.ItemWords.{ItemWords}
use Rattle.query_item.specs.declared.RangeSet.{RangeSet}
use Rattle.query_item.specs.Items.{shown, SameShown}
use Rattle.query_item.specs.Boundaries.{boundary_of, compare_in, range_of, to_query_item}
use Rattle.query_item.proofs.Laws.{query_words, Keeps, item_keeps, told, Tells, item_told, shown_range, told_same}
use Rattle.insert_order.specs.Order.{same_item}
use Rattle.insert_order.proofs.Ranked.{rk, lo, hi, same_shown, same_range}
use Rattle.insert_order.proofs.Ordered.{Among}
use Rattle.insert_merge.specs.declared.Fate.{Fate}
use Rattle.insert_merge.specs.declared.Fate.TheVariants.{Replaced, Stays, Merges}
use Rattle.insert_merge.specs.Merge.{fate_of, hull, plain_item, merged, merge_by, merged_with}
use Rattle.insert_merge.proofs.Merged.{fate_shown, chosen_shown, Alone, merged_keeps, hull_says}

module _ (pool : List ℕ) where
  -- an item shows what the boundaries of a range tell; a converted one, what its own do
  abbrev Shows : RangeSet → ItemWords → Type 0
  Shows r it = shown pool it ≡ told (boundary_of pool r.start) (boundary_of pool r.end)

  abbrev pub Converted : ItemWords → Type 0
  Converted it = Shows (range_of it) it

  merged_shows : (cur it : ItemWords) → Shows (hull pool (range_of cur) (range_of it)) (merged pool cur it) × Converted (merged pool cur it)
  unfolding merged
  merged_shows cur it =
      let u = hull_says (size pool) pool (le_refl (size pool)) cur it in
      let r = hull pool (range_of cur) (range_of it) in
      go r (to_query_item pool r) (item_told pool r.start r.end u.starts u.ends) (item_keeps pool r.start r.end)
    where
      go : (r : RangeSet) (m : Option QueryItem) → Tells pool r.start r.end m → Keeps pool r.start r.end m
          → Shows r (plain_item cur m) × Converted (plain_item cur m)
      go r None t v = absurd t
      go r (Some q) t v = (t, rw (query_words 0 q, v.0, v.1) t)

  -- the result is converted, or nothing merged
  pub converted_or_alone : (new cur : ItemWords) (its : List ItemWords) → Converted (merged_with pool new cur its) ⊎ Alone pool new its
  unfolding merged_with
  converted_or_alone new cur [] = inr (λ p m e. m)
  converted_or_alone new cur (it ∷ its) = go (fate_of pool new it) refl (converted_or_alone new cur its)
    where
      Whole : ItemWords → Type 0
      Whole c = Converted (merged_with pool new c its) ⊎ Alone pool new (it ∷ its)

      more : (fate_of pool new it ≡ Merges → ⊥) → Converted (merged_with pool new cur its) ⊎ Alone pool new its → Whole cur
      more f (inl c) = inl c
      more f (inr a) = inr later
        where
          later : (p : ItemWords) → (p ≡ it) ⊎ Among p its → fate_of pool new p ≡ Merges → ⊥
          later p (inl s) e = f (ap (fate_of pool new) (sym s) ∙ e)
          later p (inr n) e = a p n e

      go : (f : Fate) → fate_of pool new it ≡ f → Converted (merged_with pool new cur its) ⊎ Alone pool new its → Whole (merge_by pool f cur it)
      go Replaced e r = more (λ g. impossible cc) r
      go Stays e r = more (λ g. impossible cc) r
      go Merges e r = inl (merged_keeps pool Converted new (merged pool cur it) its (merged_shows cur it).1 (λ c x m g p. (merged_shows c x).1))

  -- an item equal to a converted one is converted
  pub same_converted : (x y : ItemWords) → same_item pool x y ≡ true → Converted x → Converted y
  same_converted x y e c = let r = same_range pool x y e in sym (same_shown pool x y e) ∙ c ∙ rw (r.0, r.1)

  -- converted items of equal ranks show the same
  pub ranks_shown : (x y : ItemWords) → Converted x → Converted y → lo (size pool) pool x ≡ lo (size pool) pool y → hi (size pool) pool x ≡ hi (size pool) pool y
      → shown pool x ≡ shown pool y
  unfolding rk
  ranks_shown x y c d s e =
      c ∙ told_same pool (size pool) (le_refl (size pool)) (range_of x).start (range_of y).start (range_of x).end (range_of y).end s e ∙ sym d

-- ---- of lists that show the same, of one pool or of two

module _ (P Q : List ℕ) where
  merge_shown : (f : Fate) (c d a b : ItemWords) → shown P c ≡ shown Q d → shown P a ≡ shown Q b
      → shown P (merge_by P f c a) ≡ shown Q (merge_by Q f d b)
  merge_shown Replaced c d a b s t = s
  merge_shown Stays c d a b s t = s
  merge_shown Merges c d a b s t =
      let p = shown_range P Q c d s in let q = shown_range P Q a b t in
      let A = range_of a in let B = range_of b in let C = range_of c in let D = range_of d in
      let low = chosen_shown P Q (compare_in Q B.start D.start) A.start B.start C.start D.start q.0 p.0 in
      let high = chosen_shown P Q (compare_in Q D.end B.end) A.end B.end C.end D.end q.1 p.1 in
      rw ((merged_shows P c a).0, (merged_shows Q d b).0, p.0, p.1, q.0, q.1, low, high)

  pub result_shown : (x y c d : ItemWords) (A B : List ItemWords) → shown P x ≡ shown Q y → shown P c ≡ shown Q d → SameShown P Q A B
      → shown P (merged_with P x c A) ≡ shown Q (merged_with Q y d B)
  unfolding merged_with
  result_shown x y c d [] [] s t e = t
  result_shown x y c d [] (b ∷ B) s t e = absurd (omega (arith, ap length e))
  result_shown x y c d (a ∷ A) [] s t e = absurd (omega (arith, ap length e))
  result_shown x y c d (a ∷ A) (b ∷ B) s t e =
      let h : shown P a ≡ shown Q b = cc in
      result_shown x y (merge_by P (fate_of P x a) c a) (merge_by Q (fate_of Q y b) d b) A B s
      (rw (fate_shown P Q x y a b s h) (merge_shown (fate_of Q y b) c d a b t h)) cc
