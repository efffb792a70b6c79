-- What stays of a list beside a new item, beside two of them, and what then merges. Assumes nothing.
use Prim.Native.Nat.{ℕ, ◌+◌, ◌≤◌}
use mathlib.Core.Path.{◌≡◌, refl, sym, ap, ap₂, ◌∙◌}
use mathlib.Core.Bool.{Bool, true, false}
use mathlib.Core.Logic.{◌⊎◌, inl, inr}
use mathlib.Core.List.{List, [], ◌∷◌}
use native.Mathlib.Omega.{arith}
use lib.ListN.{length}
use Rattle.key_order.proofs.Impossible.{impossible}
use Rattle.key_order.proofs.Line.{size}
use Rattle.query_item.specs.declared.ItemWords.{ItemWords}
use Rattle.query_item.specs.Items.{shown, SameShown}
use Rattle.insert_order.proofs.Ranked.{item_rank}
use Rattle.insert_order.proofs.Ordered.{Among, Pairwise, Sorted}
use Rattle.std.specs.Int.{from_bool}
use Rattle.insert_merge.specs.declared.Fate.{Fate}
use Rattle.insert_merge.specs.declared.Fate.TheVariants.{Replaced, Stays, Merges}
use Rattle.insert_merge.specs.Merge.{fate_of, keep_by, staying, merge_by, merged_with, is_staying}
use Rattle.insert_merge.proofs.Merged.{fate_shown}

-- an item that stays is one more
pub length_keep : (f : Fate) (it : ItemWords) (its : List ItemWords) → length (keep_by f it its) ≡ from_bool (is_staying f) + length its
length_keep Replaced it its = omega arith
length_keep Stays it its = omega arith
length_keep Merges it its = omega arith

pub one_at_most : (t : Bool) {n : ℕ} → n ≡ from_bool t → n ≤ 1
one_at_most true e = omega arith
one_at_most false e = omega arith

module _ (pool : List ℕ) where
  -- an item is taken out: replaced or merged
  abbrev pub Gone : ItemWords → ItemWords → Type 0
  Gone new it = fate_of pool new it ≡ Stays → ⊥

  pub replaced_gone : (new it : ItemWords) → fate_of pool new it ≡ Replaced → Gone new it
  replaced_gone new it e s = impossible cc

  pub merges_gone : (new it : ItemWords) → fate_of pool new it ≡ Merges → Gone new it
  merges_gone new it e s = impossible cc

  pub stays_or_gone : (new it : ItemWords) → (fate_of pool new it ≡ Stays) ⊎ Gone new it
  stays_or_gone new it = go (fate_of pool new it) refl
    where
      go : (f : Fate) → fate_of pool new it ≡ f → (fate_of pool new it ≡ Stays) ⊎ Gone new it
      go Replaced e = inr (replaced_gone new it e)
      go Stays e = inl e
      go Merges e = inr (merges_gone new it e)

  -- ---- what stays

  -- no more than there are
  pub length_staying : (new : ItemWords) (its : List ItemWords) → length (staying pool new its) ≤ length its
  unfolding staying
  length_staying new [] = omega arith
  length_staying new (it ∷ its) =
      let f = fate_of pool new it in
      omega (arith, length_keep f it (staying pool new its), one_at_most (is_staying f) refl, length_staying new its)

  -- it is of the list, and stays
  pub among_staying : (new : ItemWords) (its : List ItemWords) (x : ItemWords) → Among x (staying pool new its) → Among x its × (fate_of pool new x ≡ Stays)
  unfolding staying
  among_staying new [] x m = absurd m
  among_staying new (y ∷ ys) x m = go (fate_of pool new y) refl m (among_staying new ys x)
    where
      go : (f : Fate) → fate_of pool new y ≡ f → Among x (keep_by f y (staying pool new ys)) → (Among x (staying pool new ys) → Among x ys × (fate_of pool new x ≡ Stays))
          → ((x ≡ y) ⊎ Among x ys) × (fate_of pool new x ≡ Stays)
      go Replaced e n r = let s = r n in (inr s.0, s.1)
      go Stays e (inl p) r = (inl p, rw p e)
      go Stays e (inr n) r = let s = r n in (inr s.0, s.1)
      go Merges e n r = let s = r n in (inr s.0, s.1)

  -- and all of the list that does is there
  pub staying_keeps : (new : ItemWords) (its : List ItemWords) (x : ItemWords) → Among x its → fate_of pool new x ≡ Stays → Among x (staying pool new its)
  unfolding staying
  staying_keeps new [] x m e = absurd m
  staying_keeps new (y ∷ ys) x m e = go (fate_of pool new y) refl m (λ n. staying_keeps new ys x n e)
    where
      other : (f : Fate) → fate_of pool new y ≡ f → x ≡ y → Stays ≡ f
      other f g p = sym e ∙ ap (fate_of pool new) p ∙ g

      go : (f : Fate) → fate_of pool new y ≡ f → (x ≡ y) ⊎ Among x ys → (Among x ys → Among x (staying pool new ys)) → Among x (keep_by f y (staying pool new ys))
      go Replaced g (inl p) r = absurd (let s = other Replaced g p in impossible cc)
      go Replaced g (inr n) r = r n
      go Stays g (inl p) r = inl p
      go Stays g (inr n) r = inr (r n)
      go Merges g (inl p) r = absurd (let s = other Merges g p in impossible cc)
      go Merges g (inr n) r = r n

  pub staying_all : (new : ItemWords) (its : List ItemWords) → ((x : ItemWords) → Among x its → fate_of pool new x ≡ Stays) → staying pool new its ≡ its
  unfolding staying
  staying_all new [] f = refl
  staying_all new (x ∷ xs) f = rw (f x (inl refl), staying_all new xs (λ y m. f y (inr m)))

  -- what stays stands in the list's order
  pub staying_pairwise : (R : ItemWords → ItemWords → Type 0) (new : ItemWords) (its : List ItemWords) → Pairwise R its → Pairwise R (staying pool new its)
  unfolding staying
  staying_pairwise R new [] o = tt
  staying_pairwise R new (x ∷ xs) o = go (fate_of pool new x) (staying_pairwise R new xs o.1)
    where
      go : (f : Fate) → Pairwise R (staying pool new xs) → Pairwise R (keep_by f x (staying pool new xs))
      go Replaced r = r
      go Stays r = (λ y m. o.0 y (among_staying new xs y m).0, r)
      go Merges r = r

  pub staying_sorted : (new : ItemWords) (its : List ItemWords) → Sorted pool its → Sorted pool (staying pool new its)
  staying_sorted new its o = staying_pairwise (λ x y. item_rank (size pool) pool x ≤ item_rank (size pool) pool y) new its o

  -- what stays beside two items does not depend on which is asked first
  pub staying_comm : (x y : ItemWords) (its : List ItemWords) → staying pool y (staying pool x its) ≡ staying pool x (staying pool y its)
  unfolding staying
  staying_comm x y [] = refl
  staying_comm x y (it ∷ its) = go (fate_of pool x it) refl (fate_of pool y it) refl (staying_comm x y its)
    where
      A : List ItemWords
      A = staying pool x its

      B : List ItemWords
      B = staying pool y its

      go : (f : Fate) → fate_of pool x it ≡ f → (g : Fate) → fate_of pool y it ≡ g → staying pool y A ≡ staying pool x B
          → staying pool y (keep_by f it A) ≡ staying pool x (keep_by g it B)
      go Replaced p Replaced q r = r
      go Replaced p Stays q r = rw p r
      go Replaced p Merges q r = r
      go Stays p Replaced q r = rw q r
      go Stays p Stays q r = rw (p, q) (ap (λ (l : List ItemWords). it ∷ l) r)
      go Stays p Merges q r = rw q r
      go Merges p Replaced q r = r
      go Merges p Stays q r = rw p r
      go Merges p Merges q r = r

  -- ---- what merges with one item of what stays beside another: the same, where all that the other takes out stays beside it

  pub merged_staying : (x y cur : ItemWords) (its : List ItemWords) → ((p : ItemWords) → Among p its → Gone x p → fate_of pool y p ≡ Stays)
      → merged_with pool y cur (staying pool x its) ≡ merged_with pool y cur its
  unfolding merged_with staying
  merged_staying x y cur [] h = refl
  merged_staying x y cur (it ∷ its) h = go (fate_of pool x it) refl (λ c. merged_staying x y c its (λ p m. h p (inr m)))
    where
      go : (f : Fate) → fate_of pool x it ≡ f → ((c : ItemWords) → merged_with pool y c (staying pool x its) ≡ merged_with pool y c its)
          → merged_with pool y cur (keep_by f it (staying pool x its)) ≡ merged_with pool y (merge_by pool (fate_of pool y it) cur it) its
      go Replaced e r = rw (h it (inl refl) (replaced_gone x it e)) (r cur)
      go Stays e r = r (merge_by pool (fate_of pool y it) cur it)
      go Merges e r = rw (h it (inl refl) (merges_gone x it e)) (r cur)

-- ---- of lists that show the same, of one pool or of two

module _ (P Q : List ℕ) where
  keep_shown : (f : Fate) (a b : ItemWords) (A B : List ItemWords) → shown P a ≡ shown Q b → SameShown P Q A B
      → SameShown P Q (keep_by f a A) (keep_by f b B)
  keep_shown Replaced a b A B h r = r
  keep_shown Stays a b A B h r = ap₂ ◌∷◌ h r
  keep_shown Merges a b A B h r = r

  pub staying_shown : (x y : ItemWords) (A B : List ItemWords) → shown P x ≡ shown Q y → SameShown P Q A B
      → SameShown P Q (staying P x A) (staying Q y B)
  unfolding staying
  staying_shown x y [] [] s e = refl
  staying_shown x y [] (b ∷ B) s e = absurd (omega (arith, ap length e))
  staying_shown x y (a ∷ A) [] s e = absurd (omega (arith, ap length e))
  staying_shown x y (a ∷ A) (b ∷ B) s e =
      let h : shown P a ≡ shown Q b = cc in
      rw (fate_shown P Q x y a b s h) (keep_shown (fate_of Q y b) a b (staying P x A) (staying Q y B) h (staying_shown x y A B s cc))
