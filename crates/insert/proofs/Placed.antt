-- Where a result is put: one more in the list, before the first item not below it. The others keep their order. Two of different ranks may be
-- put in either order, and what stays beside another item may be looked for before or after. Assumes nothing.
use Rattle.std.specs.Ordering.{is_lt}
use Prim.Native.Nat.{ℕ, ◌≤◌, ◌<◌}
use mathlib.Core.Path.{◌≡◌, refl, sym, ap, ap₂, ◌∙◌}
use mathlib.Core.Bool.{Bool, true, false, cond, true≢false}
use mathlib.Core.Logic.{◌⊎◌, inl, inr, ⊎_elim}
use mathlib.Core.List.{List, [], ◌∷◌, ◌++◌}
use native.Mathlib.Omega.{arith}
use native.Mathlib.Nat.{le_refl}
use lib.ListN.{length}
use lib.Dec.{ltb}
use borrow.Author.Tests.{ltb-true, ltb-false, lt-ltb, le-ltb}
use Rattle.key_order.proofs.Line.{size}
use Rattle.query_item.specs.declared.ItemWords.{ItemWords}
use Rattle.query_item.specs.Items.{shown, SameShown}
use Rattle.insert_order.specs.Order.{compare_items}
use Rattle.insert_order.proofs.Ranked.{item_rank, order_less, order_shown}
use Rattle.insert_order.proofs.Ordered.{Among, among_parts, parts_among, Sorted}
use Rattle.insert_merge.specs.declared.Fate.{Fate}
use Rattle.insert_merge.specs.declared.Fate.TheVariants.{Replaced, Stays, Merges}
use Rattle.insert_merge.specs.Merge.{fate_of, keep_by, staying, merge_by, merged_with}
use Rattle.insert_merge.proofs.Staying.{Gone, among_staying, staying_keeps}
use Rattle.insert.specs.Insertion.{placed}
use Rattle.insert.specs.Sequence.{StandsBefore}

module _ (pool : List ℕ) where
  abbrev K : ItemWords → ℕ
  K it = item_rank (size pool) pool it

  below : (x y : ItemWords) → is_lt (compare_items pool x y) ≡ ltb (K x) (K y)
  below x y = order_less (size pool) pool (le_refl (size pool)) x y

  -- ---- the place

  -- a list with one more in it: those below it stand before it, and all others behind
  pub record Divides (result : ItemWords) (others whole : List ItemWords) : Type 0 where
    pub front : List ItemWords
    pub back : List ItemWords
    pub parts : others ≡ front ++ back
    pub together : whole ≡ front ++ (result ∷ back)
    pub before : (y : ItemWords) → Among y front → is_lt (compare_items pool y result) ≡ true
    pub behind : (y : ItemWords) → Among y back → is_lt (compare_items pool y result) ≡ false

  pub placed_between : (result : ItemWords) (its : List ItemWords) → Sorted pool its → Divides result its (placed pool result its)
  unfolding placed
  placed_between result [] o = record { front = []; back = []; parts = refl; together = refl; before = λ y m. absurd m; behind = λ y m. absurd m }
  placed_between result (x ∷ xs) o = go (is_lt (compare_items pool x result)) refl (placed_between result xs o.1)
    where
      go : (t : Bool) → is_lt (compare_items pool x result) ≡ t → Divides result xs (placed pool result xs)
          → Divides result (x ∷ xs) (cond t (x ∷ placed pool result xs) (result ∷ x ∷ xs))
      go true e b = record {
        front = x ∷ b.front;
        back = b.back;
        parts = ap (λ (l : List ItemWords). x ∷ l) b.parts;
        together = ap (λ (l : List ItemWords). x ∷ l) b.together;
        before = first;
        behind = b.behind;
      }
        where
          first : (y : ItemWords) → (y ≡ x) ⊎ Among y b.front → is_lt (compare_items pool y result) ≡ true
          first y (inl s) = rw s e
          first y (inr m) = b.before y m
      go false e b = record { front = []; back = x ∷ xs; parts = refl; together = refl; before = λ y m. absurd m; behind = later }
        where
          least : K result ≤ K x
          least = ltb-false (K x) (K result) (sym (below x result) ∙ e)

          later : (y : ItemWords) → (y ≡ x) ⊎ Among y xs → is_lt (compare_items pool y result) ≡ false
          later y (inl s) = rw s e
          later y (inr m) = below y result ∙ le-ltb (K y) (K result) (omega (arith, o.0 y m, least))

  -- before items that are not below it an item goes first
  placed_first : (result : ItemWords) (its : List ItemWords) → ((y : ItemWords) → Among y its → K result ≤ K y) → placed pool result its ≡ result ∷ its
  unfolding placed
  placed_first result [] h = refl
  placed_first result (x ∷ xs) h = rw (below x result, le-ltb (K x) (K result) (h x (inl refl)))

  -- ---- what is in the list then

  pub among_placed : (result : ItemWords) (xs : List ItemWords) (y : ItemWords) → Among y (placed pool result xs) → (y ≡ result) ⊎ Among y xs
  unfolding placed
  among_placed result [] y m = m
  among_placed result (x ∷ xs) y m = go (is_lt (compare_items pool x result)) m (among_placed result xs y)
    where
      go : (t : Bool) → Among y (cond t (x ∷ placed pool result xs) (result ∷ x ∷ xs)) → (Among y (placed pool result xs) → (y ≡ result) ⊎ Among y xs)
          → (y ≡ result) ⊎ ((y ≡ x) ⊎ Among y xs)
      go true (inl p) r = inr (inl p)
      go true (inr n) r = ⊎_elim (λ p. inl p) (λ p. inr (inr p)) (r n)
      go false n r = n

  pub placed_among : (result : ItemWords) (xs : List ItemWords) (y : ItemWords) → (y ≡ result) ⊎ Among y xs → Among y (placed pool result xs)
  unfolding placed
  placed_among result [] y m = m
  placed_among result (x ∷ xs) y m = go (is_lt (compare_items pool x result)) m (placed_among result xs y)
    where
      go : (t : Bool) → (y ≡ result) ⊎ ((y ≡ x) ⊎ Among y xs) → ((y ≡ result) ⊎ Among y xs → Among y (placed pool result xs))
          → Among y (cond t (x ∷ placed pool result xs) (result ∷ x ∷ xs))
      go true (inl p) r = inr (r (inl p))
      go true (inr (inl p)) r = inl p
      go true (inr (inr p)) r = inr (r (inr p))
      go false n r = n

  -- ---- which of two stands before the other

  -- an item, and one of those behind it
  behind_first : (x y : ItemWords) (front its : List ItemWords) → Among y its → StandsBefore x y (front ++ (x ∷ its))
  behind_first x y front its m = let s = among_parts y its m in (front, s.0, s.1, ap (λ (l : List ItemWords). front ++ (x ∷ l)) s.2)

  -- one item more at the front
  more_before : (z x y : ItemWords) (its : List ItemWords) → StandsBefore x y its → StandsBefore x y (z ∷ its)
  more_before z x y its s = (z ∷ s.0, s.1, s.2, ap (λ (l : List ItemWords). z ∷ l) s.3)

  -- what is not below a result stands behind it
  pub divides_before : (result : ItemWords) (others whole : List ItemWords) → Divides result others whole → (y : ItemWords) → Among y others
      → is_lt (compare_items pool y result) ≡ false → StandsBefore result y whole
  divides_before result others whole d y m e = rw d.together (behind_first result y d.front d.back (go d.front d.before (rw d.parts at m)))
    where
      go : (front : List ItemWords) → ((z : ItemWords) → Among z front → is_lt (compare_items pool z result) ≡ true) → Among y (front ++ d.back) → Among y d.back
      go [] f n = n
      go (z ∷ front) f (inl s) = absurd (true≢false (sym (f y (inl s)) ∙ e))
      go (z ∷ front) f (inr n) = go front (λ w k. f w (inr k)) n

  -- a result that is put keeps the order of the others
  pub placed_before : (result x y : ItemWords) (its : List ItemWords) → StandsBefore x y its → StandsBefore x y (placed pool result its)
  unfolding placed
  placed_before result x y its s = rw s.3 (go s.0)
    where
      rest : List ItemWords
      rest = s.1 ++ (y ∷ s.2)

      go : (front : List ItemWords) → StandsBefore x y (placed pool result (front ++ (x ∷ rest)))
      go [] = at (is_lt (compare_items pool x result))
        where
          at : (t : Bool) → StandsBefore x y (cond t (x ∷ placed pool result rest) (result ∷ x ∷ rest))
          at true = behind_first x y [] (placed pool result rest) (placed_among result rest y (inr (parts_among s.1 y s.2)))
          at false = behind_first x y (result ∷ []) rest (parts_among s.1 y s.2)
      go (z ∷ front) = at (is_lt (compare_items pool z result)) (go front)
        where
          at : (t : Bool) → StandsBefore x y (placed pool result (front ++ (x ∷ rest)))
              → StandsBefore x y (cond t (z ∷ placed pool result (front ++ (x ∷ rest))) (result ∷ z ∷ (front ++ (x ∷ rest))))
          at true r = more_before z x y (placed pool result (front ++ (x ∷ rest))) r
          at false r = behind_first x y (result ∷ z ∷ front) rest (parts_among s.1 y s.2)

  -- and so do those that are taken out
  pub staying_before : (new x y : ItemWords) (its : List ItemWords) → fate_of pool new x ≡ Stays → fate_of pool new y ≡ Stays → StandsBefore x y its
      → StandsBefore x y (staying pool new its)
  unfolding staying
  staying_before new x y its e f s = rw s.3 (go s.0)
    where
      rest : List ItemWords
      rest = s.1 ++ (y ∷ s.2)

      go : (front : List ItemWords) → StandsBefore x y (staying pool new (front ++ (x ∷ rest)))
      go [] = rw e (behind_first x y [] (staying pool new rest) (staying_keeps pool new rest y (parts_among s.1 y s.2) f))
      go (z ∷ front) = at (fate_of pool new z) (go front)
        where
          at : (g : Fate) → StandsBefore x y (staying pool new (front ++ (x ∷ rest))) → StandsBefore x y (keep_by g z (staying pool new (front ++ (x ∷ rest))))
          at Replaced r = r
          at Stays r = more_before z x y (staying pool new (front ++ (x ∷ rest))) r
          at Merges r = r

  -- ---- beside another new item

  -- a result that does not stay leaves no trace
  pub staying_gone : (new result : ItemWords) (its : List ItemWords) → Gone pool new result → staying pool new (placed pool result its) ≡ staying pool new its
  unfolding staying placed
  staying_gone new result its n = go its
    where
      gone : (f : Fate) → fate_of pool new result ≡ f → (l : List ItemWords) → keep_by f result l ≡ l
      gone Replaced e l = refl
      gone Stays e l = absurd (n e)
      gone Merges e l = refl

      go : (l : List ItemWords) → staying pool new (placed pool result l) ≡ staying pool new l
      go [] = gone (fate_of pool new result) refl []
      go (it ∷ l) = at (is_lt (compare_items pool it result)) (go l)
        where
          at : (t : Bool) → staying pool new (placed pool result l) ≡ staying pool new l
              → staying pool new (cond t (it ∷ placed pool result l) (result ∷ it ∷ l)) ≡ keep_by (fate_of pool new it) it (staying pool new l)
          at true r = ap (keep_by (fate_of pool new it) it) r
          at false r = gone (fate_of pool new result) refl (keep_by (fate_of pool new it) it (staying pool new l))

  -- in a sorted list one that stays may be put before or after the others are asked
  pub staying_placed : (new result : ItemWords) (its : List ItemWords) → Sorted pool its → fate_of pool new result ≡ Stays
      → staying pool new (placed pool result its) ≡ placed pool result (staying pool new its)
  unfolding staying placed
  staying_placed new result [] o e = rw e
  staying_placed new result (it ∷ its) o e = go (is_lt (compare_items pool it result)) refl (fate_of pool new it) refl (staying_placed new result its o.1 e)
    where
      rest : List ItemWords
      rest = staying pool new its

      go : (t : Bool) → is_lt (compare_items pool it result) ≡ t → (f : Fate) → fate_of pool new it ≡ f
          → staying pool new (placed pool result its) ≡ placed pool result rest
          → staying pool new (cond t (it ∷ placed pool result its) (result ∷ it ∷ its)) ≡ placed pool result (keep_by f it rest)
      go true p Replaced q r = rw q r
      go true p Stays q r = rw (q, p) (ap (λ (l : List ItemWords). it ∷ l) r)
      go true p Merges q r = rw q r
      go false p f q r = rw (e, q) (sym (placed_first result (keep_by f it rest) (first f)))
        where
          least : K result ≤ K it
          least = ltb-false (K it) (K result) (sym (below it result) ∙ p)

          after : (y : ItemWords) → Among y rest → K result ≤ K y
          after y n = omega (arith, o.0 y (among_staying pool new its y n).0, least)

          first : (g : Fate) → (y : ItemWords) → Among y (keep_by g it rest) → K result ≤ K y
          first Replaced y n = after y n
          first Stays y (inl s) = rw s least
          first Stays y (inr n) = after y n
          first Merges y n = after y n

  -- and is passed over by what merges
  pub merged_past : (new result cur : ItemWords) (its : List ItemWords) → fate_of pool new result ≡ Stays
      → merged_with pool new cur (placed pool result its) ≡ merged_with pool new cur its
  unfolding merged_with placed
  merged_past new result cur [] e = rw e
  merged_past new result cur (it ∷ its) e = go (is_lt (compare_items pool it result)) (λ c. merged_past new result c its e)
    where
      go : (t : Bool) → ((c : ItemWords) → merged_with pool new c (placed pool result its) ≡ merged_with pool new c its)
          → merged_with pool new cur (cond t (it ∷ placed pool result its) (result ∷ it ∷ its)) ≡ merged_with pool new (merge_by pool (fate_of pool new it) cur it) its
      go true r = r (merge_by pool (fate_of pool new it) cur it)
      go false r = ap (λ (f : Fate). merged_with pool new (merge_by pool (fate_of pool new it) (merge_by pool f cur result) it) its) e

  -- ---- two results

  -- of different ranks they may be put in either order
  pub placed_comm : (a b : ItemWords) (its : List ItemWords) → K a < K b → placed pool a (placed pool b its) ≡ placed pool b (placed pool a its)
  unfolding placed
  placed_comm a b [] h = rw (below b a, below a b, le-ltb (K b) (K a) (omega arith), lt-ltb (K a) (K b) h)
  placed_comm a b (it ∷ its) h = go (is_lt (compare_items pool it a)) refl (is_lt (compare_items pool it b)) refl (placed_comm a b its h)
    where
      go : (s : Bool) → is_lt (compare_items pool it a) ≡ s → (t : Bool) → is_lt (compare_items pool it b) ≡ t
          → placed pool a (placed pool b its) ≡ placed pool b (placed pool a its)
          → placed pool a (cond t (it ∷ placed pool b its) (b ∷ it ∷ its)) ≡ placed pool b (cond s (it ∷ placed pool a its) (a ∷ it ∷ its))
      go true p true q r = rw (p, q) (ap (λ (l : List ItemWords). it ∷ l) r)
      go true p false q r =
          let u = ltb-true (K it) (K a) (sym (below it a) ∙ p) in
          let v = ltb-false (K it) (K b) (sym (below it b) ∙ q) in
          absurd (omega arith)
      go false p true q r = rw (p, below a b, lt-ltb (K a) (K b) h, q)
      go false p false q r = rw (below b a, le-ltb (K b) (K a) (omega arith), below a b, lt-ltb (K a) (K b) h, q)

-- what shows the same, put into lists that do, makes lists that do, in one pool or in two
module _ (P Q : List ℕ) where
  pub placed_shown : (a b : ItemWords) (A B : List ItemWords) → shown P a ≡ shown Q b → SameShown P Q A B
      → SameShown P Q (placed P a A) (placed Q b B)
  unfolding placed
  placed_shown a b [] [] s e = ap₂ ◌∷◌ s e
  placed_shown a b [] (y ∷ B) s e = absurd (omega (arith, ap length e))
  placed_shown a b (x ∷ A) [] s e = absurd (omega (arith, ap length e))
  placed_shown a b (x ∷ A) (y ∷ B) s e =
      let h : shown P x ≡ shown Q y = cc in
      rw (order_shown P Q x y a b h s) (go (is_lt (compare_items Q y b)) (ap₂ ◌∷◌ h (placed_shown a b A B s cc)))
    where
      go : (t : Bool) → SameShown P Q (x ∷ placed P a A) (y ∷ placed Q b B)
          → SameShown P Q (cond t (x ∷ placed P a A) (a ∷ x ∷ A)) (cond t (y ∷ placed Q b B) (b ∷ y ∷ B))
      go true r = r
      go false r = ap₂ ◌∷◌ s e
