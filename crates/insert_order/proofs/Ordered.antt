-- A list in order, by its pairs: no item clashes with a later one. An accepted list is one, and in ranks its items are sorted and its plain
-- items lie apart. Assumes nothing.
use Rattle.std.specs.Ordering.{is_lt}
use Prim.Native.Nat.{ℕ, zero, suc, ◌+◌, ◌≤◌, ◌<◌}
use mathlib.Core.Path.{◌≡◌, refl, sym, ap, ◌∙◌}
use mathlib.Core.Bool.{Bool, true, false, cond, not, ◌&&◌}
use mathlib.Core.Logic.{◌⊎◌, inl, inr}
use mathlib.Core.List.{List, [], ◌∷◌, ◌++◌}
use native.Mathlib.Omega.{arith}
use native.Mathlib.Nat.{le_refl}
use native.Mathlib.Decide.{dec_lt}
use borrow.Author.Tests.{ltb-true, ltb-false}
use Rattle.key_order.proofs.Impossible.{impossible}
use Rattle.key_order.proofs.Bools.{both_false}
use Rattle.key_order.proofs.Line.{size}
use Rattle.query_item.specs.declared.ItemWords.{ItemWords}
use Rattle.query_item.specs.Items.{item_at, items_from}
use Rattle.intervals.proofs.Laws.{All}
use Rattle.item_check.specs.Checks.{refused, accepted}
use Rattle.insert_order.specs.Order.{compare_items, plain, same_item, ends_below, clash, clashes}
use Rattle.insert_order.specs.Refusals.{first_clash}
use Rattle.insert_order.proofs.Ranked.{lo, hi, item_rank, order_less, ends_less}
use Rattle.insert_order.proofs.Seen.{none_of_three}

-- one of a list
abbrev pub Among : ItemWords → List ItemWords → Type 0
Among x [] = ⊥
Among x (y ∷ ys) = (x ≡ y) ⊎ Among x ys

-- the list is then what stands before it, the item, and what stands behind

pub among_parts : (x : ItemWords) (its : List ItemWords) → Among x its → (before : List ItemWords) × (after : List ItemWords) × (its ≡ before ++ (x ∷ after))
among_parts x [] m = absurd m
among_parts x (y ∷ ys) (inl e) = ([], ys, ap (λ (z : ItemWords). z ∷ ys) (sym e))
among_parts x (y ∷ ys) (inr m) = let s = among_parts x ys m in (y ∷ s.0, s.1, ap (λ (l : List ItemWords). y ∷ l) s.2)

pub parts_among : (before : List ItemWords) (x : ItemWords) (after : List ItemWords) → Among x (before ++ (x ∷ after))
parts_among [] x after = inl refl
parts_among (y ∷ before) x after = inr (parts_among before x after)

-- what holds of all of a list holds of each of them, and the other way round

pub all_among : (P : ItemWords → Type 0) (its : List ItemWords) → All P its → (x : ItemWords) → Among x its → P x
all_among P [] a x m = absurd m
all_among P (y ∷ ys) a x (inl e) = rw e a.0
all_among P (y ∷ ys) a x (inr m) = all_among P ys a.1 x m

pub among_all : (P : ItemWords → Type 0) (its : List ItemWords) → ((x : ItemWords) → Among x its → P x) → All P its
among_all P [] f = tt
among_all P (y ∷ ys) f = (f y (inl refl), among_all P ys (λ x m. f x (inr m)))

-- each item of a list stands so to every later one
abbrev pub Pairwise : (ItemWords → ItemWords → Type 0) → List ItemWords → Type 0
Pairwise R [] = Unit {0}
Pairwise R (x ∷ xs) = ((y : ItemWords) → Among y xs → R x y) × Pairwise R xs

module _ (pool : List ℕ) where
  -- no item clashes with a later one
  abbrev pub Ordered : List ItemWords → Type 0
  Ordered its = Pairwise (λ x y. clash pool x y ≡ false) its

  clashes_none : (es : List ItemWords) (it : ItemWords) → clashes pool es it ≡ false → (e : ItemWords) → Among e es → clash pool e it ≡ false
  unfolding clashes
  clashes_none [] it h e m = absurd m
  clashes_none (d ∷ ds) it h e (inl s) = rw s ((both_false (clash pool d it) (clashes pool ds it)).0 h).0
  clashes_none (d ∷ ds) it h e (inr n) = clashes_none ds it ((both_false (clash pool d it) (clashes pool ds it)).0 h).1 e n

  clashes_no : (es : List ItemWords) (it : ItemWords) → ((e : ItemWords) → Among e es → clash pool e it ≡ false) → clashes pool es it ≡ false
  unfolding clashes
  clashes_no [] it h = refl
  clashes_no (d ∷ ds) it h = rw (h d (inl refl), clashes_no ds it (λ e m. h e (inr m)))

  -- what the verdict says of some earlier items and a list
  abbrev pub Follows : List ItemWords → List ItemWords → Type 0
  Follows es its = ((e it : ItemWords) → Among e es → Among it its → clash pool e it ≡ false) × Ordered its

  pub accepted_ordered : (i : ℕ) (es its : List ItemWords) → first_clash pool i es its ≡ accepted → Follows es its
  unfolding first_clash
  accepted_ordered i es [] h = (λ e it m n. absurd n, tt)
  accepted_ordered i es (x ∷ xs) h = go (clashes pool es x) refl h (accepted_ordered (suc i) (x ∷ es) xs)
    where
      go : (t : Bool) → clashes pool es x ≡ t → cond t (refused 4 0 i) (first_clash pool (suc i) (x ∷ es) xs) ≡ accepted
          → (first_clash pool (suc i) (x ∷ es) xs ≡ accepted → Follows (x ∷ es) xs) → Follows es (x ∷ xs)
      go true p q r = impossible cc
      go false p q r =
          let f = r q in (
            λ e it m n. later e it m n f,
            (λ y n. f.0 x y (inl refl) n, f.1),
          )
        where
          later : (e it : ItemWords) → Among e es → (it ≡ x) ⊎ Among it xs → Follows (x ∷ es) xs → clash pool e it ≡ false
          later e it m (inl s) f = rw s (clashes_none es x p e m)
          later e it m (inr n) f = f.0 e it (inr m) n

  pub ordered_accepted : (i : ℕ) (es its : List ItemWords) → Follows es its → first_clash pool i es its ≡ accepted
  unfolding first_clash
  ordered_accepted i es [] f = refl
  ordered_accepted i es (x ∷ xs) f =
      rw (clashes_no es x (λ e m. f.0 e x m (inl refl))) (ordered_accepted (suc i) (x ∷ es) xs (λ e it m n. go e it m n, f.1.1))
    where
      go : (e it : ItemWords) → (e ≡ x) ⊎ Among e es → Among it xs → clash pool e it ≡ false
      go e it (inl s) n = rw s (f.1.0 it n)
      go e it (inr m) n = f.0 e it m (inr n)

  -- ---- ranks of a list in order

  abbrev K : ItemWords → ℕ
  K it = item_rank (size pool) pool it

  abbrev S : ItemWords → ℕ
  S it = lo (size pool) pool it

  abbrev E : ItemWords → ℕ
  E it = hi (size pool) pool it

  fits : size pool ≤ size pool
  fits = le_refl (size pool)

  -- what an item and a later one that it does not clash with have
  pub clash_says : (x y : ItemWords) → clash pool x y ≡ false → (K x ≤ K y) × (plain x ≡ true → plain y ≡ true → E x < S y)
  clash_says x y e =
      let p = none_of_three (is_lt (compare_items pool y x)) (plain x && plain y && not (ends_below pool x y)) (same_item pool x y) e in (
        ltb-false (K y) (K x) (sym (order_less (size pool) pool fits y x) ∙ p.0),
        λ s t. ltb-true (E x) (S y) (sym (ends_less (size pool) pool fits x y) ∙ go (plain x) (plain y) (ends_below pool x y) s t p.1),
      )
    where
      go : (a b c : Bool) → a ≡ true → b ≡ true → a && b && not c ≡ false → c ≡ true
      go true true true p q r = refl
      go true true false p q r = impossible cc
      go true false c p q r = impossible cc
      go false b c p q r = impossible cc

  -- none ranks above a later one
  abbrev pub Sorted : List ItemWords → Type 0
  Sorted its = Pairwise (λ x y. K x ≤ K y) its

  pub ordered_sorted : (its : List ItemWords) → Ordered its → Sorted its
  ordered_sorted [] o = tt
  ordered_sorted (x ∷ xs) o = (λ y m. (clash_says x y (o.0 y m)).0, ordered_sorted xs o.1)

  -- two plain items of a list in order are one, or lie apart
  pub plain_apart : (its : List ItemWords) → Ordered its → (x p : ItemWords) → Among x its → Among p its → plain x ≡ true → plain p ≡ true
      → (x ≡ p) ⊎ ((E x < S p) ⊎ (E p < S x))
  plain_apart [] o x p m n s t = absurd m
  plain_apart (y ∷ ys) o x p m n s t = go m n (λ m' n'. plain_apart ys o.1 x p m' n' s t)
    where
      go : (x ≡ y) ⊎ Among x ys → (p ≡ y) ⊎ Among p ys → (Among x ys → Among p ys → (x ≡ p) ⊎ ((E x < S p) ⊎ (E p < S x)))
          → (x ≡ p) ⊎ ((E x < S p) ⊎ (E p < S x))
      go (inl a) (inl b) r = inl (a ∙ sym b)
      go (inl a) (inr b) r = inr (inl ((clash_says x p (rw a (o.0 p b))).1 s t))
      go (inr a) (inl b) r = inr (inr ((clash_says p x (rw b (o.0 x a))).1 t s))
      go (inr a) (inr b) r = r a b

  -- ---- by index

  module _ (ws : List ℕ) where
    pub among_at : (i n j : ℕ) → i ≤ j → j < i + n → Among (item_at ws j) (items_from ws i n)
    unfolding items_from
    among_at i zero j h l = absurd (omega arith)
    among_at i (suc n) j h l = elim (dec_lt i j) [
      | yes m ↦ inr (among_at (suc i) n j (omega arith) (omega arith))
      | no m ↦ let e : j ≡ i = omega arith in inl (ap (item_at ws) e)
    ]

    pub ordered_at : (i n : ℕ) → Ordered (items_from ws i n) → (j k : ℕ) → i ≤ j → j < k → k < i + n → clash pool (item_at ws j) (item_at ws k) ≡ false
    unfolding items_from
    ordered_at i zero o j k h l m = absurd (omega arith)
    ordered_at i (suc n) o j k h l m = elim (dec_lt i j) [
      | yes q ↦ ordered_at (suc i) n o.1 j k (omega arith) l (omega arith)
      | no q ↦ let e : j ≡ i = omega arith in rw e (o.0 (item_at ws k) (among_at (suc i) n k (omega arith) (omega arith)))
    ]
