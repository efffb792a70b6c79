-- Items as words: an item that is written, the items of a tail, the words of a front, and the items of a front. Assumes nothing.
use Prim.Native.Nat.{ℕ, zero, suc, ◌+◌, ◌-◌, ◌*◌, ◌/◌, ◌%◌, ◌≤◌, ◌<◌}
use mathlib.Core.Path.{◌≡◌, refl, sym, ap, ◌∙◌}
use mathlib.Core.List.{List, [], ◌∷◌, ◌++◌}
use native.Mathlib.Omega.{arith}
use native.Mathlib.Numerals.{add-one}
use lib.ListN.{length, get_or, take, drop, length-append, take-append-drop}
use lib.Seq.{take_all, length-take-le, drop-cons, sets-eq, take_at, drop_at, get_or-drop, drop-drop}
use borrow.Author.Tests.{lt-ltb}
use Rattle.query_item.specs.declared.ItemWords.{ItemWords}
use Rattle.query_item.specs.Items.{item_size, item_at, items_from, flat, flat_all, with_item}
use Rattle.item_check.specs.Checks.{items_of}
use Rattle.item_lists.proofs.Read.{items_read_lem}
use Rattle.item_lists.proofs.Written.{length_flat}

-- ---- an item is written

module _ (ws : List ℕ) (i : ℕ) (it : ItemWords) (h : i < length ws / item_size) where
  with_is : with_item ws i it ≡ take (item_size * i) ws ++ flat it ++ drop (item_size * i + 6) ws
  unfolding with_item
  with_is = rw (lt-ltb i (length ws / item_size) h) (sets-eq (flat it) ws (item_size * i) (omega arith))

  front_long : length (take (item_size * i) ws ++ flat it) ≡ item_size * (i + 1)
  front_long = rw (length-append, length-take-le (item_size * i) ws (omega arith)) (omega arith)

  pub take_with : take (item_size * (i + 1)) (with_item ws i it) ≡ take (item_size * i) ws ++ flat it
  take_with = rw with_is (take_at (take (item_size * i) ws ++ flat it) (drop (item_size * i + 6) ws) (item_size * (i + 1)) front_long)

  -- what is past it stands as it was
  pub drop_with : (k : ℕ) → i < k → drop (item_size * k) (with_item ws i it) ≡ drop (item_size * k) ws
  drop_with k l =
      let e : item_size * k ≡ item_size * (i + 1) + (item_size * k - item_size * (i + 1)) = omega arith in
      let f : item_size * i + 6 + (item_size * k - item_size * (i + 1)) ≡ item_size * k = omega arith in
      let g : item_size * (i + 1) + (item_size * k - item_size * (i + 1)) ≡ item_size * k = omega arith in
      sym (drop-drop (item_size * k - item_size * (i + 1)) (item_size * (i + 1)) (with_item ws i it) ∙ ap (λ (n : ℕ). drop n (with_item ws i it)) g)
      ∙ ap (λ (l' : List ℕ). drop (item_size * k - item_size * (i + 1)) l')
      (ap (λ (l' : List ℕ). drop (item_size * (i + 1)) l') with_is
      ∙ drop_at (take (item_size * i) ws ++ flat it) (drop (item_size * i + 6) ws) (item_size * (i + 1)) front_long)
      ∙ drop-drop (item_size * k - item_size * (i + 1)) (item_size * i + 6) ws
      ∙ ap (λ (n : ℕ). drop n ws) f

-- ---- items of a tail

module _ (ws : List ℕ) (a : ℕ) where
  word_drop : (m n : ℕ) → n ≡ item_size * a + m → get_or (drop (item_size * a) ws) m 0 ≡ get_or ws n 0
  word_drop m n e = get_or-drop (item_size * a) ws m 0 ∙ ap (λ (k : ℕ). get_or ws k 0) (sym e)

  pub item_drop : (i : ℕ) → item_at (drop (item_size * a) ws) i ≡ item_at ws (a + i)
  unfolding item_at
  item_drop i = rw (
    word_drop (item_size * i) (item_size * (a + i)) (omega arith),
    word_drop (item_size * i + 1) (item_size * (a + i) + 1) (omega arith),
    word_drop (item_size * i + 2) (item_size * (a + i) + 2) (omega arith),
    word_drop (item_size * i + 3) (item_size * (a + i) + 3) (omega arith),
    word_drop (item_size * i + 4) (item_size * (a + i) + 4) (omega arith),
    word_drop (item_size * i + 5) (item_size * (a + i) + 5) (omega arith),
  )

  pub items_drop : (i k : ℕ) → items_from (drop (item_size * a) ws) i k ≡ items_from ws (a + i) k
  unfolding items_from
  items_drop i zero = refl
  items_drop i (suc k) = let e : a + suc i ≡ suc (a + i) = omega arith in rw (item_drop i, items_drop (suc i) k, e)

-- where two lists of words stand alike from an index on, the items there are the same
pub item_alike : (ws vs : List ℕ) (i : ℕ) → drop (item_size * i) ws ≡ drop (item_size * i) vs → item_at ws i ≡ item_at vs i
item_alike ws vs i e =
    let z : i + 0 ≡ i = omega arith in
    ap (item_at ws) (sym z) ∙ sym (item_drop ws i 0) ∙ ap (λ (l : List ℕ). item_at l 0) e ∙ item_drop vs i 0 ∙ ap (item_at vs) z

-- ---- words of items

pub flat_append : (xs ys : List ItemWords) → flat_all (xs ++ ys) ≡ flat_all xs ++ flat_all ys
unfolding flat_all
flat_append [] ys = refl
flat_append (x ∷ xs) ys = rw (flat_append xs ys)

-- the six words at an index are those of the item there
flat_item : (ws : List ℕ) (i : ℕ) → i < length ws / item_size → flat (item_at ws i) ++ drop (item_size * suc i) ws ≡ drop (item_size * i) ws
unfolding item_at
flat_item ws i h =
    let e : item_size * suc i ≡ suc (item_size * i + 5) = omega arith in
    sym
    (drop-cons ws (item_size * i) 0 (omega arith)
    ∙ ap (λ (l : List ℕ). get_or ws (item_size * i) 0 ∷ l) (ap (λ (n : ℕ). drop n ws) (sym (add-one (item_size * i))) ∙ rest))
  where
    step : (n m : ℕ) → suc n ≡ m → n < length ws → drop n ws ≡ get_or ws n 0 ∷ drop m ws
    step n m e l = drop-cons ws n 0 l ∙ ap (λ (k : ℕ). get_or ws n 0 ∷ drop k ws) e

    rest : drop (item_size * i + 1) ws
        ≡ get_or ws (item_size * i + 1) 0
        ∷ get_or ws (item_size * i + 2) 0
        ∷ get_or ws (item_size * i + 3) 0
        ∷ get_or ws (item_size * i + 4) 0
        ∷ get_or ws (item_size * i + 5) 0
        ∷ drop (item_size * suc i) ws
    rest = rw (
      step (item_size * i + 1) (item_size * i + 2) (omega arith) (omega arith),
      step (item_size * i + 2) (item_size * i + 3) (omega arith) (omega arith),
      step (item_size * i + 3) (item_size * i + 4) (omega arith) (omega arith),
      step (item_size * i + 4) (item_size * i + 5) (omega arith) (omega arith),
      step (item_size * i + 5) (item_size * suc i) (omega arith) (omega arith),
    )

-- the words of some items from an index on are those that stand there
pub flat_items : (ws : List ℕ) (i k : ℕ) → i + k ≤ length ws / item_size
    → flat_all (items_from ws i k) ++ drop (item_size * (i + k)) ws ≡ drop (item_size * i) ws
unfolding flat_all items_from
flat_items ws i zero h = let e : i + 0 ≡ i = omega arith in rw e
flat_items ws i (suc k) h =
    let e : i + suc k ≡ suc i + k = omega arith in
    rw (e, flat_items ws (suc i) k (omega arith)) (flat_item ws i (omega arith))

pub length_items : (ws : List ℕ) (i n : ℕ) → length (items_from ws i n) ≡ n
unfolding items_from
length_items ws i zero = refl
length_items ws i (suc n) = ap suc (length_items ws (suc i) n)

pub flat_front : (ws : List ℕ) (k : ℕ) → k ≤ length ws / item_size → flat_all (items_from ws 0 k) ≡ take (item_size * k) ws
flat_front ws k h =
    sym (take_at (flat_all (items_from ws 0 k)) (drop (item_size * k) ws) (item_size * k) (length_flat (items_from ws 0 k) ∙ ap (λ (n : ℕ). item_size * n) (length_items ws 0 k)))
    ∙ ap (λ (l : List ℕ). take (item_size * k) l) (whole ∙ refl)
  where
    whole : flat_all (items_from ws 0 k) ++ drop (item_size * k) ws ≡ ws
    whole = let e : 0 + k ≡ k = omega arith in rw e at (flat_items ws 0 k (omega arith))

-- a list of whole items at the front of a buffer: its items are the first ones there
pub front_items : (ws spare : List ℕ) → length ws % item_size ≡ 0 → items_from (ws ++ spare) 0 (length ws / item_size) ≡ items_from ws 0 (length ws / item_size)
front_items ws spare h =
    let n = length ws / item_size in
    let all : flat_all (items_from ws 0 n) ≡ ws = flat_front ws n (omega arith) ∙ take_all (item_size * n) ws (omega arith) in
    rw (length_items ws 0 n, all) at (items_read_lem (items_from ws 0 n) [] spare 0 refl)

-- the first k items of a list are those of its first words
pub items_taken : (ws : List ℕ) (k : ℕ) → item_size * k ≤ length ws → items_of (take (item_size * k) ws) ≡ items_from ws 0 k
items_taken ws k h =
    let front = take (item_size * k) ws in
    let long : length front ≡ item_size * k = length-take-le (item_size * k) ws h in
    let count : length front / item_size ≡ k = omega arith in
    rw count (sym (rw (take-append-drop (item_size * k) ws, count) at (front_items front (drop (item_size * k) ws) (omega arith))))
