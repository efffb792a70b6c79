-- The list after insertion by its tail: what stands before the first change stays, and the tail that is lent on comes back rewritten. Assumes
-- nothing.
use Rattle.std.specs.Ordering.{is_lt}
use Prim.Native.Nat.{ℕ, zero, suc, ◌+◌, ◌-◌, ◌*◌, ◌/◌, ◌≤◌, max}
use mathlib.Core.Path.{◌≡◌, refl, sym, ap, ◌∙◌}
use mathlib.Core.Bool.{Bool, true, false, cond, ◌||◌, ◌&&◌}
use mathlib.Core.List.{List, [], ◌∷◌, ◌++◌, append_assoc, append-nil}
use native.Mathlib.Omega.{arith}
use native.Mathlib.Nat.{le_refl}
use lib.ListN.{length, take, drop, replicate, length-append, length-drop, drop_of_length-le}
use lib.Seq.{take_all, drop-drop}
use lib.Dec.{ltb}
use borrow.Author.Tests.{ltb-false}
use Rattle.key_order.proofs.Impossible.{impossible}
use Rattle.query_item.specs.declared.ItemWords.{ItemWords}
use Rattle.query_item.specs.Items.{item_size, item_at, items_from, flat_all}
use Rattle.insert_order.specs.Order.{compare_items}
use Rattle.insert_merge.specs.declared.Fate.{Fate}
use Rattle.insert_merge.specs.declared.Fate.TheVariants.{Replaced, Stays, Merges}
use Rattle.insert_merge.specs.Merge.{fate_of, keep_by, staying, merged_with, is_staying}
use Rattle.insert.specs.Insertion.{placed, inserted}
use Rattle.insert.specs.Answers.{laid}
use Rattle.insert.specs.Passes.{Stay, keeps_place, first_changed}
use Rattle.item_lists.proofs.Words.{item_drop, items_drop, flat_append, flat_front, length_items}

-- ---- how many items there are

pub length_placed : (pool : List ℕ) (result : ItemWords) (its : List ItemWords) → length (placed pool result its) ≡ length its + 1
unfolding placed
length_placed pool result [] = refl
length_placed pool result (it ∷ its) = go (is_lt (compare_items pool it result)) (length_placed pool result its)
  where
    go : (t : Bool) → length (placed pool result its) ≡ length its + 1
        → length (cond t (it ∷ placed pool result its) (result ∷ it ∷ its)) ≡ suc (length its) + 1
    go true e = omega arith
    go false e = omega arith

pub length_inserted : (pool : List ℕ) (new : ItemWords) (its : List ItemWords) → length (inserted pool new its) ≡ length (staying pool new its) + 1
unfolding inserted
length_inserted pool new its = length_placed pool (merged_with pool new new its) (staying pool new its)

-- ---- the first change

module _ (pool : List ℕ) (new result : ItemWords) where
  abbrev first : List ItemWords → ℕ
  first its = first_changed pool new result its

  abbrev put : List ItemWords → List ItemWords
  put its = placed pool result (staying pool new its)

  pub first_bound : (its : List ItemWords) → first its ≤ length its
  unfolding first_changed
  first_bound [] = omega arith
  first_bound (it ∷ its) = go (keeps_place pool new result it) (first_bound its)
    where
      go : (t : Bool) → first its ≤ length its → cond t (suc (first its)) 0 ≤ suc (length its)
      go true h = omega arith
      go false h = omega arith

  -- the items before it stay, in their places
  pub put_front : (its : List ItemWords) → put its ≡ take (first its) its ++ put (drop (first its) its)
  unfolding first_changed staying placed
  put_front [] = refl
  put_front (it ∷ its) = go (fate_of pool new it) refl (is_lt (compare_items pool it result)) refl (put_front its)
    where
      go : (f : Fate) → fate_of pool new it ≡ f → (t : Bool) → is_lt (compare_items pool it result) ≡ t → put its ≡ take (first its) its ++ put (drop (first its) its)
          → placed pool result (keep_by f it (staying pool new its))
          ≡ take (cond (is_staying f && t) (suc (first its)) 0) (it ∷ its) ++ put (drop (cond (is_staying f && t) (suc (first its)) 0) (it ∷ its))
      go Stays e true h r = rw h (ap (λ (l : List ItemWords). it ∷ l) r)
      go Stays e false h r = rw e
      go Replaced e t h r = rw e
      go Merges e t h r = rw e

-- ---- a list of words and its tail

-- a list's tail that was lent and has come back: what the borrow checker says of the whole
pub tail_is : (xs : List ℕ) (a : ℕ) → take (length xs - a) (drop a xs) ≡ drop a xs
tail_is xs a = take_all (length xs - a) (drop a xs) (rw (length-drop a xs) (le_refl (length xs - a)))

pub tail_back : (xs : List ℕ) (a : ℕ) (ys : List ℕ) → take a xs ++ (ys ++ drop (length xs - a) (drop a xs)) ≡ take a xs ++ ys
tail_back xs a ys =
    ap (λ (r : List ℕ). take a xs ++ (ys ++ r)) (drop_of_length-le (drop a xs) {i = length xs - a} (rw (length-drop a xs) (le_refl (length xs - a))))
    ∙ ap (λ (r : List ℕ). take a xs ++ r) (append-nil ys)

take_items : (ws : List ℕ) (i a k : ℕ) → a ≤ k → take a (items_from ws i k) ≡ items_from ws i a
unfolding items_from
take_items ws i zero k h = refl
take_items ws i (suc a) zero h = absurd (omega arith)
take_items ws i (suc a) (suc k) h = ap (λ (l : List ItemWords). item_at ws i ∷ l) (take_items ws (suc i) a k (omega arith))

drop_items : (ws : List ℕ) (i a k : ℕ) → a ≤ k → drop a (items_from ws i k) ≡ items_from ws (i + a) (k - a)
unfolding items_from
drop_items ws i zero k h = let e : i + 0 ≡ i = omega arith in let f : k - 0 ≡ k = omega arith in rw (e, f)
drop_items ws i (suc a) zero h = absurd (omega arith)
drop_items ws i (suc a) (suc k) h =
    let e : i + suc a ≡ suc i + a = omega arith in
    let f : suc k - suc a ≡ k - a = omega arith in
    rw (e, f) (drop_items ws (suc i) a k (omega arith))

module _ (pool ws : List ℕ) (count : ℕ) (new result : ItemWords) {a : ℕ} (e : a ≡ first_changed pool new result (items_from ws 0 count)) where
  pub first_in : a ≤ count
  first_in = omega (arith, first_bound pool new result (items_from ws 0 count), length_items ws 0 count)

  abbrev tail_items : List ItemWords
  tail_items = placed pool result (staying pool new (items_from (drop (item_size * a) ws) 0 (count - a)))

  pub whole_items : placed pool result (staying pool new (items_from ws 0 count)) ≡ items_from ws 0 a ++ tail_items
  whole_items =
      let z : 0 + a ≡ a = omega arith in
      let z' : a + 0 ≡ a = omega arith in
      put_front pool new result (items_from ws 0 count)
      ∙ rw (← e, take_items ws 0 a count first_in, drop_items ws 0 a count first_in, z, items_drop ws a 0 (count - a), z')

  pub whole_long : length (placed pool result (staying pool new (items_from ws 0 count))) ≡ a + length tail_items
  whole_long = ap length whole_items ∙ rw (length-append, length_items ws 0 a)

  -- the words before the tail stay, and the tail comes to the words of the whole
  pub laid_tail : count ≤ length ws / item_size
      → take (item_size * a) ws ++ laid (drop (item_size * a) ws) (count - a) tail_items ≡ laid ws count (placed pool result (staying pool new (items_from ws 0 count)))
  unfolding laid
  laid_tail h =
      let l = first_in in
      let n : count - (a + length tail_items) ≡ count - a - length tail_items = omega arith in
      let m : item_size * a + item_size * max (count - a) (length tail_items) ≡ item_size * max count (a + length tail_items) = omega arith in
      sym
      (rw (whole_long, whole_items, flat_append, flat_front ws a (omega arith), n, ← m, append_assoc)
      (ap (λ (r : List ℕ). take (item_size * a) ws ++ (flat_all tail_items ++ (replicate (item_size * (count - a - length tail_items)) 0 ++ r)))
      (sym (drop-drop (item_size * max (count - a) (length tail_items)) (item_size * a) ws))))

  -- what the lent tail has to have room for
  pub tail_room : count ≤ length ws / item_size → length (placed pool result (staying pool new (items_from ws 0 count))) ≤ length ws / item_size
      → (count - a ≤ length (take (length ws - item_size * a) (drop (item_size * a) ws)) / item_size)
      × (length (placed pool result (staying pool new (items_from (take (length ws - item_size * a) (drop (item_size * a) ws)) 0 (count - a))))
      ≤ length (take (length ws - item_size * a) (drop (item_size * a) ws)) / item_size)
  tail_room h k =
      let l = first_in in
      rw (tail_is ws (item_size * a), length-drop (item_size * a) ws) (omega arith, omega (arith, whole_long))

  -- what stays in the list stays in its tail
  pub tail_stay : {asked : ℕ} (to : ℕ) → asked ≡ to - a → Stay pool ws new to count
      → Stay pool (take (length ws - item_size * a) (drop (item_size * a) ws)) new asked (count - a)
  tail_stay to d s j h l = rw (tail_is ws (item_size * a), item_drop ws a j) (s (a + j) (omega arith) (omega (arith, first_in)))

  pub tail_laid : {ys : List ℕ} → count ≤ length ws / item_size → result ≡ merged_with pool new new (items_from ws 0 count)
      → ys ≡ laid (take (length ws - item_size * a) (drop (item_size * a) ws)) (count - a)
      (placed pool result (staying pool new (items_from (take (length ws - item_size * a) (drop (item_size * a) ws)) 0 (count - a))))
      → take (item_size * a) ws ++ (ys ++ drop (length ws - item_size * a) (drop (item_size * a) ws)) ≡ laid ws count (inserted pool new (items_from ws 0 count))
  unfolding inserted
  tail_laid {ys} h r p =
      tail_back ws (item_size * a) ys
      ∙ ap (λ (l : List ℕ). take (item_size * a) ws ++ l) (rw (tail_is ws (item_size * a)) at p)
      ∙ laid_tail h
      ∙ ap (λ (it : ItemWords). laid ws count (placed pool it (staying pool new (items_from ws 0 count)))) r

-- ---- the room

pub after_is : (pool : List ℕ) (new : ItemWords) (its : List ItemWords) {stay : ℕ} → stay ≡ length (staying pool new its) → stay + 1 ≡ length (inserted pool new its)
after_is pool new its e = rw e (sym (length_inserted pool new its))

pub after_placed : (pool : List ℕ) (new result : ItemWords) (its : List ItemWords) {stay : ℕ} → stay ≡ length (staying pool new its)
    → stay + 1 ≡ length (placed pool result (staying pool new its))
after_placed pool new result its e = rw e (sym (length_placed pool result (staying pool new its)))

pub room_is : (m k n : ℕ) → ltb m n || ltb k n ≡ false → n ≤ m
room_is m k n e = go (ltb m n) (ltb k n) refl e
  where
    go : (t u : Bool) → ltb m n ≡ t → t || u ≡ false → n ≤ m
    go true u p q = impossible cc
    go false u p q = ltb-false m n p
