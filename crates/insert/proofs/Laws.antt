-- The laws of insertion, each stated once. Assumes nothing.
use Rattle.std.specs.declared.cmp.Ordering.TheVariants.{Equal}
use Rattle.std.specs.Ordering.{is_lt}
use Prim.Native.Nat.{ℕ, suc, ◌-◌, ◌*◌, max}
use mathlib.Core.Path.{◌≡◌, refl, ap}
use mathlib.Core.Bool.{Bool, true, false, cond, ◌||◌, ◌&&◌}
use mathlib.Core.Logic.{inl, inr}
use mathlib.Core.List.{List, [], ◌∷◌, ◌++◌}
use lib.ListN.{length, take, drop, replicate}
use Rattle.query_item.specs.declared.ItemWords.{ItemWords}
use Rattle.query_item.specs.Items.{item_size, items_from, shown, SameShown, holds, query_item, holds_any}
use Rattle.item_check.specs.Checks.{accepted, upright_fault}
use Rattle.insert_order.specs.Order.{compare_items, plain, same_item}
use Rattle.insert_order.specs.Refusals.{order_verdict, ordered_verdict}
use Rattle.insert_order.proofs.Ordered.{Among}
use Rattle.insert_order.proofs.Accepted.{accepted_sorted, upright_ranks}
use Rattle.insert_merge.specs.declared.Fate.TheVariants.{Stays}
use Rattle.insert_merge.specs.Merge.{fate_of, staying, merged_with}
use Rattle.insert_merge.proofs.Merged.{merged_none}
use Rattle.insert_merge.proofs.Staying.{merges_gone, staying_keeps, staying_all, staying_sorted, staying_shown}
use Rattle.insert_merge.proofs.Converted.{result_shown}
use Rattle.insert.specs.Insertion.{placed, inserted}
use Rattle.insert.specs.Sequence.{StandsBefore}
use Rattle.insert.specs.Answers.{laid}
use Rattle.insert.specs.Passes.{first_changed}
use Rattle.item_lists.proofs.Read.{items_read_lem}
use Rattle.insert.proofs.Accepted.{list_inserted}
use Rattle.insert.proofs.Holding.{holds_inserted}
use Rattle.insert.proofs.Ordered.{order_inserted}
use Rattle.insert.proofs.Placed.{Divides, placed_between, divides_before, placed_before, staying_before, placed_shown}
use Rattle.insert.proofs.Either.{either_shown}

-- ---- the list

-- of an accepted list and item the result is in insertion order
pub insert_ordered : (pool : List ℕ) (new : ItemWords) (its : List ItemWords) → ordered_verdict pool its ≡ accepted → upright_fault pool new ≡ 0
    → order_verdict pool (inserted pool new its) ≡ accepted
insert_ordered pool new its e f = order_inserted pool new its e f

-- it passes every check of a list, so that another item may be inserted
pub insert_accepted : (pool : List ℕ) (new : ItemWords) (its : List ItemWords) → ordered_verdict pool its ≡ accepted → upright_fault pool new ≡ 0
    → ordered_verdict pool (inserted pool new its) ≡ accepted
insert_accepted pool new its e f = list_inserted pool new its e f

-- the words at exit, read again, are the list
pub laid_items : (ws : List ℕ) (count : ℕ) (its : List ItemWords) → items_from (laid ws count its) 0 (length its) ≡ its
unfolding laid
laid_items ws count its = items_read_lem its [] (replicate (item_size * (count - length its)) 0 ++ drop (item_size * max count (length its)) ws) 0 refl

-- the result holds exactly the keys that the list or the new item holds, whatever their length
pub holds_insert : (pool : List ℕ) (new : ItemWords) (its : List ItemWords) (k : List ℕ)
    → holds_any pool (inserted pool new its) k ≡ holds pool (query_item new) k || holds_any pool its k
holds_insert pool new its k = holds_inserted pool k new its

-- 01 m5.6, 02 §10.2: what stays that is below the result stands before it, in the list's order, and all else behind it
pub insert_between : (pool : List ℕ) (new : ItemWords) (its : List ItemWords) → ordered_verdict pool its ≡ accepted
    → Divides pool (merged_with pool new new its) (staying pool new its) (inserted pool new its)
unfolding inserted
insert_between pool new its e =
    placed_between pool (merged_with pool new new its) (staying pool new its) (staying_sorted pool new its (accepted_sorted pool its e))

-- 02 §10.2: items stand in order of arrival: what is inserted stands, as what it becomes, before an item of the list that covers the same range,
-- where the two are not equal and not both plain
pub insert_arrival : (pool : List ℕ) (new it : ItemWords) (its : List ItemWords) → ordered_verdict pool its ≡ accepted → Among it its
    → same_item pool new it ≡ false → plain new && plain it ≡ false → compare_items pool it (merged_with pool new new its) ≡ Equal
    → StandsBefore (merged_with pool new new its) it (inserted pool new its)
unfolding fate_of
insert_arrival pool new it its a m n w e =
    divides_before pool (merged_with pool new new its) (staying pool new its) (inserted pool new its) (insert_between pool new its a) it
    (staying_keeps pool new its it m (rw (n, w))) (ap is_lt e)

-- 02 §10.2: and an insertion after which both stay keeps the order of two items
pub insert_keeps : (pool : List ℕ) (new x y : ItemWords) (its : List ItemWords) → fate_of pool new x ≡ Stays → fate_of pool new y ≡ Stays
    → StandsBefore x y its → StandsBefore x y (inserted pool new its)
unfolding inserted
insert_keeps pool new x y its e f s =
    placed_before pool (merged_with pool new new its) x y (staying pool new its) (staying_before pool new x y its e f s)

-- 02 §10.1: two plain upright items may be inserted in either order: the lists are the same by bytes
pub insert_either : (pool : List ℕ) (its : List ItemWords) (x y : ItemWords) → ordered_verdict pool its ≡ accepted → upright_fault pool x ≡ 0
    → upright_fault pool y ≡ 0 → plain x ≡ true → plain y ≡ true
    → SameShown pool pool (inserted pool y (inserted pool x its)) (inserted pool x (inserted pool y its))
insert_either pool its x y e f g p q =
    either_shown pool its (accepted_sorted pool its e) x y
    (record { bare = p; stands = upright_ranks pool x f }) (record { bare = q; stands = upright_ranks pool y g })

-- an insertion goes by what items show, whatever pool they stand in: offsets do not tell
pub insert_shown : (P Q : List ℕ) (x y : ItemWords) (A B : List ItemWords) → shown P x ≡ shown Q y → SameShown P Q A B
    → SameShown P Q (inserted P x A) (inserted Q y B)
unfolding inserted
insert_shown P Q x y A B s e =
    placed_shown P Q (merged_with P x x A) (merged_with Q y y B) (staying P x A) (staying Q y B) (result_shown P Q x y x y A B s s e)
    (staying_shown P Q x y A B s e)

-- an item that meets nothing changes no other item: it goes between some and the others
module _ (pool : List ℕ) (new : ItemWords) where
  apart_between : (its : List ItemWords) → ((x : ItemWords) → Among x its → fate_of pool new x ≡ Stays)
      → placed pool new its ≡ take (first_changed pool new new its) its ++ (new ∷ drop (first_changed pool new new its) its)
  unfolding placed first_changed
  apart_between [] f = refl
  apart_between (x ∷ xs) f = rw (f x (inl refl)) (go (is_lt (compare_items pool x new)) (apart_between xs (λ y m. f y (inr m))))
    where
      a : ℕ
      a = first_changed pool new new xs

      go : (t : Bool) → placed pool new xs ≡ take a xs ++ (new ∷ drop a xs)
          → cond t (x ∷ placed pool new xs) (new ∷ x ∷ xs)
          ≡ take (cond (true && t) (suc a) 0) (x ∷ xs) ++ (new ∷ drop (cond (true && t) (suc a) 0) (x ∷ xs))
      go true r = ap (λ (l : List ItemWords). x ∷ l) r
      go false r = refl

  pub insert_apart : (its : List ItemWords) → ((x : ItemWords) → Among x its → fate_of pool new x ≡ Stays)
      → inserted pool new its ≡ take (first_changed pool new new its) its ++ (new ∷ drop (first_changed pool new new its) its)
  unfolding inserted
  insert_apart its f = rw (staying_all pool new its f, merged_none pool new new its (λ x m e. merges_gone pool new x e (f x m))) (apart_between its f)
