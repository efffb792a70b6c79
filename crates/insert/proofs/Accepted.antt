-- The list after insertion passes every check of a list: the result is an item of a known code, its keys in the pool, and upright, as those
-- are that it comes of. Assumes nothing.
use Rattle.std.specs.declared.cmp.Ordering.{Ordering}
use Rattle.std.specs.declared.cmp.Ordering.TheVariants.{Less, Equal, Greater}
use Prim.Native.Nat.{ℕ, ◌≤◌}
use mathlib.Core.Path.{◌≡◌, refl, ◌∙◌}
use mathlib.Core.Bool.{true, false}
use mathlib.Core.Logic.{◌⊎◌, inl, inr}
use mathlib.Core.List.{List}
use native.Mathlib.Omega.{arith}
use native.Mathlib.Nat.{le_refl}
use borrow.Author.Tests.{le-leb}
use Rattle.key_order.specs.Order.{smaller}
use Rattle.key_order.proofs.Numbers.{says_at_most}
use Rattle.key_order.proofs.Line.{size}
use Rattle.query_item.specs.declared.ItemWords.{ItemWords}
use Rattle.query_item.specs.declared.RangeSetItem.{RangeSetItem}
use Rattle.query_item.specs.Boundaries.{compare_in, range_of, item_between, upright}
use Rattle.query_item.proofs.Laws.{query_words, Starts, Ends, each_between}
use Rattle.item_check.specs.Checks.{accepted, malformed, outside, upright_fault}
use Rattle.item_check.proofs.Laws.{words_formed, KeyIn, inside_keys}
use Rattle.insert_order.specs.Refusals.{ordered_verdict}
use Rattle.insert_order.proofs.Ranked.{lo, hi, rk_says}
use Rattle.insert_order.proofs.Ordered.{Among}
use Rattle.insert_order.proofs.Accepted.{Good, good, good_fault, upright_ranks, items_good, good_items, accepted_items}
use Rattle.insert_merge.specs.Merge.{staying, smaller_start, larger_end, plain_item, merged, merged_with}
use Rattle.insert.specs.Insertion.{inserted}
use Rattle.insert_merge.proofs.Merged.{merged_keeps, hull_says, merged_spans}
use Rattle.insert_merge.proofs.Staying.{among_staying}
use Rattle.insert.proofs.Placed.{among_placed}
use Rattle.insert.proofs.Ordered.{order_inserted}

module _ (pool : List ℕ) where
  -- ---- the item between two boundaries

  abbrev Sound : ItemWords → Type 0
  Sound it = (malformed it ≡ false) × (outside pool it ≡ false)

  item_sound : (cur : ItemWords) (s e : RangeSetItem) → Starts s → Ends e → KeyIn pool s → KeyIn pool e → Sound (plain_item cur (item_between pool s e))
  item_sound cur =
      each_between pool (λ s e m. Starts s → Ends e → KeyIn pool s → KeyIn pool e → Sound (plain_item cur m))
      (λ a b t h k p q. (refl, rw p))
      (λ x i h k p q. (words_formed x, rw (query_words 0 x, p, q)))
      (λ s e no h k p q. absurd (no h k))

  -- of two boundaries in the pool either is
  picked : (o : Ordering) (x y : RangeSetItem) → KeyIn pool x → KeyIn pool y → KeyIn pool (smaller o x y)
  picked Less x y p q = p
  picked Equal x y p q = q
  picked Greater x y p q = q

  fits : size pool ≤ size pool
  fits = le_refl (size pool)

  merged_stands : (cur it : ItemWords) → lo (size pool) pool cur ≤ hi (size pool) pool cur → upright pool (range_of (merged pool cur it)) ≡ true
  merged_stands cur it u =
      let m = merged pool cur it in
      let s = merged_spans (size pool) pool fits cur it in
      says_at_most (compare_in pool (range_of m).start (range_of m).end) (lo (size pool) pool m) (hi (size pool) pool m)
      (rk_says (size pool) pool fits (range_of m).start (range_of m).end)
      ∙ le-leb (lo (size pool) pool m) (hi (size pool) pool m) (omega (arith, s.0, s.1))

  merged_good : (cur it : ItemWords) → Good pool cur → Good pool it → Good pool (merged pool cur it)
  unfolding merged
  merged_good cur it g h =
      let u = hull_says (size pool) pool fits cur it in
      let v = inside_keys pool cur g.inside in
      let w = inside_keys pool it h.inside in
      let r =
      item_sound cur (smaller_start pool (range_of cur).start (range_of it).start) (larger_end pool (range_of cur).end (range_of it).end) u.starts u.ends
      (picked (compare_in pool (range_of it).start (range_of cur).start) (range_of it).start (range_of cur).start w.0 v.0)
      (picked (compare_in pool (range_of cur).end (range_of it).end) (range_of it).end (range_of cur).end w.1 v.1) in
      record { formed = r.0; inside = r.1; standing = merged_stands cur it (upright_ranks pool cur (good_fault pool cur g)) }

  merged_all : (new cur : ItemWords) (its : List ItemWords) → Good pool cur → ((x : ItemWords) → Among x its → Good pool x) → Good pool (merged_with pool new cur its)
  merged_all new cur its g f = merged_keeps pool (Good pool) new cur its g (λ c it m e p. merged_good c it p (f it m))

  pub list_inserted : (new : ItemWords) (its : List ItemWords) → ordered_verdict pool its ≡ accepted → upright_fault pool new ≡ 0
      → ordered_verdict pool (inserted pool new its) ≡ accepted
  unfolding inserted
  list_inserted new its e f = rw (good_items pool 0 (inserted pool new its) all) (order_inserted pool new its e f)
    where
      old : (x : ItemWords) → Among x its → Good pool x
      old = items_good pool 0 its (accepted_items pool its e)

      result : ItemWords
      result = merged_with pool new new its

      pick : (x : ItemWords) → (x ≡ result) ⊎ Among x (staying pool new its) → Good pool x
      pick x (inl p) = rw p (merged_all new new its (good pool new f) old)
      pick x (inr m) = old x (among_staying pool new its x m).0

      all : (x : ItemWords) → Among x (inserted pool new its) → Good pool x
      all x m = pick x (among_placed pool result (staying pool new its) x m)
