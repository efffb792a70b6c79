-- The list after insertion is in insertion order. Plain items that stay lie to one side of the new item and of all that merges with it, so
-- that they lie to that side of the result. Assumes nothing.
use Rattle.std.specs.Ordering.{is_lt}
use Prim.Native.Nat.{ℕ, ◌+◌, ◌-◌, ◌≤◌, ◌<◌}
use mathlib.Core.Path.{◌≡◌, refl, sym, ap, ◌∙◌}
use mathlib.Core.Bool.{Bool, true, false, cond}
use mathlib.Core.Logic.{◌⊎◌, inl, inr, ⊎_elim}
use mathlib.Core.List.{List, [], ◌∷◌}
use native.Mathlib.Omega.{arith}
use native.Mathlib.Nat.{le_refl}
use lib.Dec.{eqb}
use borrow.Author.Tests.{ltb-true, ltb-false, le-ltb}
use Rattle.key_order.proofs.Impossible.{impossible}
use Rattle.key_order.proofs.Line.{size}
use Rattle.query_item.specs.declared.ItemWords.{ItemWords}
use Rattle.item_check.specs.Checks.{accepted, upright_fault}
use Rattle.insert_order.specs.Order.{compare_items, plain, same_item, ends_below, clash}
use Rattle.insert_order.specs.Refusals.{order_verdict, ordered_verdict}
use Rattle.insert_order.proofs.Ranked.{lo, hi, item_rank, order_less, rank_above, same_rank, same_item_rank, same_wrapper}
use Rattle.insert_order.proofs.Seen.{clash_none}
use Rattle.insert_order.proofs.Ordered.{Among, Ordered, accepted_ordered, ordered_accepted, clash_says, plain_apart}
use Rattle.insert_order.proofs.Accepted.{accepted_items, accepted_order, items_upright, upright_ranks}
use Rattle.insert_merge.specs.declared.Fate.TheVariants.{Stays, Merges}
use Rattle.insert_merge.specs.Merge.{fate_of, staying, merged_with}
use Rattle.insert.specs.Insertion.{placed, inserted}
use Rattle.insert_merge.proofs.Merged.{fate_is, merged_none, meets_ranks, ends_ranks, merged_wider, merged_low, merged_high, merged_plain}
use Rattle.insert_merge.proofs.Staying.{among_staying, staying_pairwise}
use Rattle.insert.proofs.Placed.{among_placed}

module _ (pool : List ℕ) where
  abbrev K : ItemWords → ℕ
  K it = item_rank (size pool) pool it

  abbrev S : ItemWords → ℕ
  S it = lo (size pool) pool it

  abbrev E : ItemWords → ℕ
  E it = hi (size pool) pool it

  fits : size pool ≤ size pool
  fits = le_refl (size pool)

  module _ (new : ItemWords) where
    -- nothing merges with a wrapped item
    merged_wrapped : (its : List ItemWords) (cur : ItemWords) → plain new ≡ false → merged_with pool new cur its ≡ cur
    merged_wrapped its cur w =
        merged_none pool new cur its (λ p m e. let f = fate_is pool new p e in let z : ◌≡◌ {A = ℕ} 0 1 = cc f.new_plain in omega arith)

    module _ (its : List ItemWords) (o : Ordered pool its) (up : (x : ItemWords) → Among x its → S x ≤ E x) (up-new : S new ≤ E new) where
      abbrev M : ItemWords
      M = merged_with pool new new its

      up_result : S M ≤ E M
      up_result = let w = merged_wider (size pool) pool fits new new its in omega (arith, w.0, w.1)

      -- a plain item that stays lies to one side of the result
      side : (x : ItemWords) → Among x its → fate_of pool new x ≡ Stays → plain new ≡ true → plain x ≡ true → (E x < S M) ⊎ (E M < S x)
      side x m e s t = go ((fate_is pool new x e).disjoint s t)
        where
          meets : (p : ItemWords) → fate_of pool new p ≡ Merges → (plain p ≡ true) × (S p ≤ E new) × (S new ≤ E p)
          meets p f = let y = fate_is pool new p f in let r = meets_ranks (size pool) pool fits new p y in (y.it_plain, r.0, r.1)

          one : (p : ItemWords) → fate_of pool new p ≡ Merges → x ≡ p → ⊥
          one p f q = let z : Stays ≡ Merges = sym e ∙ ap (fate_of pool new) q ∙ f in impossible cc

          left : E x < S new → (p : ItemWords) → Among p its → fate_of pool new p ≡ Merges → E x < S p
          left l p n f =
              let y = meets p f in
              pick (plain_apart pool its o x p m n t y.0) y.2
            where
              pick : (x ≡ p) ⊎ ((E x < S p) ⊎ (E p < S x)) → S new ≤ E p → E x < S p
              pick (inl q) h = absurd (one p f q)
              pick (inr (inl q)) h = q
              pick (inr (inr q)) h = absurd (omega (arith, up x m))

          right : E new < S x → (p : ItemWords) → Among p its → fate_of pool new p ≡ Merges → E p < S x
          right l p n f =
              let y = meets p f in
              pick (plain_apart pool its o x p m n t y.0) y.1
            where
              pick : (x ≡ p) ⊎ ((E x < S p) ⊎ (E p < S x)) → S p ≤ E new → E p < S x
              pick (inl q) h = absurd (one p f q)
              pick (inr (inl q)) h = absurd (omega (arith, up x m))
              pick (inr (inr q)) h = q

          go : (ends_below pool new x ≡ true) ⊎ (ends_below pool x new ≡ true) → (E x < S M) ⊎ (E M < S x)
          go (inl h) =
              let l = ends_ranks (size pool) pool fits new x h in
              inr (omega (arith, merged_high (size pool) pool fits (S x - 1) new new its (omega arith) (λ p n f. omega (arith, right l p n f))))
          go (inr h) =
              let l = ends_ranks (size pool) pool fits x new h in
              inl (omega (arith, merged_low (size pool) pool fits (E x + 1) new new its (omega arith) (λ p n f. omega (arith, left l p n f))))

      -- where the result is plain, so is the new item
      plain_new : plain M ≡ true → plain new ≡ true
      plain_new e = go (plain new) refl
        where
          go : (b : Bool) → plain new ≡ b → b ≡ true
          go true f = refl
          go false f = rw f at (rw (merged_wrapped its new f) at e)

      -- no item that stays is equal to the result
      other : (x : ItemWords) → Among x its → fate_of pool new x ≡ Stays → same_item pool M x ≡ false
      other x m e = go (plain new) refl (plain x) refl (same_item pool M x) refl
        where
          go : (b : Bool) → plain new ≡ b → (c : Bool) → plain x ≡ c → (d : Bool) → same_item pool M x ≡ d → d ≡ false
          go b f c g false h = refl
          go true f true g true h =
              let r = same_rank (size pool) pool M x h in
              absurd (⊎_elim (λ l. omega (arith, r.0, up x m)) (λ l. omega (arith, r.0, up_result)) (side x m e f g))
          go true f false g true h =
              let w = merged_plain (size pool) pool fits new new its f in
              absurd (let z : ◌≡◌ {A = Bool} true false = sym w ∙ ap (λ (v : ℕ). eqb v 0) (same_wrapper pool M x h) ∙ g in impossible cc)
          go false f c g true h =
              let w = (fate_is pool new x e).other in
              absurd (let z : ◌≡◌ {A = Bool} true false = sym (rw (merged_wrapped its new f) at h) ∙ w in impossible cc)

      below : (x : ItemWords) → Among x its → fate_of pool new x ≡ Stays → is_lt (compare_items pool x M) ≡ true → clash pool x M ≡ false
      below x m e l =
          let k : K x < K M = ltb-true (K x) (K M) (sym (order_less (size pool) pool fits x M) ∙ l) in
          clash_none pool x M (omega arith) (λ s t. apart s t k) (differ (same_item pool x M) refl k)
        where
          apart : plain x ≡ true → plain M ≡ true → K x < K M → E x < S M
          apart s t k = pick (side x m e (plain_new t) s)
            where
              pick : (E x < S M) ⊎ (E M < S x) → E x < S M
              pick (inl h) = h
              pick (inr h) = absurd (omega (arith, up_result, rank_above (size pool) pool fits M x (omega (arith, up_result))))

          differ : (d : Bool) → same_item pool x M ≡ d → K x < K M → d ≡ false
          differ true h k = absurd (omega (arith, same_item_rank (size pool) pool x M h))
          differ false h k = refl

      above : (x : ItemWords) → Among x its → fate_of pool new x ≡ Stays → is_lt (compare_items pool x M) ≡ false → clash pool M x ≡ false
      above x m e l =
          let k : K M ≤ K x = ltb-false (K x) (K M) (sym (order_less (size pool) pool fits x M) ∙ l) in
          clash_none pool M x k (λ s t. apart s t k) (other x m e)
        where
          apart : plain M ≡ true → plain x ≡ true → K M ≤ K x → E M < S x
          apart s t k = pick (side x m e (plain_new s) t)
            where
              pick : (E x < S M) ⊎ (E M < S x) → E M < S x
              pick (inl h) = absurd (omega (arith, rank_above (size pool) pool fits x M (omega (arith, up x m))))
              pick (inr h) = h

      -- ---- the result in its place

      placed_ordered : (xs : List ItemWords) → Ordered pool xs → ((x : ItemWords) → Among x xs → Among x its × (fate_of pool new x ≡ Stays)) → Ordered pool (placed pool M xs)
      unfolding placed
      placed_ordered [] q f = (λ y m. absurd m, tt)
      placed_ordered (x ∷ xs) q f = go (is_lt (compare_items pool x M)) refl (placed_ordered xs q.1 (λ y m. f y (inr m)))
        where
          here : Among x its × (fate_of pool new x ≡ Stays)
          here = f x (inl refl)

          go : (t : Bool) → is_lt (compare_items pool x M) ≡ t → Ordered pool (placed pool M xs) → Ordered pool (cond t (x ∷ placed pool M xs) (M ∷ x ∷ xs))
          go true e r = (λ y m. later y (among_placed pool M xs y m), r)
            where
              later : (y : ItemWords) → (y ≡ M) ⊎ Among y xs → clash pool x y ≡ false
              later y (inl p) = rw p (below x here.0 here.1 e)
              later y (inr m) = q.0 y m
          go false e r = (later, q)
            where
              later : (y : ItemWords) → (y ≡ x) ⊎ Among y xs → clash pool M y ≡ false
              later y (inl p) = rw p (above x here.0 here.1 e)
              later y (inr m) =
                  let s = f y (inr m) in
                  let up_from = (clash_says pool x y (q.0 y m)).0 in
                  let k = ltb-false (K x) (K M) (sym (order_less (size pool) pool fits x M) ∙ e) in
                  above y s.0 s.1 (order_less (size pool) pool fits y M ∙ le-ltb (K y) (K M) (omega arith))

      inserted_ordered : Ordered pool (inserted pool new its)
      unfolding inserted
      inserted_ordered = placed_ordered (staying pool new its) (staying_pairwise pool (λ x y. clash pool x y ≡ false) new its o) (λ x m. among_staying pool new its x m)

  pub order_inserted : (new : ItemWords) (its : List ItemWords) → ordered_verdict pool its ≡ accepted → upright_fault pool new ≡ 0
      → order_verdict pool (inserted pool new its) ≡ accepted
  order_inserted new its e f =
      ordered_accepted pool 0 [] (inserted pool new its) (
        λ a b m n. absurd m,
        inserted_ordered new its (accepted_ordered pool 0 [] its (accepted_order pool its e)).1 (items_upright pool 0 its (accepted_items pool its e)) (upright_ranks pool new f),
      )
