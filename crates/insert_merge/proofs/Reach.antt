-- A plain upright item and the items of a list on the line of ranks: those that it takes out share a rank with it, plain ones that stay share
-- none, and what it merges to reaches around all that it takes out. Assumes nothing.
use Prim.Native.Nat.{ℕ, ◌≤◌, ◌<◌}
use mathlib.Core.Path.{◌≡◌, refl, sym, ap, ◌∙◌}
use mathlib.Core.Bool.{true}
use mathlib.Core.Logic.{◌⊎◌, inl, inr, ⊎_elim}
use mathlib.Core.List.{List, [], ◌∷◌}
use native.Mathlib.Omega.{arith}
use native.Mathlib.Nat.{le_refl}
use lib.Dec.{eqb}
use Rattle.key_order.proofs.Impossible.{impossible}
use Rattle.key_order.proofs.Line.{size}
use Rattle.query_item.specs.declared.ItemWords.{ItemWords}
use Rattle.insert_order.specs.Order.{plain, same_item}
use Rattle.insert_order.proofs.Ranked.{lo, hi, same_rank, same_wrapper}
use Rattle.insert_order.proofs.Ordered.{Among}
use Rattle.insert_merge.specs.declared.Fate.{Fate}
use Rattle.insert_merge.specs.declared.Fate.TheVariants.{Replaced, Stays, Merges}
use Rattle.insert_merge.specs.Merge.{fate_of, merged, merge_by, merged_with}
use Rattle.insert_merge.proofs.Merged.{fate_is, merged_spans, meets_ranks, ends_ranks, ranks_stay, merged_wider}
use Rattle.insert_merge.proofs.Staying.{Gone}

module _ (pool : List ℕ) where
  abbrev S : ItemWords → ℕ
  S it = lo (size pool) pool it

  abbrev E : ItemWords → ℕ
  E it = hi (size pool) pool it

  fits : size pool ≤ size pool
  fits = le_refl (size pool)

  -- ---- fates by ranks

  -- a plain item whose start ranks no higher than its end
  pub record PlainUpright (x : ItemWords) : Type 0 where
    pub bare : plain x ≡ true
    pub stands : S x ≤ E x

  -- a plain item that shares a rank with it
  pub record Touches (x it : ItemWords) : Type 0 where
    pub bare : plain it ≡ true
    pub low : S it ≤ E x
    pub high : S x ≤ E it

  module _ (x it : ItemWords) (u : PlainUpright x) where
    same_touches : same_item pool x it ≡ true → Touches x it
    same_touches e =
        let r = same_rank (size pool) pool x it e in
        record {
          bare = sym (ap (λ (w : ℕ). eqb w 0) (same_wrapper pool x it e)) ∙ u.bare;
          low = omega (arith, r.0, r.1, u.stands);
          high = omega (arith, r.0, r.1, u.stands);
        }

    pub gone_touches : Gone pool x it → Touches x it
    gone_touches n = go (fate_of pool x it) refl
      where
        go : (f : Fate) → fate_of pool x it ≡ f → Touches x it
        go Replaced e = same_touches (fate_is pool x it e)
        go Stays e = absurd (n e)
        go Merges e =
            let m = fate_is pool x it e in
            let r = meets_ranks (size pool) pool fits x it m in
            record { bare = m.it_plain; low = r.0; high = r.1 }

    pub stays_apart : plain it ≡ true → fate_of pool x it ≡ Stays → (E x < S it) ⊎ (E it < S x)
    stays_apart p e =
        ⊎_elim (λ h. inl (ends_ranks (size pool) pool fits x it h)) (λ h. inr (ends_ranks (size pool) pool fits it x h)) ((fate_is pool x it e).disjoint u.bare p)

    pub apart_stays : (E x < S it) ⊎ (E it < S x) → fate_of pool x it ≡ Stays
    apart_stays h = ranks_stay (size pool) pool fits x it (λ e. never (same_touches e)) (λ p q. h)
      where
        never : Touches x it → ⊥
        never t = ⊎_elim (λ l. omega (arith, t.low)) (λ l. omega (arith, t.high)) h

  -- ---- the result

  -- one item lies within another
  pub record Enclosed (a b : ItemWords) : Type 0 where
    pub low : S b ≤ S a
    pub high : E a ≤ E b

  -- the new item lies within what it merges to
  pub new_enclosed : (new : ItemWords) (its : List ItemWords) → Enclosed new (merged_with pool new new its)
  new_enclosed new its = let w = merged_wider (size pool) pool fits new new its in record { low = w.0; high = w.1 }

  merges_enclosed : (new cur : ItemWords) (its : List ItemWords) (p : ItemWords) → Among p its → fate_of pool new p ≡ Merges → Enclosed p (merged_with pool new cur its)
  unfolding merged_with
  merges_enclosed new cur [] p m e = absurd m
  merges_enclosed new cur (it ∷ its) p m e = go (fate_of pool new it) refl m (λ c n. merges_enclosed new c its p n e)
    where
      here : (f : Fate) → fate_of pool new it ≡ f → p ≡ it → Merges ≡ f
      here f g s = sym e ∙ ap (fate_of pool new) s ∙ g

      go : (f : Fate) → fate_of pool new it ≡ f → (p ≡ it) ⊎ Among p its → ((c : ItemWords) → Among p its → Enclosed p (merged_with pool new c its))
          → Enclosed p (merged_with pool new (merge_by pool f cur it) its)
      go Replaced g (inl s) r = absurd (let q = here Replaced g s in impossible cc)
      go Replaced g (inr n) r = r cur n
      go Stays g (inl s) r = absurd (let q = here Stays g s in impossible cc)
      go Stays g (inr n) r = r cur n
      go Merges g (inl s) r =
          let w = merged_wider (size pool) pool fits new (merged pool cur it) its in
          let v = merged_spans (size pool) pool fits cur it in
          rw s (record { low = omega (arith, w.0, v.0); high = omega (arith, w.1, v.1) })
      go Merges g (inr n) r = r (merged pool cur it) n

  -- and so does all that it takes out
  pub gone_enclosed : (new : ItemWords) (its : List ItemWords) (p : ItemWords) → Among p its → Gone pool new p → Enclosed p (merged_with pool new new its)
  gone_enclosed new its p m n = go (fate_of pool new p) refl
    where
      go : (f : Fate) → fate_of pool new p ≡ f → Enclosed p (merged_with pool new new its)
      go Replaced e =
          let w = new_enclosed new its in
          let r = same_rank (size pool) pool new p (fate_is pool new p e) in
          record { low = omega (arith, w.low, r.0); high = omega (arith, w.high, r.1) }
      go Stays e = absurd (n e)
      go Merges e = merges_enclosed new new its p m e
