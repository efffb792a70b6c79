-- Two plain upright items are inserted into a sorted list, in either order (02 §10.1). Where the second does not meet what the first became,
-- both orders give one list, offsets and all. Where it does, both orders make one result of the same ranks. It is converted in both, and so
-- told by its ranks; or nothing but equal items met, and it shows what these show. Assumes nothing.
use Prim.Native.Nat.{ℕ, ◌+◌, ◌-◌, ◌≤◌, ◌<◌}
use mathlib.Core.Path.{◌≡◌, refl, sym, ap, ◌∙◌}
use mathlib.Core.Bool.{true}
use mathlib.Core.Logic.{◌⊎◌, inl, inr, ⊎_elim}
use mathlib.Core.List.{List, map}
use native.Mathlib.Omega.{arith}
use native.Mathlib.Nat.{le_refl}
use Rattle.key_order.proofs.Line.{size}
use Rattle.query_item.specs.declared.ItemWords.{ItemWords}
use Rattle.query_item.specs.Items.{shown, SameShown}
use Rattle.insert_order.specs.Order.{same_item}
use Rattle.insert_order.proofs.Ranked.{lo, hi, item_rank, rank_above, same_shown, same_sym}
use Rattle.insert_order.proofs.Ordered.{Among, Sorted}
use Rattle.insert_merge.specs.declared.Fate.{Fate}
use Rattle.insert_merge.specs.declared.Fate.TheVariants.{Replaced, Stays, Merges}
use Rattle.insert_merge.specs.Merge.{fate_of, staying, merged_with}
use Rattle.insert_merge.proofs.Merged.{fate_is, fate_same, fate_itself, Alone, merged_none, merged_low, merged_high, merged_plain}
use Rattle.insert_merge.proofs.Staying.{Gone, merges_gone, stays_or_gone, among_staying, staying_keeps, staying_sorted, staying_comm, merged_staying}
use Rattle.insert_merge.proofs.Reach.{PlainUpright, gone_touches, stays_apart, apart_stays, Enclosed, new_enclosed, gone_enclosed}
use Rattle.insert_merge.proofs.Converted.{Converted, converted_or_alone, same_converted, ranks_shown}
use Rattle.insert.specs.Insertion.{placed, inserted}
use Rattle.insert.proofs.Placed.{among_placed, placed_among, staying_gone, staying_placed, merged_past, placed_comm, placed_shown}

module _ (pool : List ℕ) (its : List ItemWords) where
  abbrev S : ItemWords → ℕ
  S it = lo (size pool) pool it

  abbrev E : ItemWords → ℕ
  E it = hi (size pool) pool it

  abbrev K : ItemWords → ℕ
  K it = item_rank (size pool) pool it

  fits : size pool ≤ size pool
  fits = le_refl (size pool)

  -- what an item becomes in the list
  abbrev M : ItemWords → ItemWords
  M x = merged_with pool x x its

  -- what the second becomes in the list after the first
  abbrev N : ItemWords → ItemWords → ItemWords
  N x y = merged_with pool y y (inserted pool x its)

  -- nothing but equal items meets
  abbrev Equals : ItemWords → ItemWords → Type 0
  Equals x y = (same_item pool x y ≡ true) × Alone pool x its

  module _ (x y : ItemWords) (ux : PlainUpright pool x) (uy : PlainUpright pool y) where
    -- ---- the second does not meet what the first became

    -- what lies below that stays below the first, and the other way round

    apart_below : E y < S (M x) → (E (M y) < S x) × (S (M y) < S (M x))
    apart_below h =
        let w = new_enclosed pool x its in
        let v = new_enclosed pool y its in
        let top = merged_high (size pool) pool fits (S x - 1) y y its (omega (arith, w.low)) under in
        (omega (arith, w.low), omega (arith, v.low, uy.stands))
      where
        under : (p : ItemWords) → Among p its → fate_of pool y p ≡ Merges → E p ≤ S x - 1
        under p m e =
            let t = gone_touches pool y p uy (merges_gone pool y p e) in
            let w = new_enclosed pool x its in
            ⊎_elim (λ s. ⊎_elim (λ q. absurd (omega (arith, t.low, w.low, ux.stands))) (λ q. omega arith) (stays_apart pool x p ux t.bare s))
            (λ n. absurd (omega (arith, (gone_enclosed pool x its p m n).low, t.low)))
            (stays_or_gone pool x p)

    apart_above : E (M x) < S y → (E x < S (M y)) × (S (M x) < S (M y))
    apart_above h =
        let w = new_enclosed pool x its in
        let bottom = merged_low (size pool) pool fits (E x + 1) y y its (omega (arith, w.high)) over in
        (omega arith, omega (arith, w.low, ux.stands))
      where
        over : (p : ItemWords) → Among p its → fate_of pool y p ≡ Merges → E x + 1 ≤ S p
        over p m e =
            let t = gone_touches pool y p uy (merges_gone pool y p e) in
            let w = new_enclosed pool x its in
            ⊎_elim (λ s. ⊎_elim (λ q. omega arith) (λ q. absurd (omega (arith, t.high, w.high, ux.stands))) (stays_apart pool x p ux t.bare s))
            (λ n. absurd (omega (arith, (gone_enclosed pool x its p m n).high, t.high)))
            (stays_or_gone pool x p)

    module _ (e : fate_of pool y (M x) ≡ Stays) where
      sides : (E y < S (M x)) ⊎ (E (M x) < S y)
      sides = stays_apart pool y (M x) uy (merged_plain (size pool) pool fits x x its ux.bare) e

      -- then the first does not meet what the second became either, and the two have different ranks

      other_stays : fate_of pool x (M y) ≡ Stays
      other_stays = ⊎_elim (λ h. apart_stays pool x (M y) ux (inr (apart_below h).0)) (λ h. apart_stays pool x (M y) ux (inl (apart_above h).0)) sides

      ranks_differ : (K (M y) < K (M x)) ⊎ (K (M x) < K (M y))
      ranks_differ =
          ⊎_elim (λ h. inl (rank_above (size pool) pool fits (M y) (M x) (apart_below h).1))
          (λ h. inr (rank_above (size pool) pool fits (M x) (M y) (apart_above h).1))
          sides

      -- what the first takes out stays beside the second
      spared : (p : ItemWords) → Among p its → Gone pool x p → fate_of pool y p ≡ Stays
      spared p m n =
          let i = gone_enclosed pool x its p m n in
          apart_stays pool y p uy (⊎_elim (λ h. inl (omega (arith, i.low))) (λ h. inr (omega (arith, i.high))) sides)

      both_placed : Sorted pool its → inserted pool y (inserted pool x its) ≡ placed pool (M y) (placed pool (M x) (staying pool y (staying pool x its)))
      unfolding inserted
      both_placed o = rw (
        merged_past pool y (M x) y (staying pool x its) e,
        merged_staying pool x y y its spared,
        staying_placed pool y (M x) (staying pool x its) (staying_sorted pool x its o) e,
      )

    -- ---- it does

    module _ (n : Gone pool y (M x)) where
      one_placed : inserted pool y (inserted pool x its) ≡ placed pool (N x y) (staying pool y (staying pool x its))
      unfolding inserted
      one_placed = rw (staying_gone pool y (M x) (staying pool x its) n)

      -- all that either order takes out lies within the result

      first_enclosed : Enclosed pool (M x) (N x y)
      unfolding inserted
      first_enclosed = gone_enclosed pool y (inserted pool x its) (M x) (placed_among pool (M x) (staying pool x its) (M x) (inl refl)) n

      by_first : (p : ItemWords) → Among p its → Gone pool x p → Enclosed pool p (N x y)
      by_first p m g =
          let i = gone_enclosed pool x its p m g in
          let j = first_enclosed in
          record { low = omega (arith, i.low, j.low); high = omega (arith, i.high, j.high) }

      by_second : (p : ItemWords) → Among p its → Gone pool y p → Enclosed pool p (N x y)
      unfolding inserted
      by_second p m g =
          ⊎_elim
          (λ s. gone_enclosed pool y (inserted pool x its) p (placed_among pool (M x) (staying pool x its) p (inr (staying_keeps pool x its p m s))) g)
          (λ q. by_first p m q)
          (stays_or_gone pool x p)

      second_enclosed : Enclosed pool (M y) (N x y)
      second_enclosed =
          let w = new_enclosed pool y (inserted pool x its) in
          record {
            low = merged_low (size pool) pool fits (S (N x y)) y y its w.low (λ p m e. (by_second p m (merges_gone pool y p e)).low);
            high = merged_high (size pool) pool fits (E (N x y)) y y its w.high (λ p m e. (by_second p m (merges_gone pool y p e)).high);
          }

      taken : (p : ItemWords) → Among p (inserted pool y its) → fate_of pool x p ≡ Merges → Enclosed pool p (N x y)
      unfolding inserted
      taken p m e = go (among_placed pool (M y) (staying pool y its) p m)
        where
          go : (p ≡ M y) ⊎ Among p (staying pool y its) → Enclosed pool p (N x y)
          go (inl s) = rw s second_enclosed
          go (inr q) = by_first p (among_staying pool y its p q).0 (merges_gone pool x p e)

      -- so the other order's result does
      result_enclosed : Enclosed pool (N y x) (N x y)
      result_enclosed =
          let w = new_enclosed pool x its in
          let f = first_enclosed in
          record {
            low = merged_low (size pool) pool fits (S (N x y)) x x (inserted pool y its) (omega (arith, w.low, f.low)) (λ p m e. (taken p m e).low);
            high = merged_high (size pool) pool fits (E (N x y)) x x (inserted pool y its) (omega (arith, w.high, f.high)) (λ p m e. (taken p m e).high);
          }

      -- where nothing merges with the second it is equal to what the first became
      replaces : Alone pool y (inserted pool x its) → same_item pool y (M x) ≡ true
      unfolding inserted
      replaces a = go (fate_of pool y (M x)) refl
        where
          go : (f : Fate) → fate_of pool y (M x) ≡ f → same_item pool y (M x) ≡ true
          go Replaced e = fate_is pool y (M x) e
          go Stays e = absurd (n e)
          go Merges e = absurd (a (M x) (placed_among pool (M x) (staying pool x its) (M x) (inl refl)) e)

      -- the result is converted, or nothing but equal items met
      form : Converted pool (N x y) ⊎ Equals x y
      form = go (converted_or_alone pool y y (inserted pool x its)) (converted_or_alone pool x x its)
        where
          go : Converted pool (N x y) ⊎ Alone pool y (inserted pool x its) → Converted pool (M x) ⊎ Alone pool x its → Converted pool (N x y) ⊎ Equals x y
          go (inl c) r = inl c
          go (inr a) (inl c) =
              inl (rw (merged_none pool y y (inserted pool x its) a) (same_converted pool (M x) y (same_sym pool y (M x) (replaces a)) c))
          go (inr a) (inr b) = inr (same_sym pool y x (rw (merged_none pool x x its b) at (replaces a)), b)

    -- where equal items alone meet the second stands as it is
    equals_stand : Equals x y → N x y ≡ y
    unfolding inserted
    equals_stand q = merged_none pool y y (inserted pool x its) (λ p m e. go p (among_placed pool (M x) (staying pool x its) p m) (fate_same pool x y p q.0 ∙ e))
      where
        go : (p : ItemWords) → (p ≡ M x) ⊎ Among p (staying pool x its) → fate_of pool x p ≡ Merges → ⊥
        go p (inl s) e =
            let r : Replaced ≡ Merges = sym (fate_itself pool x) ∙ ap (fate_of pool x) (sym (s ∙ merged_none pool x x its q.1)) ∙ e in
            let z : ◌≡◌ {A = ℕ} 0 1 = cc in
            omega arith
        go p (inr m) e = q.1 p (among_staying pool x its p m).0 e

  equals_swap : (x y : ItemWords) → Equals x y → Equals y x
  equals_swap x y q = (same_sym pool x y q.0, λ p m e. q.1 p m (fate_same pool x y p q.0 ∙ e))

  -- ---- the two orders

  module _ (o : Sorted pool its) (x y : ItemWords) (ux : PlainUpright pool x) (uy : PlainUpright pool y) where
    -- the two lie apart: one list, offsets and all
    pub either_apart : fate_of pool y (M x) ≡ Stays → inserted pool y (inserted pool x its) ≡ inserted pool x (inserted pool y its)
    either_apart e =
        both_placed x y ux uy e o
        ∙ ap (λ (l : List ItemWords). placed pool (M y) (placed pool (M x) l)) (staying_comm pool x y its)
        ∙ ⊎_elim (λ h. placed_comm pool (M y) (M x) rest h) (λ h. sym (placed_comm pool (M x) (M y) rest h)) (ranks_differ x y ux uy e)
        ∙ sym (both_placed y x uy ux (other_stays x y ux uy e) o)
      where
        rest : List ItemWords
        rest = staying pool x (staying pool y its)

    -- the two meet: one result, in one place

    module _ (n : Gone pool y (M x)) where
      other_gone : Gone pool x (M y)
      other_gone e = n (other_stays y x uy ux e)

      starts_same : S (N x y) ≡ S (N y x)
      starts_same = omega (arith, (result_enclosed x y ux uy n).low, (result_enclosed y x uy ux other_gone).low)

      ends_same : E (N x y) ≡ E (N y x)
      ends_same = omega (arith, (result_enclosed x y ux uy n).high, (result_enclosed y x uy ux other_gone).high)

      equals_shown : Equals x y → shown pool (N x y) ≡ shown pool (N y x)
      equals_shown q =
          ap (shown pool) (equals_stand x y ux uy q)
          ∙ same_shown pool y x (same_sym pool x y q.0)
          ∙ ap (shown pool) (sym (equals_stand y x uy ux (equals_swap x y q)))

      one_shown : shown pool (N x y) ≡ shown pool (N y x)
      one_shown = go (form x y ux uy n) (form y x uy ux other_gone)
        where
          go : Converted pool (N x y) ⊎ Equals x y → Converted pool (N y x) ⊎ Equals y x → shown pool (N x y) ≡ shown pool (N y x)
          go (inl c) (inl d) = ranks_shown pool (N x y) (N y x) c d starts_same ends_same
          go (inl c) (inr q) = equals_shown (equals_swap y x q)
          go (inr q) r = equals_shown q

      either_joined : SameShown pool pool (inserted pool y (inserted pool x its)) (inserted pool x (inserted pool y its))
      either_joined =
          ap (map (shown pool)) (one_placed x y ux uy n)
          ∙ placed_shown pool pool (N x y) (N y x) (staying pool y (staying pool x its)) (staying pool x (staying pool y its)) one_shown
          (ap (map (shown pool)) (staying_comm pool x y its))
          ∙ ap (map (shown pool)) (sym (one_placed y x uy ux other_gone))

    pub either_shown : SameShown pool pool (inserted pool y (inserted pool x its)) (inserted pool x (inserted pool y its))
    either_shown = ⊎_elim (λ e. ap (map (shown pool)) (either_apart e)) either_joined (stays_or_gone pool y (M x))
