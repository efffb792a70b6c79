-- Ranges that hold no key, left out: every part of one holds none, so that they may be left out before two lists are shared or removed; the
-- keys that a list holds stay, and a strict list stays strict. Assumes nothing.
use Prim.Native.Nat.{ℕ, ◌≤◌}
use mathlib.Core.Path.{◌≡◌, refl, sym, ap, ◌∙◌}
use mathlib.Core.Bool.{Bool, true, false, cond, not, ◌||◌, not-not}
use mathlib.Core.List.{List, [], ◌∷◌, map}
use native.Mathlib.Omega.{arith}
use Rattle.key_order.proofs.Line.{size}
use Rattle.key_order.proofs.Ranks.{key_rank}
use Rattle.query_item.specs.declared.RangeSet.{RangeSet}
use Rattle.keyless.specs.Keyless.{keyless, keyed}
use Rattle.keyless.proofs.Laws.{keyless_inside, part_of_keyless}
use Rattle.intervals.specs.Lists.{shared_of, without_of, keep}
use Rattle.intervals.specs.Intervals.{inside, holds}
use Rattle.intervals.proofs.Model.{Above}
use Rattle.intervals.proofs.Laws.{All, Dropped, all_keep, keep_shared, keep_shared_second, keep_without}
use Rattle.intervals.proofs.Ordered.{above_le}
use Rattle.intervals.proofs.Pieces.{Within, meet_within, meet_within_second, cut_within}
use Rattle.intersect.specs.Pair.{meet_sets}
use Rattle.intersect_many.specs.Lists.{cut_sets}
use Rattle.intersect_many.proofs.Carried.{iv, Fine, meet_carried, cut_carried}

module _ (pool : List ℕ) (n : ℕ) (fits : size pool ≤ n) where
  abbrev test : RangeSet → Bool
  test s = not (keyless pool s)

  -- ranges within one that holds no key hold none
  within_keyless : (a : RangeSet) → Fine pool n fits a → test a ≡ false → (L : List RangeSet) → All (Fine pool n fits) L
      → All (Within (iv pool n fits a)) (map (iv pool n fits) L) → All (Dropped test) L
  within_keyless a A d [] f w = tt
  within_keyless a A d (t ∷ L) f w = (
    ap not (part_of_keyless pool n fits a A.good t f.0.good w.0.0 (omega (arith, w.0.1)) (sym (not-not (keyless pool a)) ∙ ap not d)),
    within_keyless a A d L f.1 w.1,
  )

  module _ (a b : RangeSet) (A : Fine pool n fits a) (B : Fine pool n fits b) where
    meet_keyless : test a ≡ false → All (Dropped test) (meet_sets pool a b)
    meet_keyless d =
        let c = meet_carried pool n fits a b A B in
        within_keyless a A d (meet_sets pool a b) c.0 (rw c.1 (meet_within (iv pool n fits a) (iv pool n fits b)))

    meet_keyless_second : test b ≡ false → All (Dropped test) (meet_sets pool a b)
    meet_keyless_second d =
        let c = meet_carried pool n fits a b A B in
        within_keyless b B d (meet_sets pool a b) c.0 (rw c.1 (meet_within_second (iv pool n fits a) (iv pool n fits b)))

    cut_keyless : test a ≡ false → All (Dropped test) (cut_sets pool a b)
    cut_keyless d =
        let c = cut_carried pool n fits a b A B in
        within_keyless a A d (cut_sets pool a b) c.0 (rw c.1 (cut_within (iv pool n fits a) (iv pool n fits b)))

  -- ---- left out before, or after

  module _ (A B : List RangeSet) (h_a : All (Fine pool n fits) A) (h_b : All (Fine pool n fits) B) where
    pub shared_keyed : keyed pool (shared_of (meet_sets pool) (keyed pool A) B) ≡ keyed pool (shared_of (meet_sets pool) A B)
    shared_keyed = keep_shared test (Fine pool n fits) (meet_sets pool) meet_keyless A B h_a h_b

    pub shared_keyed_second : keyed pool (shared_of (meet_sets pool) A (keyed pool B)) ≡ keyed pool (shared_of (meet_sets pool) A B)
    shared_keyed_second = keep_shared_second test (Fine pool n fits) (meet_sets pool) meet_keyless_second A B h_a h_b

    pub without_keyed : keyed pool (without_of (cut_sets pool) (keyed pool A) B) ≡ keyed pool (without_of (cut_sets pool) A B)
    without_keyed = keep_without test (Fine pool n fits) (cut_sets pool) (λ a b p q. (cut_carried pool n fits a b p q).0) cut_keyless A B h_a h_b

  -- ---- what is left

  pub fine_keyed : (S : List RangeSet) → All (Fine pool n fits) S → All (Fine pool n fits) (keyed pool S)
  fine_keyed S h = all_keep test (Fine pool n fits) S h

  -- the same keys
  pub holds_keyed : (S : List RangeSet) → All (Fine pool n fits) S → (k : List ℕ) → size k ≤ n
      → holds (map (iv pool n fits) (keyed pool S)) (key_rank n k) ≡ holds (map (iv pool n fits) S) (key_rank n k)
  unfolding keep holds
  holds_keyed [] h k l = refl
  holds_keyed (s ∷ S) h k l = go (keyless pool s) refl (holds_keyed S h.1 k l)
    where
      go : (t : Bool) → keyless pool s ≡ t → holds (map (iv pool n fits) (keyed pool S)) (key_rank n k) ≡ holds (map (iv pool n fits) S) (key_rank n k)
          → holds (map (iv pool n fits) (cond (not t) (s ∷ keyed pool S) (keyed pool S))) (key_rank n k)
          ≡ inside (iv pool n fits s).0 (iv pool n fits s).1 (key_rank n k) || holds (map (iv pool n fits) S) (key_rank n k)
      go true d e = rw (keyless_inside pool n fits s h.0.good d k l) e
      go false d e = rw e

  -- strict
  pub above_keyed : (lo : ℕ) (S : List RangeSet) → Above lo (map (iv pool n fits) S) → Above lo (map (iv pool n fits) (keyed pool S))
  unfolding keep
  above_keyed lo [] h = tt
  above_keyed lo (s ∷ S) h = go (keyless pool s) (above_keyed (iv pool n fits s).1 S h.2)
    where
      go : (t : Bool) → Above (iv pool n fits s).1 (map (iv pool n fits) (keyed pool S)) → Above lo (map (iv pool n fits) (cond (not t) (s ∷ keyed pool S) (keyed pool S)))
      go true k = above_le lo (iv pool n fits s).1 (map (iv pool n fits) (keyed pool S)) (omega (arith, h.0, h.1)) k
      go false k = (h.0, h.1, k)
