-- The laws of Demands.antt, proved: lists as intervals of ranks, the laws of `intervals`, and the way back to items and keys. What holds no key
-- is left out of a result; left out before or after, the rest is the same (Parts.antt).
-- Assumes nothing.
use Prim.Native.Nat.{ℕ, ◌+◌, ◌≤◌}
use mathlib.Core.Path.{◌≡◌, sym, ap, ◌∙◌}
use mathlib.Core.Bool.{false, not, ◌&&◌, ◌||◌}
use mathlib.Core.List.{List, map, map-map}
use native.Mathlib.Nat.{le_refl}
use native.Mathlib.Omega.{arith}
use Rattle.key_order.proofs.Line.{size}
use Rattle.key_order.proofs.Ranks.{key_rank}
use Rattle.query_item.specs.declared.ItemWords.{ItemWords}
use Rattle.query_item.specs.declared.RangeSet.{RangeSet}
use Rattle.query_item.specs.Items.{flat_all}
use Rattle.query_item.specs.Boundaries.{range_of}
use Rattle.query_item.proofs.Laws.{holds_any_interval}
use Rattle.item_check.specs.Checks.{items_of}
use Rattle.item_check.proofs.Laws.{AcceptedList}
use Rattle.item_lists.specs.Lists.{Accepted, Fits, list_holds, SameItems}
use Rattle.item_lists.proofs.Accepted.{list_of, accepted_by}
use Rattle.item_lists.proofs.Read.{items_flat}
use Rattle.intervals.specs.Lists.{shared_of, without_of}
use Rattle.intervals.specs.Intervals.{Interval, holds, without}
use Rattle.intervals.proofs.Model.{Strict, shared}
use Rattle.intervals.proofs.Laws as intervals
use Rattle.intervals.proofs.Laws.{All, keep_passes}
use Rattle.intervals.proofs.Members.{either_way, never_both}
use Rattle.intersect.specs.Pair.{meet_sets}
use Rattle.keyless.specs.Keyless.{keyless, keyed}
use Rattle.intersect_many.specs.Lists.{sets_of, shared_sets, cut_sets, only_sets, keyed_items, shared_items, only_items}
use Rattle.intersect_many.specs.Demand.{shared_words, without_words, EachHolds}
use Rattle.intersect_many.proofs.Carried.{iv, Fine, shared_fine, shared_carried, without_fine, without_carried}
use Rattle.intersect_many.proofs.Listed.{sets_of_words, item_iv, convert_sound, convert_carried, words_hold, words_accepted}
use Rattle.intersect_many.proofs.Parts.{fine_keyed, holds_keyed, above_keyed, shared_keyed, shared_keyed_second, without_keyed}
use Rattle.intersect_many.proofs.Shown.{same_keyed, same_shown}
use Rattle.intersect_many.proofs.Sound.{list_fine, list_strict}

-- ---- lists as intervals

module _ (pool : List ℕ) (n : ℕ) (fits : size pool ≤ n) where
  abbrev ivs : List ℕ → List Interval
  ivs ws = map (iv pool n fits) (sets_of ws)

  words_ivs : (its : List ItemWords) → ivs (flat_all its) ≡ map (item_iv pool n fits) its
  words_ivs its = rw (sets_of_words its) (map-map (iv pool n fits) range_of its)

  -- ---- ranges S as a result list

  module _ (S : List RangeSet) (h : All (Fine pool n fits) S) where
    -- as intervals: of those that hold a key
    result_ivs : ivs (flat_all (keyed_items pool S)) ≡ map (iv pool n fits) (keyed pool S)
    unfolding keyed_items
    result_ivs = words_ivs (keyed_items pool S) ∙ convert_carried pool n fits (keyed pool S) (fine_keyed pool n fits S h)

    -- the keys that it holds: what is left out holds none
    result_holds : (k : List ℕ) → size k ≤ n → holds (ivs (flat_all (keyed_items pool S))) (key_rank n k) ≡ holds (map (iv pool n fits) S) (key_rank n k)
    result_holds k l = ap (λ (L : List Interval). holds L (key_rank n k)) result_ivs ∙ holds_keyed pool n fits S h k l

    result_accepted : Strict (map (iv pool n fits) S) → Fits (keyed_items pool S) → AcceptedList pool (flat_all (keyed_items pool S))
    unfolding keyed_items
    result_accepted s f =
        words_accepted pool n fits (keyed_items pool S) (convert_sound pool n fits (keyed pool S) (fine_keyed pool n fits S h))
        (rw (← words_ivs (keyed_items pool S), result_ivs) (above_keyed pool n fits 0 S s)) f

    result_each_holds : EachHolds pool (items_of (flat_all (keyed_items pool S)))
    unfolding keyed_items
    result_each_holds = words_hold pool n fits (keyed pool S) (fine_keyed pool n fits S h) (keep_passes (λ s. not (keyless pool s)) S)

  -- ---- what two lists share and what one keeps, those that hold no key among them

  module _ (A B : List ℕ) (a : AcceptedList pool A) (b : AcceptedList pool B) where
    shared_ivs : map (iv pool n fits) (shared_sets pool A B) ≡ shared (ivs A) (ivs B)
    shared_ivs = shared_carried pool n fits (sets_of A) (sets_of B) (list_fine pool n fits A a) (list_fine pool n fits B b)

    without_ivs : map (iv pool n fits) (only_sets pool A B) ≡ without (ivs A) (ivs B)
    without_ivs = without_carried pool n fits (sets_of A) (sets_of B) (list_fine pool n fits A a) (list_fine pool n fits B b)

    shared_sets_lem : All (Fine pool n fits) (shared_sets pool A B)
    shared_sets_lem = shared_fine pool n fits (sets_of A) (sets_of B) (list_fine pool n fits A a) (list_fine pool n fits B b)

    without_sets : All (Fine pool n fits) (only_sets pool A B)
    without_sets = without_fine pool n fits (sets_of A) (sets_of B) (list_fine pool n fits A a) (list_fine pool n fits B b)

  -- a list holds a key where its intervals hold the key's rank
  list_holds_lem : (ws : List ℕ) (k : List ℕ) → size k ≤ n → list_holds pool ws k ≡ holds (ivs ws) (key_rank n k)
  list_holds_lem ws k l = holds_any_interval pool n fits (items_of ws) k l

-- ---- 1: every key of A, of any length, is in exactly one of the two, and neither holds another key

module _ (pool A B : List ℕ) (a : Accepted pool A) (b : Accepted pool B) (k : List ℕ) where
  abbrev n : ℕ
  n = size pool + size k

  fit : size pool ≤ n
  fit = omega arith

  short : size k ≤ n
  short = omega arith

  -- shared holds exactly what both hold
  pub shared_holds : list_holds pool (shared_words pool A B) k ≡ list_holds pool A k && list_holds pool B k
  unfolding shared_items
  shared_holds =
      rw (
        list_holds_lem pool n fit (shared_words pool A B) k short,
        list_holds_lem pool n fit A k short,
        list_holds_lem pool n fit B k short,
        result_holds pool n fit (shared_sets pool A B) (shared_sets_lem pool n fit A B (list_of pool A a) (list_of pool B b)) k short,
        shared_ivs pool n fit A B (list_of pool A a) (list_of pool B b),
      )
      (intervals.holds_shared (ivs pool n fit A) (ivs pool n fit B) (key_rank n k))

  -- without holds exactly what A holds and B does not
  pub without_holds : list_holds pool (without_words pool A B) k ≡ list_holds pool A k && not (list_holds pool B k)
  unfolding only_items
  without_holds =
      rw (
        list_holds_lem pool n fit (without_words pool A B) k short,
        list_holds_lem pool n fit A k short,
        list_holds_lem pool n fit B k short,
        result_holds pool n fit (only_sets pool A B) (without_sets pool n fit A B (list_of pool A a) (list_of pool B b)) k short,
        without_ivs pool n fit A B (list_of pool A a) (list_of pool B b),
      )
      (intervals.holds_without (ivs pool n fit A) (ivs pool n fit B) (key_rank n k))

  -- a key that A holds is in one of the two, and no other key is
  pub in_one : list_holds pool A k ≡ list_holds pool (shared_words pool A B) k || list_holds pool (without_words pool A B) k
  in_one = rw (shared_holds, without_holds) (either_way (list_holds pool A k) (list_holds pool B k))

  -- no key is in both
  pub not_in_both : list_holds pool (shared_words pool A B) k && list_holds pool (without_words pool A B) k ≡ false
  not_in_both = rw (shared_holds, without_holds) (never_both (list_holds pool A k) (list_holds pool B k))

-- ---- 4: each result that fits is an accepted list

module _ (pool : List ℕ) where
  abbrev at : size pool ≤ size pool
  at = le_refl (size pool)

  abbrev ivs_of : List RangeSet → List Interval
  ivs_of S = map (iv pool (size pool) at) S

  abbrev spans : List ℕ → List Interval
  spans ws = ivs_of (sets_of ws)

  abbrev FineAll : List RangeSet → Type 0
  FineAll S = All (Fine pool (size pool) at) S

  abbrev sharing : List RangeSet → List RangeSet → List RangeSet
  sharing S T = shared_of (meet_sets pool) S T

  abbrev keeping : List RangeSet → List RangeSet → List RangeSet
  keeping S T = without_of (cut_sets pool) S T

  fine_of : (A : List ℕ) → Accepted pool A → FineAll (sets_of A)
  fine_of A a = list_fine pool (size pool) at A (list_of pool A a)

  strict_of : (A : List ℕ) → Accepted pool A → Strict (spans A)
  strict_of A a = list_strict pool (size pool) at A (list_of pool A a)

  module _ (A B : List ℕ) (a : Accepted pool A) (b : Accepted pool B) where
    both : FineAll (shared_sets pool A B)
    both = shared_sets_lem pool (size pool) at A B (list_of pool A a) (list_of pool B b)

    only : FineAll (only_sets pool A B)
    only = without_sets pool (size pool) at A B (list_of pool A a) (list_of pool B b)

    both_ivs : ivs_of (shared_sets pool A B) ≡ shared (spans A) (spans B)
    both_ivs = shared_ivs pool (size pool) at A B (list_of pool A a) (list_of pool B b)

    only_ivs : ivs_of (only_sets pool A B) ≡ without (spans A) (spans B)
    only_ivs = without_ivs pool (size pool) at A B (list_of pool A a) (list_of pool B b)

    pub shared_accepted : Fits (shared_items pool A B) → Accepted pool (shared_words pool A B)
    unfolding shared_items
    shared_accepted f =
        accepted_by pool A (shared_words pool A B) a
        (result_accepted pool (size pool) at (shared_sets pool A B) both
        (rw both_ivs (intervals.shared_strict (spans A) (spans B) (strict_of A a) (strict_of B b))) f)

    pub without_accepted : Fits (only_items pool A B) → Accepted pool (without_words pool A B)
    unfolding only_items
    without_accepted f =
        accepted_by pool A (without_words pool A B) a
        (result_accepted pool (size pool) at (only_sets pool A B) only
        (rw only_ivs (intervals.without_strict (spans A) (spans B) (strict_of A a) (strict_of B b))) f)

    -- 02 §2.1: each item of a result holds a key
    pub shared_each_holds : EachHolds pool (items_of (shared_words pool A B))
    unfolding shared_items
    shared_each_holds = result_each_holds pool (size pool) at (shared_sets pool A B) both

    pub without_each_holds : EachHolds pool (items_of (without_words pool A B))
    unfolding only_items
    without_each_holds = result_each_holds pool (size pool) at (only_sets pool A B) only

  -- ---- 2 and 3: the same list, item by item, by kind and key bytes

  same_words : (S T : List RangeSet) → ivs_of (keyed pool S) ≡ ivs_of (keyed pool T)
      → SameItems pool (flat_all (keyed_items pool S)) (flat_all (keyed_items pool T))
  unfolding keyed_items
  same_words S T e =
      rw (items_flat (keyed_items pool S), items_flat (keyed_items pool T))
      (same_shown pool (size pool) at (keyed pool S) (keyed pool T) e)

  -- with others in place of S and T, the same as intervals, what is shared or kept is the same, and the same is left out

  module _ (S T S' T' : List RangeSet) (s : FineAll S) (t : FineAll T) (s' : FineAll S') (t' : FineAll T') where
    sharing_same : shared (ivs_of S) (ivs_of T) ≡ shared (ivs_of S') (ivs_of T') → ivs_of (keyed pool (sharing S T)) ≡ ivs_of (keyed pool (sharing S' T'))
    sharing_same e =
        same_keyed pool (size pool) at (sharing S T) (sharing S' T')
        (shared_carried pool (size pool) at S T s t ∙ e ∙ sym (shared_carried pool (size pool) at S' T' s' t'))

    keeping_same : without (ivs_of S) (ivs_of T) ≡ without (ivs_of S') (ivs_of T') → ivs_of (keyed pool (keeping S T)) ≡ ivs_of (keyed pool (keeping S' T'))
    keeping_same e =
        same_keyed pool (size pool) at (keeping S T) (keeping S' T')
        (without_carried pool (size pool) at S T s t ∙ e ∙ sym (without_carried pool (size pool) at S' T' s' t'))

  module _ (A B C D : List ℕ) where
    shared_same : ivs_of (keyed pool (shared_sets pool A B)) ≡ ivs_of (keyed pool (shared_sets pool C D))
        → SameItems pool (shared_words pool A B) (shared_words pool C D)
    unfolding shared_items
    shared_same e = same_words (shared_sets pool A B) (shared_sets pool C D) e

    without_same : ivs_of (keyed pool (only_sets pool A B)) ≡ ivs_of (keyed pool (only_sets pool C D))
        → SameItems pool (without_words pool A B) (without_words pool C D)
    unfolding only_items
    without_same e = same_words (only_sets pool A B) (only_sets pool C D) e

  -- sharing gives the same list in either order
  pub shared_comm : (A B : List ℕ) → Accepted pool A → Accepted pool B → SameItems pool (shared_words pool A B) (shared_words pool B A)
  shared_comm A B a b =
      shared_same A B B A
      (sharing_same (sets_of A) (sets_of B) (sets_of B) (sets_of A) (fine_of A a) (fine_of B b) (fine_of B b) (fine_of A a)
      (intervals.shared_comm (spans A) (spans B) (strict_of A a) (strict_of B b)))

  -- a result in place of a list: what it left out would be left out later

  module _ (A B C : List ℕ) (a : Accepted pool A) (b : Accepted pool B) (c : Accepted pool C) where
    shared_first : Accepted pool (shared_words pool A B)
        → ivs_of (keyed pool (sharing (sets_of (shared_words pool A B)) (sets_of C))) ≡ ivs_of (keyed pool (sharing (shared_sets pool A B) (sets_of C)))
    unfolding shared_items
    shared_first w =
        sharing_same (sets_of (shared_words pool A B)) (sets_of C) (keyed pool (shared_sets pool A B)) (sets_of C)
        (fine_of (shared_words pool A B) w) (fine_of C c) (fine_keyed pool (size pool) at (shared_sets pool A B) (both A B a b)) (fine_of C c)
        (ap (λ (L : List Interval). shared L (spans C)) (result_ivs pool (size pool) at (shared_sets pool A B) (both A B a b)))
        ∙ ap ivs_of (shared_keyed pool (size pool) at (shared_sets pool A B) (sets_of C) (both A B a b) (fine_of C c))

    shared_second : Accepted pool (shared_words pool A B)
        → ivs_of (keyed pool (sharing (sets_of C) (sets_of (shared_words pool A B)))) ≡ ivs_of (keyed pool (sharing (sets_of C) (shared_sets pool A B)))
    unfolding shared_items
    shared_second w =
        sharing_same (sets_of C) (sets_of (shared_words pool A B)) (sets_of C) (keyed pool (shared_sets pool A B))
        (fine_of C c) (fine_of (shared_words pool A B) w) (fine_of C c) (fine_keyed pool (size pool) at (shared_sets pool A B) (both A B a b))
        (ap (λ (L : List Interval). shared (spans C) L) (result_ivs pool (size pool) at (shared_sets pool A B) (both A B a b)))
        ∙ ap ivs_of (shared_keyed_second pool (size pool) at (sets_of C) (shared_sets pool A B) (fine_of C c) (both A B a b))

    without_first : Accepted pool (without_words pool A B)
        → ivs_of (keyed pool (keeping (sets_of (without_words pool A B)) (sets_of C))) ≡ ivs_of (keyed pool (keeping (only_sets pool A B) (sets_of C)))
    unfolding only_items
    without_first w =
        keeping_same (sets_of (without_words pool A B)) (sets_of C) (keyed pool (only_sets pool A B)) (sets_of C)
        (fine_of (without_words pool A B) w) (fine_of C c) (fine_keyed pool (size pool) at (only_sets pool A B) (only A B a b)) (fine_of C c)
        (ap (λ (L : List Interval). without L (spans C)) (result_ivs pool (size pool) at (only_sets pool A B) (only A B a b)))
        ∙ ap ivs_of (without_keyed pool (size pool) at (only_sets pool A B) (sets_of C) (only A B a b) (fine_of C c))

  module _ (A B C : List ℕ) (a : Accepted pool A) (b : Accepted pool B) (c : Accepted pool C) where
    -- and in either grouping
    pub shared_assoc : Fits (shared_items pool A B) → Fits (shared_items pool B C)
        → SameItems pool (shared_words pool (shared_words pool A B) C) (shared_words pool A (shared_words pool B C))
    shared_assoc f g =
        let ab = shared_accepted A B a b f in
        let bc = shared_accepted B C b c g in
        shared_same (shared_words pool A B) C A (shared_words pool B C)
        (shared_first A B C a b c ab
        ∙ sharing_same (shared_sets pool A B) (sets_of C) (sets_of A) (shared_sets pool B C)
        (both A B a b) (fine_of C c) (fine_of A a) (both B C b c)
        (rw (both_ivs A B a b, both_ivs B C b c) (intervals.shared_assoc (spans A) (spans B) (spans C)))
        ∙ sym (shared_second B C A b c a bc))

    -- A without B then C is A without C then B
    pub without_swap : Fits (only_items pool A B) → Fits (only_items pool A C)
        → SameItems pool (without_words pool (without_words pool A B) C) (without_words pool (without_words pool A C) B)
    without_swap f g =
        let ab = without_accepted A B a b f in
        let ac = without_accepted A C a c g in
        without_same (without_words pool A B) C (without_words pool A C) B
        (without_first A B C a b c ab
        ∙ keeping_same (only_sets pool A B) (sets_of C) (only_sets pool A C) (sets_of B)
        (only A B a b) (fine_of C c) (only A C a c) (fine_of B b)
        (rw (only_ivs A B a b, only_ivs A C a c) (intervals.without_swap (spans A) (spans B) (spans C) (strict_of B b) (strict_of C c)))
        ∙ sym (without_first A C B a c b ac))
