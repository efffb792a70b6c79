-- The three lists go by what the given lists show: kind, wrapper and key bytes, whatever pool the keys stand in. Ranges are seen as their
-- boundaries (Seen.antt of `query_item`), which tell what is shared, what is left over, what holds no key, and the items that are written.
-- Ranges that are the same as intervals are seen the same, and so are written as the same items. Assumes nothing.
use Rattle.query_item.specs.declared.QueryItem.{QueryItem}
use Rattle.std.specs.Prelude.{Option, None, Some, Ok}
use Prim.Native.Nat.{ℕ, ◌+◌, ◌≤◌}
use mathlib.Core.Path.{◌≡◌, refl, sym, ap, ap₂, ◌∙◌}
use mathlib.Core.List.{List, [], ◌∷◌, ◌++◌, map, map-append, map-map, flat_map}
use Rattle.key_order.proofs.Line.{size}
use Rattle.key_order.proofs.Ranks.{rank}
use Rattle.query_item.specs.declared.RangeSet.{RangeSet}
use Rattle.query_item.specs.Items.{shown, SameShown}
use Rattle.query_item.specs.Boundaries.{to_query_item}
use Rattle.query_item.proofs.Laws.{Sides, seen, told_item, shown_item, item_seen, ranges_seen, length_shown, same_seen}
use Rattle.intervals.specs.Intervals.{Interval}
use Rattle.intervals.specs.Lists.{shared_of, without_of}
use Rattle.intervals.proofs.Laws.{All, all_of, map_shared, map_without}
use Rattle.item_check.specs.Checks.{and_then, items_of}
use Rattle.item_lists.specs.Written.{as_items}
use Rattle.keyless.specs.Keyless.{keyed}
use Rattle.keyless.proofs.Laws.{keyed_sides, keyed_seen}
use Rattle.intersect.specs.Pair.{meet_sets, left_over, right_over}
use Rattle.intersect.proofs.Seen.{meet_sides, left_sides, right_sides, meet_seen, left_seen, right_seen}
use Rattle.intersect_many.specs.declared.ManyCounts.{ManyCounts}
use Rattle.intersect_many.specs.Lists.{sets_of, shared_sets, cut_sets, only_sets, convert_all, keyed_items, shared_items, only_items}
use Rattle.intersect_many.specs.Lists.{lists_verdict, lists_room_verdict, counts_of, many_answer}
use Rattle.intersect_many.proofs.Carried.{iv}

-- ---- lists of ranges, seen as boundaries

abbrev cut_sides : Sides → Sides → List Sides
cut_sides a b = left_sides a b ++ right_sides a b

module _ (pool : List ℕ) where
  cut_seen : (a b : RangeSet) → map (seen pool) (cut_sets pool a b) ≡ cut_sides (seen pool a) (seen pool b)
  cut_seen a b = map-append (seen pool) (left_over pool a b) (right_over pool a b) ∙ ap₂ ◌++◌ (left_seen pool a b) (right_seen pool a b)

  any : (S : List RangeSet) → All (λ s. Unit {0}) S
  any S = all_of (λ s. Unit {0}) S (λ s. tt)

  shared_seen : (S T : List RangeSet) → map (seen pool) (shared_of (meet_sets pool) S T) ≡ shared_of meet_sides (map (seen pool) S) (map (seen pool) T)
  shared_seen S T = map_shared (seen pool) (seen pool) (λ s. Unit {0}) (meet_sets pool) meet_sides (λ a b p q. meet_seen pool a b) S T (any S) (any T)

  without_seen : (S T : List RangeSet) → map (seen pool) (without_of (cut_sets pool) S T) ≡ without_of cut_sides (map (seen pool) S) (map (seen pool) T)
  without_seen S T =
      map_without (seen pool) (λ s. Unit {0}) (cut_sets pool) cut_sides (λ a b p q. any (cut_sets pool a b)) (λ a b p q. cut_seen a b) S T (any S) (any T)

  -- the items that are written
  items_seen : (S : List RangeSet) → map (shown pool) (convert_all pool S) ≡ flat_map told_item (map (seen pool) S)
  unfolding convert_all flat_map
  items_seen [] = refl
  items_seen (s ∷ S) =
      map-append (shown pool) (as_items (to_query_item pool s)) (convert_all pool S)
      ∙ ap₂ ◌++◌ (one (to_query_item pool s) ∙ item_seen pool s) (items_seen S)
    where
      one : (m : Option QueryItem) → map (shown pool) (as_items m) ≡ shown_item pool m
      one None = refl
      one (Some q) = refl

  keyed_items_seen : (S : List RangeSet) → map (shown pool) (keyed_items pool S) ≡ flat_map told_item (keyed_sides (map (seen pool) S))
  unfolding keyed_items
  keyed_items_seen S = items_seen (keyed pool S) ∙ ap (flat_map told_item) (keyed_seen pool S)

-- ---- of lists that show the same, of one pool or of two

module _ (P Q : List ℕ) where
  result_shown : (S T : List RangeSet) → map (seen P) S ≡ map (seen Q) T → SameShown P Q (keyed_items P S) (keyed_items Q T)
  result_shown S T e = keyed_items_seen P S ∙ ap (λ (L : List Sides). flat_map told_item (keyed_sides L)) e ∙ sym (keyed_items_seen Q T)

  module _ (A B A' B' : List ℕ) (a : SameShown P Q (items_of A) (items_of A'))
      (b : SameShown P Q (items_of B) (items_of B')) where
    ours : map (seen P) (sets_of A) ≡ map (seen Q) (sets_of A')
    ours = ranges_seen P Q (items_of A) (items_of A') a

    theirs : map (seen P) (sets_of B) ≡ map (seen Q) (sets_of B')
    theirs = ranges_seen P Q (items_of B) (items_of B') b

    -- what is shared shows the same
    pub shared_shown : SameShown P Q (shared_items P A B) (shared_items Q A' B')
    unfolding shared_items
    shared_shown =
        result_shown (shared_sets P A B) (shared_sets Q A' B')
        (shared_seen P (sets_of A) (sets_of B) ∙ ap₂ (shared_of meet_sides) ours theirs ∙ sym (shared_seen Q (sets_of A') (sets_of B')))

    -- and so does what ours keeps without theirs; with sides exchanged, what theirs keeps without ours
    pub only_shown : SameShown P Q (only_items P A B) (only_items Q A' B')
    unfolding only_items
    only_shown =
        result_shown (only_sets P A B) (only_sets Q A' B')
        (without_seen P (sets_of A) (sets_of B) ∙ ap₂ (without_of cut_sides) ours theirs ∙ sym (without_seen Q (sets_of A') (sets_of B')))

  module _ (A B A' B' : List ℕ) (a : SameShown P Q (items_of A) (items_of A'))
      (b : SameShown P Q (items_of B) (items_of B')) where
    counts_shown : counts_of P A B ≡ counts_of Q A' B'
    counts_shown =
        let e = length_shown P Q (shared_items P A B) (shared_items Q A' B') (shared_shown A B A' B' a b) in
        let f = length_shown P Q (only_items P A B) (only_items Q A' B') (only_shown A B A' B' a b) in
        let g = length_shown P Q (only_items P B A) (only_items Q B' A') (only_shown B A B' A' b a) in
        λ i. record { shared = e i; ours = f i; theirs = g i }

    -- The call gives the same answer, in any room. That the verdicts are the same is a premise, since what a list shows does not tell the size of
    -- its pool, words after the last whole item, whether a key reaches past the pool, or whether the words of an absent key are 0
    pub many_answer_shown : lists_verdict P A B ≡ lists_verdict Q A' B' → (shared_out ours_out theirs_out : List ℕ)
        → many_answer P A B shared_out ours_out theirs_out ≡ many_answer Q A' B' shared_out ours_out theirs_out
    many_answer_shown v shared_out ours_out theirs_out =
        rw v (ap (λ (m : ManyCounts). and_then (lists_verdict Q A' B') (and_then (lists_room_verdict m shared_out ours_out theirs_out) (Ok m))) counts_shown)

-- ---- of ranges that are the same as intervals

module _ (pool : List ℕ) (n : ℕ) (fits : size pool ≤ n) where
  -- the same ones are without a key
  pub same_keyed : (S T : List RangeSet) → map (iv pool n fits) S ≡ map (iv pool n fits) T
      → map (iv pool n fits) (keyed pool S) ≡ map (iv pool n fits) (keyed pool T)
  same_keyed S T e =
      sym (map-map ranks (seen pool) (keyed pool S))
      ∙ ap (map ranks) (keyed_seen pool S ∙ ap keyed_sides (same_seen pool n fits S T e) ∙ sym (keyed_seen pool T))
      ∙ map-map ranks (seen pool) (keyed pool T)
    where
      ranks : Sides → Interval
      ranks b = (rank n b.0, rank n b.1 + 1)

  -- and the items are the same
  pub same_shown : (S T : List RangeSet) → map (iv pool n fits) S ≡ map (iv pool n fits) T
      → SameShown pool pool (convert_all pool S) (convert_all pool T)
  same_shown S T e = items_seen pool S ∙ ap (flat_map told_item) (same_seen pool n fits S T e) ∙ sym (items_seen pool T)
