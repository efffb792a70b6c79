-- The positions of the pairs that `from_query_items` writes are the covered ones, in order. Assumes nothing.
use Prim.Native.Nat.{ℕ, ◌+◌}
use mathlib.Core.Path.{◌≡◌, sym, ◌∙◌}
use mathlib.Core.Bool.{◌&&◌}
use mathlib.Core.List.{List}
use native.Mathlib.Decide.{dec_lt}
use native.Mathlib.Omega.{arith}
use borrow.Author.Tests.{le-ltb}
use Rattle.intervals.specs.Lists.{keep}
use Rattle.intervals.specs.Intervals.{inside}
use Rattle.intervals.proofs.Members.{inside_yes, inside_past}
use Rattle.intervals.proofs.Laws.{canonical→strict}
use Rattle.query_item.specs.declared.ItemWords.{ItemWords}
use Rattle.item_check.specs.Checks.{items_of}
use Rattle.pairs_sort.specs.Pairs.{pairs, CanonicalPairs}
use Rattle.position_given.specs.Positions.{count_up, positions_of}
use Rattle.position_query.specs.Covered.{covered, ranges_needed}
use Rattle.position_given.proofs.Positions.{in_keep, in_count, in_positions, ascends_keep, ascends_count, ascends_positions, ascends_unique}

-- what is covered stands below the count
covered_below : (pool : List ℕ) (its : List ItemWords) (count p : ℕ)
    → inside 0 (0 + count) p && covered pool its count p ≡ covered pool its count p
unfolding covered
covered_below pool its count p = elim (dec_lt p count) [
  | yes h ↦ rw (inside_yes 0 (0 + count) p (omega arith) (omega arith))
  | no h ↦ rw (inside_past 0 (0 + count) p (omega arith), le-ltb p count (omega arith))
]

pub covered_positions : (pool ws : List ℕ) (count : ℕ) (old new : List ℕ) (m : ℕ)
    → CanonicalPairs (covered pool (items_of ws) count) (ranges_needed pool count (items_of ws)) old new m
    → positions_of (pairs new m) ≡ keep (covered pool (items_of ws) count) (count_up 0 count)
covered_positions pool ws count old new m C =
    let f = covered pool (items_of ws) count in
    ascends_unique 0 0 (positions_of (pairs new m)) (keep f (count_up 0 count))
    (ascends_positions 0 (pairs new m) (canonical→strict (pairs new m) C.canonical))
    (ascends_keep 0 f (count_up 0 count) (ascends_count 0 count))
    (λ p. in_positions (pairs new m) p
    ∙ C.holding p
    ∙ sym (in_keep f (count_up 0 count) p ∙ rw (in_count 0 count p) (covered_below pool (items_of ws) count p)))
