-- Pieces as items: one list of them after another, and no more than one item a turn. Assumes nothing.
use Rattle.std.specs.Prelude.{None}
use Rattle.std.specs.Ordering.{is_lt}
use Prim.Native.Nat.{ℕ, ◌≤◌}
use mathlib.Core.Path.{◌≡◌, refl, ap, ◌∙◌}
use mathlib.Core.Bool.{Bool, true, false, cond, not}
use mathlib.Core.List.{List, [], ◌∷◌, ◌++◌, append_assoc, append-nil}
use native.Mathlib.Omega.{arith}
use lib.ListN.{length}
use Rattle.intervals.specs.Lists.{keep}
use Rattle.intervals.proofs.Laws.{keep_append}
use Rattle.query_item.specs.declared.RangeSet.{RangeSet}
use Rattle.query_item.specs.Boundaries.{compare_in, invert_of, from_to, to_query_item}
use Rattle.keyless.specs.Keyless.{keyless, keyed, piece_item}
use Rattle.item_lists.specs.Written.{as_items, Put}
use Rattle.item_lists.proofs.Written.{at_most_one, put_none}
use Rattle.intersect.specs.Pair.{before, disjoint, overlap, meet_sets, left_part, left_over}
use Rattle.intersect_many.specs.Lists.{convert_all, keyed_items}

convert_append : (pool : List ℕ) (S T : List RangeSet) → convert_all pool (S ++ T) ≡ convert_all pool S ++ convert_all pool T
unfolding convert_all
convert_append pool [] T = refl
convert_append pool (s ∷ S) T = rw (convert_append pool S T, append_assoc)

pub keyed_append : (pool : List ℕ) (S T : List RangeSet) → keyed_items pool (S ++ T) ≡ keyed_items pool S ++ keyed_items pool T
unfolding keyed_items
keyed_append pool S T = ap (convert_all pool) (keep_append (λ s. not (keyless pool s)) S T) ∙ convert_append pool (keyed pool S) (keyed pool T)

-- no range, one and more, as items
pub keyed_none : (pool : List ℕ) → keyed_items pool [] ≡ []
unfolding keyed_items keep convert_all
keyed_none pool = refl

pub keyed_cons : (pool : List ℕ) (s : RangeSet) (S : List RangeSet) → keyed_items pool (s ∷ S) ≡ as_items (piece_item pool s) ++ keyed_items pool S
unfolding keyed_items keep convert_all
keyed_cons pool s S = go (keyless pool s)
  where
    go : (t : Bool) → convert_all pool (cond (not t) (s ∷ keyed pool S) (keyed pool S)) ≡ as_items (cond t None (to_query_item pool s)) ++ convert_all pool (keyed pool S)
    go true = refl
    go false = refl

pub keyed_one : (pool : List ℕ) (s : RangeSet) → keyed_items pool (s ∷ []) ≡ as_items (piece_item pool s)
keyed_one pool s = keyed_cons pool s [] ∙ rw (keyed_none pool) (append-nil (as_items (piece_item pool s)))

pub put_none_keyed : (pool out : List ℕ) (n : ℕ) → Put out n (keyed_items pool []) out n
put_none_keyed pool out n = rw (keyed_none pool) (put_none out n)

-- ---- a turn makes at most one item for each list

one_or : (pool : List ℕ) (t : Bool) (s : RangeSet) (S : List RangeSet) → length (keyed_items pool S) ≤ 1 → length (keyed_items pool (cond t (s ∷ []) S)) ≤ 1
one_or pool true s S h = rw (keyed_one pool s) (at_most_one (piece_item pool s))
one_or pool false s S h = h

none_or : (pool : List ℕ) (t : Bool) (S : List RangeSet) → length (keyed_items pool S) ≤ 1 → length (keyed_items pool (cond t [] S)) ≤ 1
none_or pool true S h = rw (keyed_none pool) (omega arith)
none_or pool false S h = h

no_item : (pool : List ℕ) → length (keyed_items pool []) ≤ 1
no_item pool = rw (keyed_none pool) (omega arith)

pub meet_few : (pool : List ℕ) (a b : RangeSet) → length (keyed_items pool (meet_sets pool a b)) ≤ 1
unfolding meet_sets
meet_few pool a b = none_or pool (disjoint pool a b) (overlap pool a b ∷ []) (one_or pool true (overlap pool a b) [] (no_item pool))

pub left_few : (pool : List ℕ) (a b : RangeSet) → length (keyed_items pool (left_over pool a b)) ≤ 1
unfolding left_over
left_few pool a b =
    one_or pool (before pool a b) a (cond (before pool b a) [] (left_part pool a b))
    (none_or pool (before pool b a) (left_part pool a b)
    (one_or pool (is_lt (compare_in pool a.start b.start)) (from_to a.start (invert_of b.start false)) [] (no_item pool)))
