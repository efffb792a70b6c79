-- What an item shows, told by its boundaries: a start and an end make an item, which has the kind and the key bytes that these have; and
-- items that show the same have the same boundaries. Assumes nothing.
use Rattle.std.specs.Prelude.{Option, None, Some}
use Prim.Native.Nat.{ℕ}
use mathlib.Core.Path.{◌≡◌, refl, ap}
use mathlib.Core.Bool.{Bool, true, false, cond}
use mathlib.Core.List.{List, []}
use Rattle.key_order.specs.Boundary.{exclusive_end, inclusive, exclusive_start, Boundary, unbounded_start, unbounded_end, at_key}
use Rattle.key_order.proofs.Laws.{compare_same}
use Rattle.query_item.specs.declared.KeyAt.{KeyAt}
use Rattle.query_item.specs.declared.ItemWords.{ItemWords}
use Rattle.query_item.specs.declared.QueryItem.{QueryItem}
use Rattle.query_item.specs.declared.QueryItem.TheVariants.{
  Key,
  Range,
  RangeInclusive,
  RangeFull,
  RangeFrom,
  RangeTo,
  RangeToInclusive,
  RangeAfter,
  RangeAfterTo,
  RangeAfterToInclusive,
}
use Rattle.query_item.specs.declared.RangeSetItem.{RangeSetItem}
use Rattle.query_item.specs.Items.{bytes_of, item_of, words_of, query_item, same, Shown, shown}
use Rattle.query_item.specs.Boundaries.{boundary_of, to_range_set, item_between, to_query_item}
use Rattle.query_item.proofs.Words.{each_item, unknown_item}
use Rattle.query_item.proofs.Between.{Starts, Ends, each_between}

-- ---- the table, by boundaries

-- the full range; it fills the places, too, that no start and no end have
abbrev full : Shown
full = (3, 0, [], [])

abbrev to_end : Boundary → Shown
to_end unbounded_start = full
to_end unbounded_end = full
to_end (at_key b exclusive_end) = (5, 0, [], b)
to_end (at_key b inclusive) = (6, 0, [], b)
to_end (at_key b exclusive_start) = full

abbrev from_key : List ℕ → Boundary → Shown
from_key a unbounded_start = full
from_key a unbounded_end = (4, 0, a, [])
from_key a (at_key b exclusive_end) = (1, 0, a, b)
from_key a (at_key b inclusive) = cond (same a b) (0, 0, a, []) (2, 0, a, b)
from_key a (at_key b exclusive_start) = full

abbrev after_key : List ℕ → Boundary → Shown
after_key a unbounded_start = full
after_key a unbounded_end = (7, 0, a, [])
after_key a (at_key b exclusive_end) = (8, 0, a, b)
after_key a (at_key b inclusive) = (9, 0, a, b)
after_key a (at_key b exclusive_start) = full

abbrev pub told : Boundary → Boundary → Shown
told unbounded_start e = to_end e
told unbounded_end e = full
told (at_key a exclusive_end) e = full
told (at_key a inclusive) e = from_key a e
told (at_key a exclusive_start) e = after_key a e

-- ---- conversion

module _ (pool : List ℕ) where
  -- there is an item, and it shows what two boundaries tell
  abbrev pub Tells : RangeSetItem → RangeSetItem → Option QueryItem → Type 0
  Tells s e None = ⊥
  Tells s e (Some q) = shown pool (words_of 0 q) ≡ told (boundary_of pool s) (boundary_of pool e)

  own_told : (q : QueryItem) → to_query_item pool (to_range_set q) ≡ Some q → Tells (to_range_set q).start (to_range_set q).end (Some q)
  own_told (Key a) i = rw ((compare_same (bytes_of pool a) (bytes_of pool a)).1 refl)
  own_told (Range a b) i = refl
  own_told (RangeInclusive a b) i = go (same (bytes_of pool a) (bytes_of pool b)) i
    where
      go : (t : Bool) → cond t (Some (Key a)) (Some (RangeInclusive a b)) ≡ Some (RangeInclusive a b)
          → shown pool (words_of 0 (RangeInclusive a b)) ≡ cond t (0, 0, bytes_of pool a, []) (2, 0, bytes_of pool a, bytes_of pool b)
      go true e = cc
      go false e = refl
  own_told RangeFull i = refl
  own_told (RangeFrom a) i = refl
  own_told (RangeTo b) i = refl
  own_told (RangeToInclusive b) i = refl
  own_told (RangeAfter a) i = refl
  own_told (RangeAfterTo a b) i = refl
  own_told (RangeAfterToInclusive a b) i = refl

  pub item_told : (s e : RangeSetItem) → Starts s → Ends e → Tells s e (item_between pool s e)
  item_told =
      each_between pool (λ s e m. Starts s → Ends e → Tells s e m)
      (λ a b t h k. rw t)
      (λ q i h k. own_told q i)
      (λ s e no h k. no h k)

-- ---- items that show the same, of one pool or of two, have the same boundaries

module _ (P Q : List ℕ) where
  abbrev Alike : QueryItem → QueryItem → Type 0
  Alike x y =
      (boundary_of P (to_range_set x).start ≡ boundary_of Q (to_range_set y).start)
      × (boundary_of P (to_range_set x).end ≡ boundary_of Q (to_range_set y).end)

  alike : (c : ℕ) (a b d e : KeyAt) → bytes_of P a ≡ bytes_of Q d → bytes_of P b ≡ bytes_of Q e → Alike (item_of c a b) (item_of c d e)
  alike c a b d e p q =
      each_item a b (λ c x. Alike x (item_of c d e))
      (cc, cc)
      (cc, cc)
      (cc, cc)
      (refl, refl)
      (cc, refl)
      (refl, cc)
      (refl, cc)
      (cc, refl)
      (cc, cc)
      (cc, cc)
      (λ c h. rw (unknown_item d e c h) (refl, refl))
      c

  pub shown_range : (x y : ItemWords) → shown P x ≡ shown Q y → Alike (query_item x) (query_item y)
  shown_range x y e =
      rw (ap (λ (s : Shown). s.0) e)
      (alike y.code x.start x.end y.start y.end (ap (λ (s : Shown). s.2) e) (ap (λ (s : Shown). s.3) e))
