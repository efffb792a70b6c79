-- The item between two boundaries, in three cases: a key, where both are inclusive and their bytes the same; an item whose own boundaries these
-- are; and none, where the first cannot start a range or the second cannot end one. Assumes nothing.
use Rattle.std.specs.Prelude.{Option, None, Some}
use Prim.Native.Nat.{ℕ}
use mathlib.Core.Path.{◌≡◌, refl}
use mathlib.Core.Bool.{Bool, true, false, cond}
use mathlib.Core.List.{List}
use Rattle.query_item.specs.declared.KeyAt.{KeyAt}
use Rattle.query_item.specs.declared.QueryItem.{QueryItem}
use Rattle.query_item.specs.declared.QueryItem.TheVariants.{
  Key,
  Range,
  RangeInclusive,
  RangeFull,
  RangeFrom,
  RangeTo,
  RangeToInclusive,
  RangeAfter,
  RangeAfterTo,
  RangeAfterToInclusive,
}
use Rattle.query_item.specs.declared.RangeSetItem.{RangeSetItem}
use Rattle.query_item.specs.declared.RangeSetItem.TheVariants.{UnboundedStart, UnboundedEnd, Inclusive, ExclusiveStart, ExclusiveEnd}
use Rattle.query_item.specs.Items.{bytes_of, same}
use Rattle.query_item.specs.Boundaries.{to_range_set, item_between, to_query_item}

-- boundaries that a range can start with, and end with

abbrev pub Starts : RangeSetItem → Type 0
Starts UnboundedStart = Unit {0}
Starts UnboundedEnd = ⊥
Starts (Inclusive k) = Unit {0}
Starts (ExclusiveStart k) = Unit {0}
Starts (ExclusiveEnd k) = ⊥

abbrev pub Ends : RangeSetItem → Type 0
Ends UnboundedStart = ⊥
Ends UnboundedEnd = Unit {0}
Ends (Inclusive k) = Unit {0}
Ends (ExclusiveStart k) = ⊥
Ends (ExclusiveEnd k) = Unit {0}

-- those of an item do
pub item_sides : (q : QueryItem) → Starts (to_range_set q).start × Ends (to_range_set q).end
item_sides (Key a) = (tt, tt)
item_sides (Range a b) = (tt, tt)
item_sides (RangeInclusive a b) = (tt, tt)
item_sides RangeFull = (tt, tt)
item_sides (RangeFrom a) = (tt, tt)
item_sides (RangeTo b) = (tt, tt)
item_sides (RangeToInclusive b) = (tt, tt)
item_sides (RangeAfter a) = (tt, tt)
item_sides (RangeAfterTo a b) = (tt, tt)
item_sides (RangeAfterToInclusive a b) = (tt, tt)

-- what holds in the three cases holds of what two boundaries make
pub each_between : (pool : List ℕ) (P : RangeSetItem → RangeSetItem → Option QueryItem → Type 0)
    → ((a b : KeyAt) → same (bytes_of pool a) (bytes_of pool b) ≡ true → P (Inclusive a) (Inclusive b) (Some (Key a)))
    → ((q : QueryItem) → to_query_item pool (to_range_set q) ≡ Some q → P (to_range_set q).start (to_range_set q).end (Some q))
    → ((s e : RangeSetItem) → (Starts s → Ends e → ⊥) → P s e None)
    → (s e : RangeSetItem) → P s e (item_between pool s e)
each_between pool P key own none (Inclusive a) (Inclusive b) = go (same (bytes_of pool a) (bytes_of pool b)) refl
  where
    go : (t : Bool) → same (bytes_of pool a) (bytes_of pool b) ≡ t
        → P (Inclusive a) (Inclusive b) (cond t (Some (Key a)) (Some (RangeInclusive a b)))
    go true e = key a b e
    go false e = own (RangeInclusive a b) (rw e)
each_between pool P key own none (Inclusive a) (ExclusiveEnd b) = own (Range a b) refl
each_between pool P key own none (Inclusive a) UnboundedEnd = own (RangeFrom a) refl
each_between pool P key own none (Inclusive a) UnboundedStart = none _ _ (λ h k. k)
each_between pool P key own none (Inclusive a) (ExclusiveStart b) = none _ _ (λ h k. k)
each_between pool P key own none (ExclusiveStart a) (Inclusive b) = own (RangeAfterToInclusive a b) refl
each_between pool P key own none (ExclusiveStart a) (ExclusiveEnd b) = own (RangeAfterTo a b) refl
each_between pool P key own none (ExclusiveStart a) UnboundedEnd = own (RangeAfter a) refl
each_between pool P key own none (ExclusiveStart a) UnboundedStart = none _ _ (λ h k. k)
each_between pool P key own none (ExclusiveStart a) (ExclusiveStart b) = none _ _ (λ h k. k)
each_between pool P key own none UnboundedStart (Inclusive b) = own (RangeToInclusive b) refl
each_between pool P key own none UnboundedStart (ExclusiveEnd b) = own (RangeTo b) refl
each_between pool P key own none UnboundedStart UnboundedEnd = own RangeFull refl
each_between pool P key own none UnboundedStart UnboundedStart = none _ _ (λ h k. k)
each_between pool P key own none UnboundedStart (ExclusiveStart b) = none _ _ (λ h k. k)
each_between pool P key own none UnboundedEnd e = none _ _ (λ h k. h)
each_between pool P key own none (ExclusiveEnd a) e = none _ _ (λ h k. h)
