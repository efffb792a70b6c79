-- A range of a pool, seen as its two boundaries with their key bytes: which of two is the smaller, what `invert` makes of one, the item that two
-- of them make, and the ranges of items that show the same, of one pool or of two. Assumes nothing.
use Rattle.query_item.specs.declared.QueryItem.{QueryItem}
use Rattle.std.specs.Prelude.{Option, None, Some}
use Rattle.std.specs.declared.cmp.Ordering.{Ordering}
use Rattle.std.specs.declared.cmp.Ordering.TheVariants.{Less, Equal, Greater}
use Prim.Native.Nat.{ℕ}
use mathlib.Core.Path.{◌≡◌, refl, ap, ap₂}
use mathlib.Core.Bool.{Bool, true, false, cond, ◌&&◌}
use mathlib.Core.List.{List, [], ◌∷◌, map}
use native.Mathlib.Omega.{arith}
use lib.ListN.{length}
use Rattle.key_order.specs.Order.{smaller}
use Rattle.key_order.specs.Boundary.{exclusive_end, inclusive, exclusive_start, Boundary, unbounded_start, unbounded_end, at_key}
use Rattle.query_item.specs.declared.ItemWords.{ItemWords}
use Rattle.query_item.specs.declared.RangeSetItem.{RangeSetItem}
use Rattle.query_item.specs.declared.RangeSetItem.TheVariants.{UnboundedStart, UnboundedEnd, Inclusive, ExclusiveStart, ExclusiveEnd}
use Rattle.query_item.specs.declared.RangeSet.{RangeSet}
use Rattle.query_item.specs.Items.{words_of, Shown, shown}
use Rattle.query_item.specs.Boundaries.{boundary_of, invert_of, range_of, item_between, to_query_item}
use Rattle.query_item.proofs.Told.{told, Tells, item_told, shown_range}

-- a start and an end
abbrev pub Sides : Type 0
Sides = Boundary × Boundary

abbrev pub seen : List ℕ → RangeSet → Sides
seen pool s = (boundary_of pool s.start, boundary_of pool s.end)

-- `invert`, of a boundary with its bytes
abbrev pub inverted : Boundary → Bool → Boundary
inverted unbounded_start side = unbounded_start
inverted unbounded_end side = unbounded_end
inverted (at_key k exclusive_end) side = at_key k inclusive
inverted (at_key k inclusive) side = at_key k (cond side exclusive_start exclusive_end)
inverted (at_key k exclusive_start) side = at_key k inclusive

-- what the item that two boundaries make shows; where they make none, nothing

abbrev is_start : Boundary → Bool
is_start unbounded_start = true
is_start unbounded_end = false
is_start (at_key k exclusive_end) = false
is_start (at_key k inclusive) = true
is_start (at_key k exclusive_start) = true

abbrev is_end : Boundary → Bool
is_end unbounded_start = false
is_end unbounded_end = true
is_end (at_key k exclusive_end) = true
is_end (at_key k inclusive) = true
is_end (at_key k exclusive_start) = false

abbrev pub told_item : Sides → List Shown
told_item b = cond (is_start b.0 && is_end b.1) (told b.0 b.1 ∷ []) []

abbrev pub shown_item : List ℕ → Option QueryItem → List Shown
shown_item pool None = []
shown_item pool (Some q) = shown pool (words_of 0 q) ∷ []

module _ (pool : List ℕ) where
  pub smaller_seen : (o : Ordering) (x y : RangeSetItem) → boundary_of pool (smaller o x y) ≡ smaller o (boundary_of pool x) (boundary_of pool y)
  smaller_seen Less x y = refl
  smaller_seen Equal x y = refl
  smaller_seen Greater x y = refl

  pub invert_seen : (x : RangeSetItem) (side : Bool) → boundary_of pool (invert_of x side) ≡ inverted (boundary_of pool x) side
  invert_seen UnboundedStart side = refl
  invert_seen UnboundedEnd side = refl
  invert_seen (Inclusive k) true = refl
  invert_seen (Inclusive k) false = refl
  invert_seen (ExclusiveStart k) side = refl
  invert_seen (ExclusiveEnd k) side = refl

  pub item_seen : (s : RangeSet) → shown_item pool (to_query_item pool s) ≡ told_item (seen pool s)
  item_seen s = go s.start s.end
    where
      some : (m : Option QueryItem) (s e : RangeSetItem) → Tells pool s e m → shown_item pool m ≡ told (boundary_of pool s) (boundary_of pool e) ∷ []
      some None s e t = absurd t
      some (Some q) s e t = ap (λ (h : Shown). h ∷ []) t

      go : (s e : RangeSetItem) → shown_item pool (item_between pool s e) ≡ told_item (boundary_of pool s, boundary_of pool e)
      go (Inclusive a) (Inclusive b) =
          some (item_between pool (Inclusive a) (Inclusive b)) (Inclusive a) (Inclusive b) (item_told pool (Inclusive a) (Inclusive b) tt tt)
      go (Inclusive a) (ExclusiveEnd b) = refl
      go (Inclusive a) UnboundedEnd = refl
      go (Inclusive a) UnboundedStart = refl
      go (Inclusive a) (ExclusiveStart b) = refl
      go (ExclusiveStart a) (Inclusive b) = refl
      go (ExclusiveStart a) (ExclusiveEnd b) = refl
      go (ExclusiveStart a) UnboundedEnd = refl
      go (ExclusiveStart a) UnboundedStart = refl
      go (ExclusiveStart a) (ExclusiveStart b) = refl
      go UnboundedStart (Inclusive b) = refl
      go UnboundedStart (ExclusiveEnd b) = refl
      go UnboundedStart UnboundedEnd = refl
      go UnboundedStart UnboundedStart = refl
      go UnboundedStart (ExclusiveStart b) = refl
      go UnboundedEnd e = refl
      go (ExclusiveEnd a) e = refl

-- items that show the same have ranges that are seen the same
pub ranges_seen : (P Q : List ℕ) (A B : List ItemWords) → map (shown P) A ≡ map (shown Q) B → map (seen P) (map range_of A) ≡ map (seen Q) (map range_of B)
ranges_seen P Q [] [] e = refl
ranges_seen P Q [] (b ∷ B) e = absurd (omega (arith, ap length e))
ranges_seen P Q (a ∷ A) [] e = absurd (omega (arith, ap length e))
ranges_seen P Q (a ∷ A) (b ∷ B) e =
    let r = shown_range P Q a b cc in
    ap₂ ◌∷◌ (ap₂ (λ (s e : Boundary). (s, e)) r.0 r.1) (ranges_seen P Q A B cc)
