-- A boundary is made of its kind and its key. Assumes nothing.
use mathlib.Core.Path.{◌≡◌, refl, sym, ap₂, ◌∙◌}
use Rattle.boundary.proofs.Rungs.{rung_apart}
use Rattle.boundary.specs.Rungs.{rung}
use Rattle.query_item.specs.declared.RangeSetItem.{RangeSetItem}
use Rattle.query_item.specs.declared.RangeSetItem.TheVariants.{UnboundedStart, UnboundedEnd, Inclusive, ExclusiveStart, ExclusiveEnd}
use Rattle.query_item.specs.Boundaries.{kind_of, key_of, with_key}

pub with_own_key : (x : RangeSetItem) → with_key (kind_of x) (key_of x) ≡ x
with_own_key UnboundedStart = refl
with_own_key UnboundedEnd = refl
with_own_key (Inclusive k) = refl
with_own_key (ExclusiveStart k) = refl
with_own_key (ExclusiveEnd k) = refl

-- of the same rung and the same key there is one
pub same_made : (x y : RangeSetItem) → rung (kind_of x) ≡ rung (kind_of y) → key_of x ≡ key_of y → x ≡ y
same_made x y p q = sym (with_own_key x) ∙ ap₂ with_key (rung_apart (kind_of x) (kind_of y) p) q ∙ with_own_key y
