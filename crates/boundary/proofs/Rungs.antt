-- The order of boundaries by their keys and the rungs of their kinds. Assumes nothing.
use Rattle.std.specs.declared.cmp.Ordering.TheVariants.{Equal}
use Prim.Native.Nat.{ℕ, zero, suc}
use mathlib.Core.Path.{◌≡◌, refl, sym, ap, ◌∙◌}
use mathlib.Core.List.{List}
use mathlib.Core.Bool.{true, false, ◌&&◌, cond}
use Rattle.key_order.specs.Order.{compare_numbers, compare_keys, then_by}
use Rattle.key_order.specs.Boundary.{compare_boundaries}
use Rattle.boundary.specs.declared.BoundaryKind.{BoundaryKind}
use Rattle.boundary.specs.declared.BoundaryKind.TheVariants.{UnboundedStart, UnboundedEnd, Inclusive, ExclusiveStart, ExclusiveEnd}
use Rattle.boundary.specs.contracts.BoundaryKindOrd.TheImpl as derived
use Rattle.boundary.specs.Kinds.{boundary}
use Rattle.boundary.specs.Rungs.{rung, bounded}

pub compare_by_rungs : (k l : BoundaryKind) (a b : List ℕ)
    → compare_boundaries (boundary k a) (boundary l b)
    ≡ then_by (cond (bounded (rung k) && bounded (rung l)) (compare_keys a b) Equal) (compare_numbers (rung k) (rung l))
unfolding compare_boundaries compare_numbers
compare_by_rungs UnboundedStart UnboundedStart a b = refl
compare_by_rungs UnboundedStart UnboundedEnd a b = refl
compare_by_rungs UnboundedStart Inclusive a b = refl
compare_by_rungs UnboundedStart ExclusiveStart a b = refl
compare_by_rungs UnboundedStart ExclusiveEnd a b = refl
compare_by_rungs UnboundedEnd UnboundedStart a b = refl
compare_by_rungs UnboundedEnd UnboundedEnd a b = refl
compare_by_rungs UnboundedEnd Inclusive a b = refl
compare_by_rungs UnboundedEnd ExclusiveStart a b = refl
compare_by_rungs UnboundedEnd ExclusiveEnd a b = refl
compare_by_rungs Inclusive UnboundedStart a b = refl
compare_by_rungs Inclusive UnboundedEnd a b = refl
compare_by_rungs Inclusive Inclusive a b = refl
compare_by_rungs Inclusive ExclusiveStart a b = refl
compare_by_rungs Inclusive ExclusiveEnd a b = refl
compare_by_rungs ExclusiveStart UnboundedStart a b = refl
compare_by_rungs ExclusiveStart UnboundedEnd a b = refl
compare_by_rungs ExclusiveStart Inclusive a b = refl
compare_by_rungs ExclusiveStart ExclusiveStart a b = refl
compare_by_rungs ExclusiveStart ExclusiveEnd a b = refl
compare_by_rungs ExclusiveEnd UnboundedStart a b = refl
compare_by_rungs ExclusiveEnd UnboundedEnd a b = refl
compare_by_rungs ExclusiveEnd Inclusive a b = refl
compare_by_rungs ExclusiveEnd ExclusiveStart a b = refl
compare_by_rungs ExclusiveEnd ExclusiveEnd a b = refl

-- of two that have keys the keys decide, then the rungs x and y; of others the rungs alone
module _ (k l : BoundaryKind) (a b : List ℕ) {x y : ℕ} (p : x ≡ rung k) (q : y ≡ rung l) where
  pub by_keys : bounded x && bounded y ≡ true → then_by (compare_keys a b) (compare_numbers x y) ≡ compare_boundaries (boundary k a) (boundary l b)
  by_keys h = rw (compare_by_rungs k l a b, ← p, ← q, h)

  pub by_kinds : bounded x && bounded y ≡ false → compare_numbers x y ≡ compare_boundaries (boundary k a) (boundary l b)
  by_kinds h = rw (compare_by_rungs k l a b, ← p, ← q, h)

-- a kind by its rung
abbrev kind_at : ℕ → BoundaryKind
kind_at zero = UnboundedStart
kind_at (suc zero) = ExclusiveEnd
kind_at (suc (suc zero)) = Inclusive
kind_at (suc (suc (suc zero))) = ExclusiveStart
kind_at (suc (suc (suc (suc n)))) = UnboundedEnd

kind_at_lem : (k : BoundaryKind) → kind_at (rung k) ≡ k
kind_at_lem UnboundedStart = refl
kind_at_lem UnboundedEnd = refl
kind_at_lem Inclusive = refl
kind_at_lem ExclusiveStart = refl
kind_at_lem ExclusiveEnd = refl

-- kinds of one rung are the same
pub rung_apart : (k l : BoundaryKind) → rung k ≡ rung l → k ≡ l
rung_apart k l e = sym (kind_at_lem k) ∙ ap kind_at e ∙ kind_at_lem l

-- the kinds stand as they are declared: the derived order is that of the rungs
pub kinds_cmp : (k l : BoundaryKind) → derived.cmp-value.it k l ≡ compare_numbers (rung k) (rung l)
unfolding compare_numbers
kinds_cmp UnboundedStart UnboundedStart = refl
kinds_cmp UnboundedStart UnboundedEnd = refl
kinds_cmp UnboundedStart Inclusive = refl
kinds_cmp UnboundedStart ExclusiveStart = refl
kinds_cmp UnboundedStart ExclusiveEnd = refl
kinds_cmp UnboundedEnd UnboundedStart = refl
kinds_cmp UnboundedEnd UnboundedEnd = refl
kinds_cmp UnboundedEnd Inclusive = refl
kinds_cmp UnboundedEnd ExclusiveStart = refl
kinds_cmp UnboundedEnd ExclusiveEnd = refl
kinds_cmp Inclusive UnboundedStart = refl
kinds_cmp Inclusive UnboundedEnd = refl
kinds_cmp Inclusive Inclusive = refl
kinds_cmp Inclusive ExclusiveStart = refl
kinds_cmp Inclusive ExclusiveEnd = refl
kinds_cmp ExclusiveStart UnboundedStart = refl
kinds_cmp ExclusiveStart UnboundedEnd = refl
kinds_cmp ExclusiveStart Inclusive = refl
kinds_cmp ExclusiveStart ExclusiveStart = refl
kinds_cmp ExclusiveStart ExclusiveEnd = refl
kinds_cmp ExclusiveEnd UnboundedStart = refl
kinds_cmp ExclusiveEnd UnboundedEnd = refl
kinds_cmp ExclusiveEnd Inclusive = refl
kinds_cmp ExclusiveEnd ExclusiveStart = refl
kinds_cmp ExclusiveEnd ExclusiveEnd = refl
