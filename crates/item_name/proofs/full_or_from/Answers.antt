-- `item_name::full_or_from` meets its contract: of names with nine letters there are two. Assumes nothing.
use Prim.Native.Nat.{ℕ}
use mathlib.Core.Path.{◌≡◌, sym, ap, ◌∙◌}
use mathlib.Core.Bool.{Bool}
use mathlib.Core.List.{List}
use lib.Dec.{eqb}
use lib.Pointwise.{pointwise}
use Rattle.query_item.specs.Items.{same}
use Rattle.item_name.specs.Names.{range_full_name}
use Rattle.item_name.proofs.Laws.{same_bytes, code_by_length}
use Rattle.item_name.proofs.full_or_from.Goals as goal

-- the test is that of the definition
tested : (s w : List ℕ) (t u : Bool) → t ≡ pointwise eqb s w → w ≡ range_full_name → t ≡ u → same s range_full_name ≡ u
tested s w t u e f h = ap (same s) (sym f) ∙ sym (same_bytes s w) ∙ sym e ∙ h

pub returns-then-eq : goal.returns-then-eq
returns-then-eq c = sym (code_by_length _ 9 c.requires ∙ rw (tested _ _ _ _ c.eq.ensures c.as_slice.ensures c.if-eq.true))

pub returns : goal.returns
returns c = c.code_if.ensures ∙ sym (code_by_length _ 9 c.requires ∙ rw (tested _ _ _ _ c.eq.ensures c.as_slice.ensures c.if-eq.false))
