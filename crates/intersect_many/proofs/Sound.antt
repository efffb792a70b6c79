-- The ranges of an accepted list are fine: upright, with keys that are not refused; as intervals they are strict. Assumes nothing.
use Prim.Native.Nat.{ℕ, ◌≤◌}
use mathlib.Core.Path.{◌≡◌}
use mathlib.Core.List.{List, [], ◌∷◌, map}
use native.Mathlib.Omega.{arith}
use Rattle.key_order.proofs.Line.{size}
use Rattle.query_item.specs.declared.ItemWords.{ItemWords}
use Rattle.query_item.specs.declared.RangeSet.{RangeSet}
use Rattle.query_item.specs.Items.{query_item}
use Rattle.query_item.specs.Boundaries.{range_of}
use Rattle.query_item.proofs.Laws.{upright_whole}
use Rattle.item_check.specs.Checks.{upright_fault, items_of}
use Rattle.item_check.proofs.Laws.{AllSound, AcceptedList, sound_parts, inside_keys}
use Rattle.intervals.proofs.Model.{Above, Strict}
use Rattle.intervals.proofs.Laws.{All, AboveOf}
use Rattle.intersect_many.specs.Lists.{sets_of}
use Rattle.intersect_many.proofs.Carried.{iv, Fine}
use Rattle.intersect_many.proofs.Ranked as ranked

module _ (pool : List ℕ) (n : ℕ) (fits : size pool ≤ n) where
  item_fine : (it : ItemWords) → upright_fault pool it ≡ 0 → Fine pool n fits (range_of it)
  item_fine it e =
      let parts = sound_parts pool it e in
      let keys = inside_keys pool it parts.1 in
      record { good = upright_whole pool n fits (query_item it) parts.2; start_in = keys.0; end_in = keys.1 }

  items_fine : (its : List ItemWords) → AllSound pool its → All (Fine pool n fits) (map range_of its)
  items_fine [] s = tt
  items_fine (it ∷ its) s = (item_fine it s.0, items_fine its s.1)

  pub list_fine : (ws : List ℕ) → AcceptedList pool ws → All (Fine pool n fits) (sets_of ws)
  list_fine ws a = items_fine (items_of ws) a.sound

  as_above : (lo : ℕ) (A : List RangeSet) → AboveOf (ranked.Good pool n fits) (ranked.low pool n fits) (ranked.high pool n fits) lo A → Above lo (map (iv pool n fits) A)
  as_above lo [] h = tt
  as_above lo (a ∷ A) h = (h.0, omega (arith, h.1.straight), as_above (ranked.high pool n fits a) A h.2)

  pub list_strict : (ws : List ℕ) → AcceptedList pool ws → Strict (map (iv pool n fits) (sets_of ws))
  list_strict ws a = as_above 0 (sets_of ws) (ranked.order_above pool n fits (items_of ws) a.sound a.in_order)
