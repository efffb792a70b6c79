-- How the checks go over a list, a turn at a time: what is left of the list at an index. Assumes nothing.
use Rattle.std.specs.Ordering.{is_lt}
use Prim.Native.Nat.{ℕ, zero, suc, ◌+◌, ◌-◌, ◌≤◌, ◌<◌}
use mathlib.Core.Path.{◌≡◌, refl}
use mathlib.Core.Bool.{true, false}
use mathlib.Core.List.{List, [], ◌∷◌}
use mathlib.Core.Logic.{◌↔◌}
use native.Mathlib.Decide.{ℕ_discrete}
use native.Mathlib.Omega.{arith}
use native.Mathlib.Numerals.{add-one}
use Rattle.query_item.specs.declared.ItemWords.{ItemWords}
use Rattle.query_item.specs.declared.RangeSetItem.{RangeSetItem}
use Rattle.query_item.specs.Items.{item_at, items_from}
use Rattle.query_item.specs.Boundaries.{compare_in, set_at}
use Rattle.intervals.proofs.Laws.{All}
use Rattle.item_check.specs.Checks.{Verdict, accepted, refused, fault_at, first_bad, first_break, strict_verdict}

-- a fault is refused with its number, and 0 is none
pub fault_refused : (f side i : ℕ) → (f ≡ 0 → ⊥) → fault_at f side i ≡ refused f side i
fault_refused zero side i h = absurd (h refl)
fault_refused (suc f) side i h = refl

pub fault_passes : (f side i : ℕ) → fault_at f side i ≡ accepted ↔ f ≡ 0
fault_passes zero side i = (λ e. refl, λ e. refl)
fault_passes (suc f) side i = (λ e. cc, λ e. cc)

module _ (ws : List ℕ) (i count : ℕ) where
  -- at the end no item is left; before it the first one left is that at i
  pub items_end : count ≤ i → items_from ws i (count - i) ≡ []
  unfolding items_from
  items_end h = let e : count - i ≡ 0 = omega arith in rw e

  pub items_more : i < count → items_from ws i (count - i) ≡ item_at ws i ∷ items_from ws (i + 1) (count - (i + 1))
  unfolding items_from
  items_more h = let e : count - i ≡ suc (count - (i + 1)) = omega arith in rw (e, add-one i)

-- what holds of all items from an index on holds of each of them
pub items_all : (P : ItemWords → Type 0) (ws : List ℕ) (a n : ℕ) → All P (items_from ws a n) → (i : ℕ) → a ≤ i → i < a + n → P (item_at ws i)
unfolding items_from
items_all P ws a zero h i l m = absurd (omega arith)
items_all P ws a (suc n) h i l m = elim (ℕ_discrete i a) [
  | yes q ↦ rw q h.0
  | no q ↦ items_all P ws (suc a) n h.1 i (omega arith) (omega arith)
]

module _ (fault : ItemWords → ℕ) (side : ℕ) (ws : List ℕ) (i count : ℕ) where
  abbrev bad_left : ℕ → Verdict
  bad_left j = first_bad fault side j (items_from ws j (count - j))

  pub bad_end : count ≤ i → bad_left i ≡ accepted
  unfolding first_bad
  bad_end h = rw (items_end ws i count h)

  pub bad_here : {f : ℕ} → i < count → f ≡ fault (item_at ws i) → (f ≡ 0 → ⊥) → bad_left i ≡ refused f side i
  unfolding first_bad
  bad_here {f} h e bad = rw (items_more ws i count h, ← e, fault_refused f side i bad)

  pub bad_next : {f : ℕ} → i < count → f ≡ fault (item_at ws i) → f ≡ 0 → bad_left i ≡ bad_left (i + 1)
  unfolding first_bad
  bad_next h e good = rw (items_more ws i count h, ← e, good, add-one i)

module _ (pool : List ℕ) (side : ℕ) (ws : List ℕ) (i count : ℕ) where
  abbrev break_left : RangeSetItem → ℕ → Verdict
  break_left end j = first_break pool side j end (items_from ws j (count - j))

  pub break_end : (end : RangeSetItem) → count ≤ i → break_left end i ≡ accepted
  unfolding first_break
  break_end end h = rw (items_end ws i count h)

  pub break_here : (end : RangeSetItem) → i < count → is_lt (compare_in pool end (set_at ws i).start) ≡ false → break_left end i ≡ refused 4 side i
  unfolding first_break
  break_here end h e = rw (items_more ws i count h, e)

  pub break_next : (end : RangeSetItem) → i < count → is_lt (compare_in pool end (set_at ws i).start) ≡ true
      → break_left end i ≡ break_left (set_at ws i).end (i + 1)
  unfolding first_break
  break_next end h e = rw (items_more ws i count h, e, add-one i)

-- a list is strict from its second item on, or has none
pub strict_start : (pool : List ℕ) (side : ℕ) (ws : List ℕ) (count : ℕ)
    → strict_verdict pool side (items_from ws 0 count) ≡ first_break pool side 1 (set_at ws 0).end (items_from ws 1 (count - 1))
unfolding strict_verdict first_break items_from
strict_start pool side ws zero = refl
strict_start pool side ws (suc count) = let e : suc count - 1 ≡ count = omega arith in rw e
