-- The first key at or past a start: a range holds that key, or none. Assumes nothing.
use Rattle.std.specs.declared.cmp.Ordering.{Ordering}
use Rattle.std.specs.declared.cmp.Ordering.TheVariants.{Less, Equal, Greater}
use Rattle.std.specs.Ordering.{is_lt, is_le, is_eq}
use Prim.Native.Nat.{ℕ}
use mathlib.Core.Path.{◌≡◌, refl, sym, ◌∙◌}
use mathlib.Core.Bool.{true, not}
use mathlib.Core.List.{List, []}
use Rattle.key_order.specs.Order.{compare_numbers, compare_keys}
use Rattle.key_order.specs.Boundary.{exclusive_end, inclusive, exclusive_start, Boundary, unbounded_start, unbounded_end, at_key, compare_boundaries}
use Rattle.key_order.proofs.Laws.{empty_at_most, next_at_most}
use Rattle.query_item.proofs.Held.{tie_equal, tie_greater}
use Rattle.keyless.specs.Keyless.{next_key, keyless_between, first_key}

-- boundaries that a range can start with, and end with

abbrev pub StartsAt : Boundary → Type 0
StartsAt unbounded_start = Unit {0}
StartsAt unbounded_end = ⊥
StartsAt (at_key a exclusive_end) = ⊥
StartsAt (at_key a inclusive) = Unit {0}
StartsAt (at_key a exclusive_start) = Unit {0}

abbrev pub EndsAt : Boundary → Type 0
EndsAt unbounded_start = ⊥
EndsAt unbounded_end = Unit {0}
EndsAt (at_key b exclusive_end) = Unit {0}
EndsAt (at_key b inclusive) = Unit {0}
EndsAt (at_key b exclusive_start) = ⊥

equal_not_less : (o : Ordering) → is_le o ≡ true → is_eq o ≡ not (is_lt o)
equal_not_less Less h = refl
equal_not_less Equal h = refl
equal_not_less Greater h = h

-- a key is at or past a start exactly where it is at or past the first key
pub from_first : (s : Boundary) → StartsAt s → (k : List ℕ) → is_le (compare_boundaries s (at_key k inclusive)) ≡ is_le (compare_keys (first_key s) k)
unfolding compare_boundaries compare_numbers
from_first unbounded_start h k = sym (empty_at_most k)
from_first unbounded_end h k = absurd h
from_first (at_key a exclusive_end) h k = absurd h
from_first (at_key a inclusive) h k = tie_equal (compare_keys a k)
from_first (at_key a exclusive_start) h k = tie_greater (compare_keys a k) ∙ next_at_most a k

-- an upright range is of the two kinds exactly where its first key is past its end
pub keyless_first : (s e : Boundary) → StartsAt s → EndsAt e → is_le (compare_boundaries s e) ≡ true
    → keyless_between s e ≡ not (is_le (compare_boundaries (at_key (first_key s) inclusive) e))
unfolding compare_boundaries compare_numbers
keyless_first unbounded_start unbounded_start h k u = absurd k
keyless_first unbounded_start unbounded_end h k u = refl
keyless_first unbounded_start (at_key b exclusive_end) h k u = rw (tie_greater (compare_keys [] b)) (equal_not_less (compare_keys [] b) (empty_at_most b))
keyless_first unbounded_start (at_key b inclusive) h k u = rw (tie_equal (compare_keys [] b), empty_at_most b)
keyless_first unbounded_start (at_key b exclusive_start) h k u = absurd k
keyless_first unbounded_end e h k u = absurd h
keyless_first (at_key a exclusive_end) e h k u = absurd h
keyless_first (at_key a inclusive) e h k u = rw u
keyless_first (at_key a exclusive_start) unbounded_start h k u = absurd k
keyless_first (at_key a exclusive_start) unbounded_end h k u = refl
keyless_first (at_key a exclusive_start) (at_key b exclusive_end) h k u =
    rw (tie_greater (compare_keys (next_key a) b)) (equal_not_less (compare_keys (next_key a) b) (sym (next_at_most a b) ∙ sym (tie_greater (compare_keys a b)) ∙ u))
keyless_first (at_key a exclusive_start) (at_key b inclusive) h k u =
    rw (tie_equal (compare_keys (next_key a) b), ← next_at_most a b, ← tie_greater (compare_keys a b), u)
keyless_first (at_key a exclusive_start) (at_key b exclusive_start) h k u = absurd k
