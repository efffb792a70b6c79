-- What the calls on rate cards give back. Definitions only. Assumes nothing.
use Rattle.std.specs.Prelude.{ℕ, List, [], ◌∷◌, ℤ, None, Option, Some}
use Rattle.rate_card.specs.declared.Totals.{Totals}

-- 02 §8.3: the index of the item that holds the key, which may be missing: 1 and the index, or twice 0
abbrev pub found_numbers : Option ℕ → List ℕ
found_numbers (Some i) = 1 ∷ i ∷ []
found_numbers None = 0 ∷ 0 ∷ []

-- 02 §8.3: whether a key has a rate; the amount has a place of its own, and is 0 where it has none
abbrev pub has_rate : Option ℤ → ℕ
has_rate (Some a) = 1
has_rate None = 0

-- 02 §8.4, §8.5, §8.6: the three numbers of an invoice have a place each

abbrev pub sum_in : Totals → ℤ
sum_in t = t.sum

abbrev pub without_in : Totals → ℕ
without_in t = t.without

abbrev pub cents_in : Totals → ℤ
cents_in t = t.cents
