-- Decimal numbers as bytes, and bytes with a text stored in them. Definitions only. It serves 01 m6.13, m7.6, 02 §1.9. Assumes nothing.
use Rattle.std.specs.Prelude.{ℕ, zero, suc, ◌+◌, ◌/◌, ◌%◌, cond, List, [], ◌∷◌, ◌++◌, length, drop, ltb}
use Rattle.std.proofs.lemmas.List.Edits.{sets}

-- a number in at most k decimal digits, the greatest first
unfoldable pub digits : ℕ → ℕ → List ℕ
digits zero n = []
digits (suc k) n = cond (ltb n 10) ((48 + n) ∷ []) (digits k (n / 10) ++ (48 + n % 10) ∷ [])

-- a u64 has at most 20
abbrev pub decimal : ℕ → List ℕ
decimal n = digits 20 n

-- 01 m7.3, the example: a space before each number
abbrev pub spaced_number : ℕ → List ℕ
spaced_number n = 32 ∷ decimal n

-- bytes with a text over their front; those past it stay
abbrev pub laid : List ℕ → List ℕ → List ℕ
laid out text = text ++ drop (length text) out

-- bytes with a text stored from an index on, what has no room left out
unfoldable pub stored : List ℕ → ℕ → List ℕ → List ℕ
stored out at text = sets out at text
