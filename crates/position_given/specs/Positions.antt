-- The positions of intervals, one by one, how many they are, and what stands in a list of positions. Definitions only. Assumes nothing.
use Rattle.std.specs.Prelude.{ℕ, zero, suc, ◌-◌, Bool, false, ◌||◌, List, [], ◌∷◌, ◌++◌, length, eqb}
use Rattle.intervals.specs.Intervals.{Interval}

-- 01 m6.4: k numbers from s on
unfoldable pub count_up : ℕ → ℕ → List ℕ
count_up s zero = []
count_up s (suc k) = s ∷ count_up (suc s) k

-- 01 m6.4: half-open: the positions of each interval, from its start on, below its end
unfoldable pub positions_of : List Interval → List ℕ
positions_of [] = []
positions_of (a ∷ A) = count_up a.0 (a.1 - a.0) ++ positions_of A

-- 01 m6.9, 02 §4.6: counting afresh: how many rows the intervals cover
abbrev pub rows_of : List Interval → ℕ
rows_of A = length (positions_of A)

-- 01 m6.10: whether p stands in a list
unfoldable pub is_in : List ℕ → ℕ → Bool
is_in [] p = false
is_in (q ∷ P) p = eqb p q || is_in P p
