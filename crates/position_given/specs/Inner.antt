-- What private and inner functions require and promise, here and in the crates above. No public call is promised by these. Definitions only.
-- Assumes nothing.
use Rattle.std.specs.Prelude.{ℕ, suc, ◌%◌, ◌≤◌, ◌≡◌, List, [], ◌∷◌, length}
use Rattle.intervals.specs.Intervals.{Canonical}
use Rattle.position_given.specs.Given.{intervals_of}

-- 01 m6.4: what accepted intervals are: words in pairs, canonical
pub record Sound (ws : List ℕ) : Type 0 where
  pub even : length ws % 2 ≡ 0
  pub canonical : Canonical (intervals_of ws)

-- 01 no.8: strictly ascending, the first at or above lo
abbrev pub Ascends : ℕ → List ℕ → Type 0
Ascends lo [] = Unit {0}
Ascends lo (p ∷ P) = (lo ≤ p) × Ascends (suc p) P

-- 01 m6.3: the largest u64; no position is past it, and as a position it is covered by nothing
abbrev pub last_word : ℕ
last_word = 18446744073709551615
