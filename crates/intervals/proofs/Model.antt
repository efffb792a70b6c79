-- Strict lists of intervals, and what two lists share: what lists of items are in proofs, by the ranks of their boundaries. No promise and no
-- definition cites this file. Assumes nothing.
use Prim.Native.Nat.{ℕ, ◌≤◌, ◌<◌, min, max}
use mathlib.Core.List.{List, [], ◌∷◌}
use Rattle.intervals.specs.Lists.{shared_of}
use Rattle.intervals.specs.Intervals.{Interval, piece}

-- each interval is nonempty and starts at or after the end of the one before it, the first at or after lo
abbrev pub Above : ℕ → List Interval → Type 0
Above lo [] = Unit {0}
Above lo (a ∷ A) = (lo ≤ a.0) × (a.0 < a.1) × Above a.1 A

-- strict: a half-open end is past the last number, so that two may touch
abbrev pub Strict : List Interval → Type 0
Strict A = Above 0 A

-- two intervals share what runs from the larger start to the smaller end
unfoldable pub meet : Interval → Interval → List Interval
meet a b = piece (max a.0 b.0) (min a.1 b.1)

-- what two lists share
abbrev pub shared : List Interval → List Interval → List Interval
shared = shared_of meet
