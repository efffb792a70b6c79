-- Lists of half-open intervals of natural numbers: canonical lists, the numbers that a list holds, and what one list keeps without another.
-- Definitions only. Assumes nothing.
use Rattle.std.specs.Prelude.{ℕ, suc, ◌≤◌, ◌<◌, min, max, Bool, false, cond, ◌&&◌, ◌||◌, List, [], ◌∷◌, ◌++◌, leb, ltb}
use Rattle.intervals.specs.Lists.{without_of}

-- 01 m6.4: pairs, half-open: (s, e) has the numbers from s on, below e
abbrev pub Interval : Type 0
Interval = ℕ × ℕ

-- 01 m6.4: each interval is nonempty and starts after the end of the one before it, the first at or after lo
abbrev pub Apart : ℕ → List Interval → Type 0
Apart lo [] = Unit {0}
Apart lo (a ∷ A) = (lo ≤ a.0) × (a.0 < a.1) × Apart (suc a.1) A

-- 01 m6.4: canonical: half-open, ascending, nonempty, each end below the next start, so that no two touch
abbrev pub Canonical : List Interval → Type 0
Canonical A = Apart 0 A

-- 01 m6.4: half-open: x lies in the interval from s to e when s ≤ x < e
unfoldable pub inside : ℕ → ℕ → ℕ → Bool
inside s e x = leb s x && ltb x e

-- 01 m6.3: covered: x lies in some interval of the list
unfoldable pub holds : List Interval → ℕ → Bool
holds [] x = false
holds (a ∷ A) x = inside a.0 a.1 x || holds A x

-- 01 m6.4: nonempty: the interval from s to e, or nothing where that has no number
unfoldable pub piece : ℕ → ℕ → List Interval
piece s e = cond (ltb s e) ((s, e) ∷ []) []

-- 01 m3.1, m3.3, m3.4: our leftovers: left, below their start, and right, from their end on; one whole leftover where the two are disjoint
unfoldable pub cut : Interval → Interval → List Interval
cut a b = piece a.0 (min a.1 b.0) ++ piece (max a.0 b.1) a.1

-- 01 m4.2: what a list keeps without another
abbrev pub without : List Interval → List Interval → List Interval
without = without_of cut
