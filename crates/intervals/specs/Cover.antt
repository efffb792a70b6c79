-- Covering one more half-open range in a canonical list, the ranges of any list one after another, and uncovering one. Definitions only.
-- Assumes nothing.
use Rattle.std.specs.Prelude.{ℕ, min, max, cond, List, [], ◌∷◌, ltb}
use Rattle.intervals.specs.Intervals.{Interval, piece, without}

-- 01 m6.4: each end below the next start: the range from s to e takes in each interval that it overlaps or touches, up to the first that
-- starts above its end
unfoldable pub grow_of : List Interval → ℕ → ℕ → List Interval
grow_of [] s e = (s, e) ∷ []
grow_of (a ∷ A) s e = cond (ltb e a.0) ((s, e) ∷ a ∷ A) (grow_of A (min s a.0) (max e a.1))

-- 01 m6.4: ascending: intervals that end below the range stay before it
unfoldable pub cover_of : List Interval → ℕ → ℕ → List Interval
cover_of [] s e = (s, e) ∷ []
cover_of (a ∷ A) s e = cond (ltb a.1 s) (a ∷ cover_of A s e) (grow_of (a ∷ A) s e)

-- 01 m6.4, 02 §4.2, §4.9: nonempty: one more half-open range covered; one whose start is not below its end changes nothing
unfoldable pub cover : List Interval → ℕ → ℕ → List Interval
cover A s e = cond (ltb s e) (cover_of A s e) A

-- 01 m6.4: ranges that may be empty, overlap and stand in any order, covered one after another
unfoldable pub cover_all : List Interval → List Interval
cover_all [] = []
cover_all (a ∷ A) = cover (cover_all A) a.0 a.1

-- 02 §4.3, §4.9: uncover one: what the list keeps without the range, which is none where its start is not below its end
unfoldable pub uncover : List Interval → ℕ → ℕ → List Interval
uncover A s e = without A (piece s e)
