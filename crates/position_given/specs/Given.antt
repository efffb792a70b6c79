-- The checks of intervals and of proved positions. Definitions only. Assumes nothing.
use Rattle.std.specs.Prelude.{ℕ, suc, ◌/◌, ◌%◌, List, [], ◌∷◌, cond, ◌&&◌, length, ltb, eqb}
use Rattle.intervals.specs.Intervals.{Interval}
use Rattle.item_check.specs.Checks.{refused, Verdict, accepted, and_then}
use Rattle.pairs_sort.specs.Pairs.{pairs}

-- 01 m6.4: the result is pairs; reading A29: the slice is the list
abbrev pub intervals_of : List ℕ → List Interval
intervals_of ws = pairs ws (length ws / 2)

-- 01 no.1, refusal.2: pair words odd in number; the shape of a list gives its side and index 0
abbrev pub even_verdict : ℕ → List ℕ → Verdict
even_verdict side ws = cond (eqb (length ws % 2) 0) accepted (refused 1 side 0)

-- 01 no.9, refusal.4: intervals not canonical; reading A17: the index is that of the first pair that is empty or starts at or below the end of
-- the one before it, e

unfoldable pub first_touching : ℕ → ℕ → List Interval → Verdict
first_touching i e [] = accepted
first_touching i e (a ∷ A) = cond (ltb e a.0 && ltb a.0 a.1) (first_touching (suc i) a.1 A) (refused 9 0 i)

unfoldable pub canonical_verdict : List Interval → Verdict
canonical_verdict [] = accepted
canonical_verdict (a ∷ A) = cond (ltb a.0 a.1) (first_touching 1 a.1 A) (refused 9 0 0)

-- 01 refusal.3, refusal.6, reading A29: intervals are side 0; 1, then 9
abbrev pub intervals_verdict : List ℕ → Verdict
intervals_verdict ws = and_then (even_verdict 0 ws) (canonical_verdict (intervals_of ws))

-- 01 no.8, refusal.3, refusal.4, change.4: proved positions not strictly ascending; side 1, the index of the first that is not above the one
-- before it, p

unfoldable pub first_falling : ℕ → ℕ → List ℕ → Verdict
first_falling i p [] = accepted
first_falling i p (q ∷ P) = cond (ltb p q) (first_falling (suc i) q P) (refused 8 1 i)

unfoldable pub ascending_verdict : List ℕ → Verdict
ascending_verdict [] = accepted
ascending_verdict (p ∷ P) = first_falling 1 p P

-- 01 refusal.6: 8 after 9
abbrev pub proved_verdict : List ℕ → List ℕ → Verdict
proved_verdict ws proved = and_then (intervals_verdict ws) (ascending_verdict proved)
