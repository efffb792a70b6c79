-- Which pair of canonical ones holds a position: the first that ends above it decides. Assumes nothing.
use Prim.Native.Nat.{ℕ, zero, suc, ◌+◌, ◌-◌, ◌/◌, ◌≤◌, ◌<◌}
use mathlib.Core.Path.{◌≡◌, refl, ap, ◌∙◌}
use mathlib.Core.Bool.{false, ◌&&◌, and-true, or-false}
use mathlib.Core.List.{List, ◌∷◌, ◌++◌}
use native.Mathlib.Decide.{dec_lt}
use native.Mathlib.Omega.{arith}
use lib.ListN.{length}
use lib.Dec.{leb, ltb}
use borrow.Author.Tests.{lt-ltb, le-ltb}
use Rattle.intervals.specs.Intervals.{Interval, Canonical, inside, holds}
use Rattle.intervals.proofs.Members.{inside_past}
use Rattle.intervals.proofs.Laws.{holds_append, holds_below}
use Rattle.pairs_sort.specs.Pairs.{start, finish, pairs_from, pairs}
use Rattle.pairs_sort.proofs.Laws.{pairs_append, pairs_more}
use Rattle.position_given.specs.Given.{intervals_of}
use Rattle.position_given.proofs.Apart.{apart_back}

past_none : (ws : List ℕ) (k i p : ℕ) → ((j : ℕ) → i ≤ j → j < i + k → finish ws j ≤ p) → holds (pairs_from ws i k) p ≡ false
unfolding holds pairs_from
past_none ws zero i p h = refl
past_none ws (suc k) i p h =
    rw (inside_past (start ws i) (finish ws i) p (h i (omega arith) (omega arith)))
    (past_none ws k (suc i) p (λ j a b. h j (omega arith) (omega arith)))

-- the first pair that ends above p decides
pub held_at : (ws : List ℕ) (r p : ℕ) → Canonical (intervals_of ws) → ((k : ℕ) → k < r → finish ws k ≤ p) → (r < length ws / 2 → p < finish ws r)
    → holds (intervals_of ws) p ≡ ltb r (length ws / 2) && leb (start ws r) p
held_at ws r p C h f = elim (dec_lt r (length ws / 2)) [
  | yes l ↦
      let n = length ws / 2 in
      let q : n ≡ r + (n - r) = omega arith in
      let z : 0 + r ≡ r = omega arith in
      let split : pairs ws n ≡ pairs ws r ++ pairs_from ws r (n - r) =
      ap (λ (m : ℕ). pairs ws m) q ∙ pairs_append ws r (n - r) 0 ∙ ap (λ (j : ℕ). pairs ws r ++ pairs_from ws j (n - r)) z in
      let back = rw (pairs_more ws r n l) at (apart_back 0 (pairs ws r) (pairs_from ws r (n - r)) (rw split at C)) in
      let later : holds (pairs_from ws (r + 1) (n - (r + 1))) p ≡ false = holds_below (suc (finish ws r)) _ p back.2 (omega (arith, f l)) in
      rw (lt-ltb r n l, split, holds_append (pairs ws r) (pairs_from ws r (n - r)) p, past_none ws r 0 p (λ j a b. h j (omega arith)), pairs_more ws r n l)
      (one (start ws r) (finish ws r) (pairs_from ws (r + 1) (n - (r + 1))) (f l) later)
  | no l ↦ rw (le-ltb r (length ws / 2) (omega arith)) (past_none ws (length ws / 2) 0 p (λ j a b. h j (omega arith)))
]
  where
    one : (s e : ℕ) (B : List Interval) → p < e → holds B p ≡ false → holds ((s, e) ∷ B) p ≡ leb s p
    one s e B l h = unfold holds inside in rw (lt-ltb p e l, h, and-true, or-false)
