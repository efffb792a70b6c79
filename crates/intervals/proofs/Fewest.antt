-- No list of intervals is shorter than a canonical one and holds the same: those of it that hold the first start, of which there is one at least,
-- end before the second start, so that the others hold all that comes after. Past the last number held nothing is asked of it. Assumes nothing.
use Prim.Native.Nat.{ℕ, suc, ◌≤◌, ◌<◌}
use mathlib.Core.Path.{◌≡◌, refl, sym, ◌∙◌}
use mathlib.Core.Bool.{Bool, true, false, cond, not, ◌||◌, false≢true, true≢false}
use mathlib.Core.List.{List, [], ◌∷◌}
use native.Mathlib.Decide.{dec_lt}
use native.Mathlib.Omega.{arith}
use lib.ListN.{length}
use Rattle.intervals.specs.Lists.{keep}
use Rattle.intervals.specs.Intervals.{Interval, Apart, inside, holds}
use Rattle.intervals.proofs.Kept.{keep_parts}
use Rattle.intervals.proofs.Members.{where_is, below, in_it, past, inside_yes, inside_below, inside_past}
use Rattle.intervals.proofs.Unique.{holds_head, holds_tail, holds_gap}

-- ---- the intervals that hold a number, and the others

abbrev has : ℕ → Interval → Bool
has x b = inside b.0 b.1 x

abbrev others : ℕ → List Interval → List Interval
others x B = keep (λ b. not (has x b)) B

some_has : (x : ℕ) (B : List Interval) → holds B x ≡ true → 0 < length (keep (has x) B)
unfolding holds keep
some_has x [] h = absurd (false≢true h)
some_has x (b ∷ B) h = go (has x b) h (some_has x B)
  where
    go : (t : Bool) → t || holds B x ≡ true → (holds B x ≡ true → 0 < length (keep (has x) B)) → 0 < length (cond t (b ∷ keep (has x) B) (keep (has x) B))
    go true h rest = omega arith
    go false h rest = rest h

others_fewer : (x : ℕ) (B : List Interval) → holds B x ≡ true → length (others x B) < length B
others_fewer x B h = omega (arith, keep_parts (has x) B, some_has x B h)

-- from a number g on that is not held, at or past x, the others hold all: an interval that has x ends at or before g
others_past : (x g y : ℕ) (B : List Interval) → x ≤ g → g ≤ y → holds B g ≡ false → holds (others x B) y ≡ holds B y
unfolding holds keep
others_past x g y [] l m h = refl
others_past x g y (b ∷ B) l m h = go h (others_past x g y B l m)
  where
    neither : (t u : Bool) → t || u ≡ false → (t ≡ false) × (u ≡ false)
    neither true u e = absurd (true≢false e)
    neither false u e = (refl, e)

    go : has g b || holds B g ≡ false → (holds B g ≡ false → holds (others x B) y ≡ holds B y)
        → holds (cond (not (has x b)) (b ∷ others x B) (others x B)) y ≡ has y b || holds B y
    go h again =
        let apart = neither (has g b) (holds B g) h in
        let rest = again apart.1 in
        elim (where_is b.0 b.1 x) [
          | below k ↦ rw (inside_below b.0 b.1 x k, rest)
          | in_it j k ↦
              let short : b.1 ≤ g = elim (dec_lt g b.1) [
                | yes u ↦ absurd (true≢false (sym (inside_yes b.0 b.1 g (omega arith) u) ∙ apart.0))
                | no u ↦ omega arith
              ] in
              rw (inside_yes b.0 b.1 x j k, inside_past b.0 b.1 y (omega arith)) rest
          | past k ↦ rw (inside_past b.0 b.1 x k, rest)
        ]

-- ---- a canonical list beside any other

-- B holds what A does, of the numbers from lo on up to the last one that A holds
pub apart_fewest : (lo : ℕ) (A B : List Interval) → Apart lo A → ((x y : ℕ) → lo ≤ x → x ≤ y → holds A y ≡ true → holds B x ≡ holds A x)
    → length A ≤ length B
apart_fewest lo [] B h same = omega arith
apart_fewest lo (a ∷ []) B h same =
    let head = holds_head a [] a.0 (omega arith) h.1 in
    omega (arith, others_fewer a.0 B (same a.0 a.0 h.0 (omega arith) head ∙ head))
apart_fewest lo (a ∷ b ∷ A) B h same =
    let head = holds_head a (b ∷ A) a.0 (omega arith) h.1 in
    let first : holds B a.0 ≡ true = same a.0 a.0 h.0 (omega arith) head ∙ head in
    let next : holds (a ∷ b ∷ A) b.0 ≡ true =
    holds_tail a (b ∷ A) b.0 (omega arith) ∙ holds_head b A b.0 (omega arith) h.2.1 in
    let gap : holds B a.1 ≡ false = same a.1 b.0 (omega arith) (omega arith) next ∙ holds_gap a (b ∷ A) h.2 in
    let rest : length (b ∷ A) ≤ length (others a.0 B) = apart_fewest (suc a.1) (b ∷ A) (others a.0 B) h.2 (λ x y l m k.
    others_past a.0 a.1 x B (omega arith) (omega arith) gap
    ∙ same x y (omega arith) m (holds_tail a (b ∷ A) y (omega arith) ∙ k)
    ∙ holds_tail a (b ∷ A) x (omega arith)) in
    omega (arith, others_fewer a.0 B first)
