-- How many positions intervals have: the sum of their widths, which never passes the last end. Assumes nothing.
use Prim.Native.Nat.{ℕ, zero, suc, ◌+◌, ◌-◌, ◌*◌, ◌/◌, ◌≤◌, ◌<◌}
use mathlib.Core.Path.{◌≡◌, refl, sym, ap, ◌∙◌}
use mathlib.Core.Bool.{true, false≢true}
use mathlib.Core.List.{List, [], ◌∷◌}
use native.Mathlib.Decide.{dec_lt, ℕ_discrete}
use native.Mathlib.Omega.{arith}
use lib.Dec.{eqb}
use lib.ListN.{length, get_or, length-append}
use borrow.Author.Tests.{eq-eqb, ne_eqb}
use Rattle.intervals.specs.Intervals.{Interval, Apart, holds}
use Rattle.intervals.proofs.Members.{inside_past}
use Rattle.pairs_sort.specs.Pairs.{start, finish, pairs_from}
use Rattle.pairs_sort.proofs.Laws.{pairs_more, pairs_end}
use Rattle.position_given.specs.Given.{intervals_of}
use Rattle.position_given.specs.Positions.{count_up, positions_of}
use Rattle.position_given.specs.Inner.{Sound}

pub length_count : (s k : ℕ) → length (count_up s k) ≡ k
unfolding count_up
length_count s zero = refl
length_count s (suc k) = ap suc (length_count (suc s) k)

pub length_positions : (a : Interval) (A : List Interval) → length (positions_of (a ∷ A)) ≡ (a.1 - a.0) + length (positions_of A)
unfolding positions_of
length_positions a A = rw (length-append (count_up a.0 (a.1 - a.0)) (positions_of A), length_count a.0 (a.1 - a.0))

-- no interval ends past most
abbrev pub Ends : ℕ → List Interval → Type 0
Ends most [] = Unit {0}
Ends most (a ∷ A) = (a.1 ≤ most) × Ends most A

-- every word is a u64
pub record Words (ws : List ℕ) : Type 0 where
  pub fits : (i : ℕ) → get_or ws i 0 < 18446744073709551616

pub ends_of : (ws : List ℕ) → Words ws → (k i : ℕ) → Ends 18446744073709551615 (pairs_from ws i k)
unfolding pairs_from
ends_of ws w zero i = tt
ends_of ws w (suc k) i = (omega (arith, w.fits (2 * i + 1)), ends_of ws w k (suc i))

-- what is held stands below the ends
pub ends_held : (most : ℕ) (A : List Interval) (p : ℕ) → Ends most A → holds A p ≡ true → p < most
unfolding holds
ends_held most [] p e h = absurd (false≢true h)
ends_held most (a ∷ A) p e h = elim (dec_lt p most) [
  | yes k ↦ k
  | no k ↦ ends_held most A p e.1 (sym (rw (inside_past a.0 a.1 p (omega (arith, e.0)))) ∙ h)
]

-- so many positions at most, from lo on
pub positions_bound : (lo most : ℕ) (A : List Interval) → lo ≤ most → Apart lo A → Ends most A → lo + length (positions_of A) ≤ most
positions_bound lo most [] h a e = unfold positions_of in omega arith
positions_bound lo most (b ∷ A) h a e =
    omega (arith, length_positions b A, next A a.2 e.1 (positions_bound b.1 most A e.0))
  where
    next : (A : List Interval) → Apart (suc b.1) A → Ends most A → (Apart b.1 A → Ends most A → b.1 + length (positions_of A) ≤ most)
        → b.1 + length (positions_of A) ≤ most
    next [] p q r = r tt tt
    next (d ∷ A) p q r = r (omega (arith, p.0), p.1, p.2) q

-- ---- the widths of the pairs that are left

module _ (ws : List ℕ) (count i : ℕ) where
  abbrev width_left : ℕ → ℕ
  width_left j = length (positions_of (pairs_from ws j (count - j)))

  pub width_more : i < count → width_left i ≡ (finish ws i - start ws i) + width_left (i + 1)
  width_more h = rw (pairs_more ws i count h) (length_positions (start ws i, finish ws i) (pairs_from ws (i + 1) (count - (i + 1))))

  pub width_end : count ≤ i → width_left i ≡ 0
  width_end h = rw (pairs_end ws i count h) (unfold positions_of in refl)

-- the pair at an index is nonempty
pub nonempty_at : (ws : List ℕ) (k i j lo : ℕ) → Apart lo (pairs_from ws i k) → i ≤ j → j < i + k → start ws j < finish ws j
unfolding pairs_from
nonempty_at ws zero i j lo a h l = absurd (omega arith)
nonempty_at ws (suc k) i j lo a h l = elim (ℕ_discrete j i) [
  | yes e ↦ rw e a.1
  | no e ↦ nonempty_at ws k (suc i) j (suc (finish ws i)) a.2 (elim (dec_lt i j) [ yes u ↦ u | no u ↦ absurd (e (omega arith)) ]) (omega arith)
]

-- pairs stand in order: each starts at or after lo, and past the ends of those before it

starts_from : (ws : List ℕ) (n i j lo : ℕ) → Apart lo (pairs_from ws i n) → i ≤ j → j < i + n → lo ≤ start ws j
unfolding pairs_from
starts_from ws zero i j lo a h l = absurd (omega arith)
starts_from ws (suc n) i j lo a h l = elim (ℕ_discrete j i) [
  | yes e ↦ rw e a.0
  | no e ↦
      let up : i < j = elim (dec_lt i j) [ yes u ↦ u | no u ↦ absurd (e (omega arith)) ] in
      omega (arith, a.0, a.1, starts_from ws n (suc i) j (suc (finish ws i)) a.2 up (omega arith))
]

pub ends_before : (ws : List ℕ) (n i j k lo : ℕ) → Apart lo (pairs_from ws i n) → i ≤ j → j < k → k < i + n → finish ws j < start ws k
unfolding pairs_from
ends_before ws zero i j k lo a h l m = absurd (omega arith)
ends_before ws (suc n) i j k lo a h l m = elim (ℕ_discrete j i) [
  | yes e ↦ rw e (starts_from ws n (suc i) k (suc (finish ws i)) a.2 (omega arith) (omega arith))
  | no e ↦
      let up : i < j = elim (dec_lt i j) [ yes u ↦ u | no u ↦ absurd (e (omega arith)) ] in
      ends_before ws n (suc i) j k (suc (finish ws i)) a.2 up l (omega arith)
]

-- ---- whether there is none

pub none_covered : (ws : List ℕ) → Sound ws → eqb (length ws) 0 ≡ eqb (length (positions_of (intervals_of ws))) 0
none_covered ws S = elim (ℕ_discrete (length ws) 0) [
  | yes e ↦
      let q : length ws / 2 ≡ 0 = omega arith in
      rw (eq-eqb (length ws) 0 e, q) (unfold positions_of pairs_from in refl)
  | no e ↦
      let some : 0 < length ws / 2 = elim (dec_lt 0 (length ws / 2)) [ yes u ↦ u | no u ↦ absurd (e (omega (arith, S.even))) ] in
      let z : length ws / 2 - 0 ≡ length ws / 2 = omega arith in
      let width = nonempty_at ws (length ws / 2) 0 0 0 S.canonical (omega arith) (omega arith) in
      rw (ne_eqb (length ws) 0 e) (sym (ne_eqb (length (positions_of (intervals_of ws))) 0 (λ n. omega (arith, rw z at (width_more ws (length ws / 2) 0 some), width))))
]
