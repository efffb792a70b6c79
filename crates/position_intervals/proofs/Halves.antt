-- Canonical lists cut in two, and pairs of a part of the words: which half can hold a position. Assumes nothing.
use Prim.Native.Nat.{ℕ, zero, suc, ◌+◌, ◌-◌, ◌*◌, ◌/◌, ◌%◌, ◌≤◌, ◌<◌}
use mathlib.Core.Path.{◌≡◌, refl, ap, ◌∙◌}
use mathlib.Core.Bool.{false, ◌&&◌, or-false}
use mathlib.Core.List.{List, ◌∷◌, ◌++◌}
use native.Mathlib.Omega.{arith}
use lib.Dec.{leb, ltb}
use lib.ListN.{length, get_or, take, drop, length-drop}
use lib.Seq.{take_all, length-take-le, get_or-drop}
use Rattle.intervals.specs.Intervals.{Apart, inside, holds}
use Rattle.intervals.proofs.Laws.{holds_append, holds_below}
use Rattle.item_check.specs.Checks.{accepted}
use Rattle.pairs_sort.specs.Pairs.{start, finish, pairs_from, pairs}
use Rattle.pairs_sort.proofs.Laws.{pairs_take, pairs_append, pairs_more}
use Rattle.position_given.specs.Given.{intervals_of, intervals_verdict}
use Rattle.position_given.specs.Inner.{Sound}
use Rattle.position_given.proofs.Accepted.{sound_accepts}
use Rattle.position_given.proofs.Apart.{apart_front, apart_back, apart_above}

-- ---- no pair, and one

pub no_pair_held : (ws : List ℕ) (p : ℕ) → length ws / 2 ≡ 0 → false ≡ holds (intervals_of ws) p
unfolding holds pairs_from
no_pair_held ws p q = rw q

pub one_pair_held : (ws : List ℕ) (p : ℕ) → length ws / 2 ≡ 1 → leb (start ws 0) p && ltb p (finish ws 0) ≡ holds (intervals_of ws) p
unfolding holds pairs_from inside
one_pair_held ws p q = rw (q, or-false)

pub none_held : (ws : List ℕ) (p : ℕ) → length ws ≡ 0 → false ≡ holds (intervals_of ws) p
none_held ws p h = no_pair_held ws p (omega arith)

pub one_held : (ws : List ℕ) (p : ℕ) → length ws ≡ 2 → leb (start ws 0) p && ltb p (finish ws 0) ≡ holds (intervals_of ws) p
one_held ws p h = one_pair_held ws p (omega arith)

-- ---- a part of the words

shifted : (ws : List ℕ) (cut : ℕ) → cut % 2 ≡ 0 → (k i j : ℕ) → j ≡ i + cut / 2 → pairs_from (drop cut ws) i k ≡ pairs_from ws j k
unfolding pairs_from
shifted ws cut even zero i j e = refl
shifted ws cut even (suc k) i j e =
    let p : cut + 2 * i ≡ 2 * j = omega arith in
    let q : cut + (2 * i + 1) ≡ 2 * j + 1 = omega arith in
    rw (get_or-drop cut ws (2 * i) 0, get_or-drop cut ws (2 * i + 1) 0, p, q, shifted ws cut even k (suc i) (suc j) (omega arith))

module _ (ws : List ℕ) (cut : ℕ) (S : Sound ws) (even : cut % 2 ≡ 0) (l : cut < length ws) where
  -- the pairs of the first half, and of the second
  fronts : intervals_of (take cut ws) ≡ pairs ws (cut / 2)
  fronts = rw (length-take-le cut ws (omega arith)) (pairs_take ws cut (cut / 2) (omega arith))

  -- the tail as the borrow checker says it
  tail_is : take (length ws - cut) (drop cut ws) ≡ drop cut ws
  tail_is = take_all (length ws - cut) (drop cut ws) (rw (length-drop cut ws) (omega arith))

  tail_length : length (take (length ws - cut) (drop cut ws)) ≡ length ws - cut
  tail_length = rw tail_is (length-drop cut ws)

  backs : intervals_of (take (length ws - cut) (drop cut ws)) ≡ pairs_from ws (cut / 2) (length ws / 2 - cut / 2)
  backs =
      rw tail_is
      (rw (length-drop cut ws)
      (let k : (length ws - cut) / 2 ≡ length ws / 2 - cut / 2 = omega (arith, S.even) in
      rw k (shifted ws cut even (length ws / 2 - cut / 2) 0 (cut / 2) (omega arith))))

  whole : intervals_of ws ≡ pairs ws (cut / 2) ++ pairs_from ws (cut / 2) (length ws / 2 - cut / 2)
  whole =
      let q : length ws / 2 ≡ cut / 2 + (length ws / 2 - cut / 2) = omega arith in
      let z : 0 + cut / 2 ≡ cut / 2 = omega arith in
      ap (λ (n : ℕ). pairs ws n) q ∙ rw (pairs_append ws (cut / 2) (length ws / 2 - cut / 2) 0, z)

  first : pairs_from ws (cut / 2) (length ws / 2 - cut / 2)
      ≡ (start ws (cut / 2), finish ws (cut / 2)) ∷ pairs_from ws (cut / 2 + 1) (length ws / 2 - (cut / 2 + 1))
  first = pairs_more ws (cut / 2) (length ws / 2) (omega (arith, S.even))

  apart : Apart 0 (pairs ws (cut / 2) ++ pairs_from ws (cut / 2) (length ws / 2 - cut / 2))
  apart = rw whole at S.canonical

  at_cut : start ws (cut / 2) ≡ get_or ws cut 0
  at_cut = let q : 2 * (cut / 2) ≡ cut = omega arith in rw q

  pub sound_front : Sound (take cut ws)
  sound_front = record { even = rw (length-take-le cut ws (omega arith)) even; canonical = rw fronts (apart_front 0 (pairs ws (cut / 2)) _ apart) }

  pub sound_back : Sound (take (length ws - cut) (drop cut ws))
  sound_back = record { even = rw tail_length (omega (arith, S.even)); canonical = rw backs (apart_back 0 (pairs ws (cut / 2)) _ apart) }

  -- so both parts are accepted
  pub front_accepted : intervals_verdict (take cut ws) ≡ accepted
  front_accepted = sound_accepts (take cut ws) sound_front

  pub back_accepted : intervals_verdict (take (length ws - cut) (drop cut ws)) ≡ accepted
  back_accepted = sound_accepts (take (length ws - cut) (drop cut ws)) sound_back

  pub less_front : length (take cut ws) < length ws
  less_front = rw (length-take-le cut ws (omega arith)) l

  pub less_back : 0 < cut → length (take (length ws - cut) (drop cut ws)) < length ws
  less_back h = rw tail_length (omega arith)

  pub low : (p : ℕ) → p < get_or ws cut 0 → holds (intervals_of (take cut ws)) p ≡ holds (intervals_of ws) p
  low p h =
      let back : Apart 0 (pairs_from ws (cut / 2) (length ws / 2 - cut / 2)) = apart_back 0 (pairs ws (cut / 2)) _ apart in
      let none : holds (pairs_from ws (cut / 2) (length ws / 2 - cut / 2)) p ≡ false =
      (let up = rw first at back in rw first (holds_below (start ws (cut / 2)) _ p (omega arith, up.1, up.2) (omega (arith, at_cut)))) in
      rw (fronts, whole, holds_append (pairs ws (cut / 2)) (pairs_from ws (cut / 2) (length ws / 2 - cut / 2)) p, none, or-false)

  pub high : (p : ℕ) → get_or ws cut 0 ≤ p → holds (intervals_of (take (length ws - cut) (drop cut ws))) p ≡ holds (intervals_of ws) p
  high p h =
      let none : holds (pairs ws (cut / 2)) p ≡ false = apart_above 0 (pairs ws (cut / 2)) _ _ p (rw first at apart) (omega (arith, at_cut)) in
      rw (backs, whole, holds_append (pairs ws (cut / 2)) (pairs_from ws (cut / 2) (length ws / 2 - cut / 2)) p, none)
