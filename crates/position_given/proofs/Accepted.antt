-- The checks of intervals and of proved positions: a turn of each loop, and what an accepted list is. Assumes nothing.
use Rattle.std.specs.Prelude.{Result, Err}
use Prim.Native.Nat.{ℕ, suc, ◌+◌, ◌-◌, ◌%◌, ◌≤◌, ◌<◌}
use mathlib.Core.Path.{◌≡◌, refl, sym, ap, ◌∙◌}
use mathlib.Core.Bool.{Bool, true, false, cond, ◌&&◌}
use mathlib.Core.List.{List, [], ◌∷◌}
use native.Mathlib.Numerals.{add-one}
use native.Mathlib.Omega.{arith}
use lib.Dec.{ltb, eqb}
use lib.ListN.{length, get_or, drop, drop_of_length-le}
use lib.Seq.{drop-cons}
use borrow.Author.Tests.{lt-ltb, le-ltb, ltb-true, eq-eqb, eqb-true}
use Rattle.key_order.proofs.Impossible.{impossible}
use Rattle.intervals.specs.Intervals.{Interval, Apart, Canonical}
use Rattle.item_check.specs.declared.Refusal.{Refusal}
use Rattle.item_check.specs.Checks.{refused, Verdict, accepted}
use Rattle.item_check.proofs.Laws.{accepts}
use Rattle.pairs_sort.specs.Pairs.{start, finish, pairs_from, pairs}
use Rattle.pairs_sort.proofs.Laws.{pairs_more, pairs_end}
use Rattle.position_given.specs.Inner.{Sound, Ascends}
use Rattle.position_given.specs.Given.{intervals_of, even_verdict, first_touching, canonical_verdict, intervals_verdict, first_falling, ascending_verdict, proved_verdict}

-- a refusal is no acceptance
pub never_accepted : {X : Type 0} {r : Refusal} → Err r ≡ accepted → X
never_accepted e = impossible cc

-- ---- intervals

module _ (ws : List ℕ) (i count e : ℕ) where
  abbrev touching_left : ℕ → ℕ → Verdict
  touching_left f j = first_touching j f (pairs_from ws j (count - j))

  pub touching_end : count ≤ i → touching_left e i ≡ accepted
  unfolding first_touching
  touching_end h = rw (pairs_end ws i count h)

  pub touching_here : i < count → ltb e (start ws i) && ltb (start ws i) (finish ws i) ≡ false → touching_left e i ≡ refused 9 0 i
  unfolding first_touching
  touching_here h t = rw (pairs_more ws i count h, t)

  pub touching_next : i < count → ltb e (start ws i) && ltb (start ws i) (finish ws i) ≡ true → touching_left e i ≡ touching_left (finish ws i) (i + 1)
  unfolding first_touching
  touching_next h t = rw (pairs_more ws i count h, t, add-one i)

module _ (ws : List ℕ) (count : ℕ) where
  pub canonical_none : count ≡ 0 → canonical_verdict (pairs ws count) ≡ accepted
  unfolding canonical_verdict pairs_from
  canonical_none h = rw h

  pub canonical_first : 0 < count → finish ws 0 ≤ start ws 0 → canonical_verdict (pairs ws count) ≡ refused 9 0 0
  unfolding canonical_verdict pairs_from
  canonical_first h l = let q : count ≡ suc (count - 1) = omega arith in rw (q, le-ltb (start ws 0) (finish ws 0) l)

  pub canonical_start : 0 < count → start ws 0 < finish ws 0
      → canonical_verdict (pairs ws count) ≡ first_touching 1 (finish ws 0) (pairs_from ws 1 (count - 1))
  unfolding canonical_verdict pairs_from
  canonical_start h l =
      let q : count ≡ suc (count - 1) = omega arith in
      ap (λ (k : ℕ). canonical_verdict (pairs ws k)) q ∙ rw (lt-ltb (start ws 0) (finish ws 0) l)

pub touching_apart : (i e : ℕ) (A : List Interval) → first_touching i e A ≡ accepted → Apart (suc e) A
unfolding first_touching
touching_apart i e [] h = tt
touching_apart i e (a ∷ A) h = go (ltb e a.0) (ltb a.0 a.1) refl refl h (touching_apart (suc i) a.1 A)
  where
    go : (t u : Bool) → ltb e a.0 ≡ t → ltb a.0 a.1 ≡ u → cond (t && u) (first_touching (suc i) a.1 A) (refused 9 0 i) ≡ accepted
        → (first_touching (suc i) a.1 A ≡ accepted → Apart (suc a.1) A) → Apart (suc e) (a ∷ A)
    go true true p q r rest = (ltb-true e a.0 p, ltb-true a.0 a.1 q, rest r)
    go true false p q r rest = never_accepted r
    go false u p q r rest = never_accepted r

-- the other way round: what stands apart is accepted
apart_touching : (i e : ℕ) (A : List Interval) → Apart (suc e) A → first_touching i e A ≡ accepted
unfolding first_touching
apart_touching i e [] h = refl
apart_touching i e (a ∷ A) h = rw (lt-ltb e a.0 h.0, lt-ltb a.0 a.1 h.1) (apart_touching (suc i) a.1 A h.2)

pub canonical_accepted : (A : List Interval) → canonical_verdict A ≡ accepted → Canonical A
unfolding canonical_verdict
canonical_accepted [] h = tt
canonical_accepted (a ∷ A) h = go (ltb a.0 a.1) refl h
  where
    go : (t : Bool) → ltb a.0 a.1 ≡ t → cond t (first_touching 1 a.1 A) (refused 9 0 0) ≡ accepted → Canonical (a ∷ A)
    go true p r = (omega arith, ltb-true a.0 a.1 p, touching_apart 1 a.1 A r)
    go false p r = never_accepted r

-- canonical intervals are accepted
pub canonical_accepts : (A : List Interval) → Canonical A → canonical_verdict A ≡ accepted
unfolding canonical_verdict
canonical_accepts [] h = refl
canonical_accepts (a ∷ A) h = rw (lt-ltb a.0 a.1 h.1) (apart_touching 1 a.1 A h.2)

-- ---- proved positions

module _ (P : List ℕ) (i p : ℕ) where
  pub falling_end : length P ≤ i → first_falling i p (drop i P) ≡ accepted
  unfolding first_falling
  falling_end h = rw (drop_of_length-le P h)

  pub falling_here : i < length P → get_or P i 0 ≤ p → first_falling i p (drop i P) ≡ refused 8 1 i
  unfolding first_falling
  falling_here h l = rw (drop-cons P i 0 h, le-ltb p (get_or P i 0) l)

  pub falling_next : i < length P → p < get_or P i 0 → first_falling i p (drop i P) ≡ first_falling (i + 1) (get_or P i 0) (drop (i + 1) P)
  unfolding first_falling
  falling_next h l = rw (drop-cons P i 0 h, lt-ltb p (get_or P i 0) l, add-one i)

pub ascending_start : (P : List ℕ) → ascending_verdict P ≡ first_falling 1 (get_or P 0 0) (drop 1 P)
unfolding ascending_verdict first_falling
ascending_start [] = refl
ascending_start (p ∷ P) = refl

falling_ascends : (i p : ℕ) (P : List ℕ) → first_falling i p P ≡ accepted → Ascends (suc p) P
unfolding first_falling
falling_ascends i p [] h = tt
falling_ascends i p (q ∷ P) h = go (ltb p q) refl h (falling_ascends (suc i) q P)
  where
    go : (t : Bool) → ltb p q ≡ t → cond t (first_falling (suc i) q P) (refused 8 1 i) ≡ accepted
        → (first_falling (suc i) q P ≡ accepted → Ascends (suc q) P) → Ascends (suc p) (q ∷ P)
    go true e r rest = (ltb-true p q e, rest r)
    go false e r rest = never_accepted r

ascends_falling : (i p : ℕ) (P : List ℕ) → Ascends (suc p) P → first_falling i p P ≡ accepted
unfolding first_falling
ascends_falling i p [] h = refl
ascends_falling i p (q ∷ P) h = rw (lt-ltb p q h.0) (ascends_falling (suc i) q P h.1)

pub ascending_accepted : (P : List ℕ) → ascending_verdict P ≡ accepted → Ascends 0 P
unfolding ascending_verdict
ascending_accepted [] h = tt
ascending_accepted (p ∷ P) h = (omega arith, falling_ascends 1 p P h)

-- strictly ascending positions are accepted
pub ascending_accepts : (P : List ℕ) → Ascends 0 P → ascending_verdict P ≡ accepted
unfolding ascending_verdict
ascending_accepts [] h = refl
ascending_accepts (p ∷ P) h = ascends_falling 1 p P h.1

-- ---- what a call knows

-- where the intervals are refused, that is the verdict, whatever is proved
pub intervals_first : (ws P : List ℕ) (r : Refusal) → intervals_verdict ws ≡ Err r → proved_verdict ws P ≡ Err r
intervals_first ws P r h = rw h

pub sound : (ws : List ℕ) → intervals_verdict ws ≡ accepted → Sound ws
sound ws h =
    let both = (accepts (even_verdict 0 ws) (canonical_verdict (intervals_of ws))).0 h in
    record { even = go (eqb (length ws % 2) 0) refl both.0; canonical = canonical_accepted (intervals_of ws) both.1 }
  where
    go : (t : Bool) → eqb (length ws % 2) 0 ≡ t → cond t accepted (refused 1 0 0) ≡ accepted → length ws % 2 ≡ 0
    go true p q = eqb-true (length ws % 2) 0 p
    go false p q = never_accepted q

-- words in pairs, canonical, are accepted
pub sound_accepts : (ws : List ℕ) → Sound ws → intervals_verdict ws ≡ accepted
sound_accepts ws S = rw (eq-eqb (length ws % 2) 0 S.even) (canonical_accepts (intervals_of ws) S.canonical)

pub sound_of : (ws : List ℕ) (r : Result (Unit {0}) Refusal) → r ≡ intervals_verdict ws → r ≡ accepted → Sound ws
sound_of ws r e a = sound ws (sym e ∙ a)

-- both, intervals and proved positions

pub proved_accepted : (ws P : List ℕ) → proved_verdict ws P ≡ accepted → Sound ws × Ascends 0 P
proved_accepted ws P h =
    let both = (accepts (intervals_verdict ws) (ascending_verdict P)).0 h in
    (sound ws both.0, ascending_accepted P both.1)

pub proved_accepts : (ws P : List ℕ) → Sound ws → Ascends 0 P → proved_verdict ws P ≡ accepted
proved_accepts ws P S a = rw (sound_accepts ws S) (ascending_accepts P a)

pub sound_proved : (ws P : List ℕ) (r : Result (Unit {0}) Refusal) → r ≡ proved_verdict ws P → r ≡ accepted → Sound ws × Ascends 0 P
sound_proved ws P r e a = proved_accepted ws P (sym e ∙ a)
