-- What it is for a plan to be accepted, one statement for each test. Assumes nothing.
use Prim.Native.Nat.{ℕ, ◌-◌, ◌≤◌}
use mathlib.Core.Path.{◌≡◌, refl, sym, ◌∙◌}
use mathlib.Core.Bool.{Bool, true, false, ◌&&◌, false≢true}
use mathlib.Core.List.{List, [], ◌∷◌}
use native.Mathlib.Decide.{ℕ_discrete}
use lib.Dec.{leb, ltb}
use borrow.Author.Tests.{leb-true, ltb-true, le-leb, lt-ltb}
use Rattle.intervals.specs.Intervals.{Interval, holds}
use Rattle.intervals.proofs.Model.{Above, Strict}
use Rattle.intervals.proofs.Laws.{All}
use Rattle.key_order.proofs.Bools.{both_true}
use Rattle.position_given.specs.Positions.{is_in}
use Rattle.position_given.proofs.Positions.{in_head, in_tail, in_later}
use Rattle.position_plan.specs.Plans.{ascending, narrow, begins, ends, each, accepts}

-- 02 §9.2: the plan Q for the missing rows M
pub record GoodPlan (W : ℕ) (M : List ℕ) (Q : List Interval) : Type 0 where
  pub ascend : Strict Q
  pub narrow : All (λ w. w.1 - w.0 ≤ W) Q
  pub begin : All (λ w. is_in M w.0 ≡ true) Q
  pub end : All (λ w. is_in M (w.1 - 1) ≡ true) Q
  pub contain : (p : ℕ) → is_in M p ≡ true → holds Q p ≡ true

-- ---- tests and facts

each_all : {A : Type 0} (f : A → Bool) (L : List A) → each f L ≡ true → All (λ a. f a ≡ true) L
unfolding each
each_all f [] h = tt
each_all f (a ∷ L) h = let k = both_true (f a) (each f L) h in (k.0, each_all f L k.1)

all_each : {A : Type 0} (f : A → Bool) (L : List A) → All (λ a. f a ≡ true) L → each f L ≡ true
unfolding each
all_each f [] h = refl
all_each f (a ∷ L) h = rw h.0 (all_each f L h.1)

each_in : (f : ℕ → Bool) (M : List ℕ) → each f M ≡ true → (p : ℕ) → is_in M p ≡ true → f p ≡ true
unfolding each
each_in f [] h p i = absurd (false≢true (unfold is_in in i))
each_in f (q ∷ M) h p i = let k = both_true (f q) (each f M) h in elim (ℕ_discrete p q) [
  | yes e ↦ rw e k.0
  | no e ↦ each_in f M k.1 p (sym (in_tail q p M e) ∙ i)
]

in_each : (f : ℕ → Bool) (M : List ℕ) → ((p : ℕ) → is_in M p ≡ true → f p ≡ true) → each f M ≡ true
unfolding each
in_each f [] h = refl
in_each f (q ∷ M) h = rw (h q (in_head q M)) (in_each f M (λ p i. h p (in_later q p M i)))

ascending_above : (e : ℕ) (Q : List Interval) → ascending e Q ≡ true → Above e Q
unfolding ascending
ascending_above e [] h = tt
ascending_above e (w ∷ Q) h =
    let k = both_true (leb e w.0 && ltb w.0 w.1) (ascending w.1 Q) h in
    let l = both_true (leb e w.0) (ltb w.0 w.1) k.0 in
    (leb-true e w.0 l.0, ltb-true w.0 w.1 l.1, ascending_above w.1 Q k.1)

above_ascending : (e : ℕ) (Q : List Interval) → Above e Q → ascending e Q ≡ true
unfolding ascending
above_ascending e [] h = refl
above_ascending e (w ∷ Q) h = rw (le-leb e w.0 h.0, lt-ltb w.0 w.1 h.1) (above_ascending w.1 Q h.2)

narrow_few : (W : ℕ) (Q : List Interval) → each (narrow W) Q ≡ true → All (λ w. w.1 - w.0 ≤ W) Q
unfolding each
narrow_few W [] h = tt
narrow_few W (w ∷ Q) h = let k = both_true (narrow W w) (each (narrow W) Q) h in (leb-true (w.1 - w.0) W k.0, narrow_few W Q k.1)

few_narrow : (W : ℕ) (Q : List Interval) → All (λ w. w.1 - w.0 ≤ W) Q → each (narrow W) Q ≡ true
unfolding each
few_narrow W [] h = refl
few_narrow W (w ∷ Q) h = rw (le-leb (w.1 - w.0) W h.0) (few_narrow W Q h.1)

-- ---- accepted exactly if good

module _ (W : ℕ) (M : List ℕ) (Q : List Interval) where
  pub accepts_good : accepts W M Q ≡ true → GoodPlan W M Q
  accepts_good h =
      let k4 = both_true (ascending 0 Q && each (narrow W) Q && each (begins M) Q && each (ends M) Q) (each (holds Q) M) h in
      let k3 = both_true (ascending 0 Q && each (narrow W) Q && each (begins M) Q) (each (ends M) Q) k4.0 in
      let k2 = both_true (ascending 0 Q && each (narrow W) Q) (each (begins M) Q) k3.0 in
      let k1 = both_true (ascending 0 Q) (each (narrow W) Q) k2.0 in record {
        ascend = ascending_above 0 Q k1.0;
        narrow = narrow_few W Q k1.1;
        begin = each_all (begins M) Q k2.1;
        end = each_all (ends M) Q k3.1;
        contain = each_in (holds Q) M k4.1;
      }

  pub good_accepts : GoodPlan W M Q → accepts W M Q ≡ true
  good_accepts g =
      rw (above_ascending 0 Q g.ascend, few_narrow W Q g.narrow, all_each (begins M) Q g.begin, all_each (ends M) Q g.end, in_each (holds Q) M g.contain)

  pub not_good : (GoodPlan W M Q → ⊥) → accepts W M Q ≡ false
  not_good n = go (accepts W M Q) refl
    where
      go : (t : Bool) → accepts W M Q ≡ t → accepts W M Q ≡ false
      go true e = absurd (n (accepts_good e))
      go false e = e
