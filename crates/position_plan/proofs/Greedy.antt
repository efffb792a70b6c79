-- The plan that ours proposes is accepted, and no windows that contain every missing row are fewer. Assumes nothing.
use Prim.Native.Nat.{ℕ, suc, ◌+◌, ◌-◌, ◌≤◌, ◌<◌}
use mathlib.Core.Path.{◌≡◌, refl, sym, ap, ◌∙◌}
use mathlib.Core.Bool.{Bool, true, false, cond, not, ◌&&◌, ◌||◌, false≢true, or-true}
use mathlib.Core.List.{List, [], ◌∷◌}
use native.Mathlib.Decide.{dec_lt, ℕ_discrete}
use native.Mathlib.Omega.{arith}
use lib.ListN.{length}
use borrow.Author.Tests.{lt-ltb, le-ltb}
use Rattle.intervals.specs.Lists.{keep}
use Rattle.intervals.specs.Intervals.{Interval, inside, holds}
use Rattle.intervals.proofs.Model.{Above}
use Rattle.intervals.proofs.Members.{where_is, below, in_it, past, inside_yes, inside_below, inside_past}
use Rattle.intervals.proofs.Unique.{holds_head}
use Rattle.intervals.proofs.Ordered.{above_le}
use Rattle.intervals.proofs.Laws.{All}
use Rattle.position_given.specs.Positions.{is_in}
use Rattle.position_given.specs.Inner.{Ascends}
use Rattle.position_given.proofs.Positions.{in_keep, in_head, in_tail, in_later}
use Rattle.position_plan.specs.Plans.{plan_from, plan}
use Rattle.position_plan.proofs.Good.{GoodPlan}

-- ---- lists

pub holds_later : (w : Interval) (L : List Interval) (p : ℕ) → holds L p ≡ true → holds (w ∷ L) p ≡ true
unfolding holds
holds_later w L p h = rw h (or-true (inside w.0 w.1 p))

in_other : (p q : ℕ) (M : List ℕ) → (q ≡ p → ⊥) → is_in (p ∷ M) q ≡ true → is_in M q ≡ true
in_other p q M n h = sym (in_tail p q M n) ∙ h

-- ---- accepted

-- what the planner makes of a window that is open, from s to e, and of the missing rows M that are left; f has the missing rows
record Opened (W : ℕ) (f : ℕ → Bool) (s e : ℕ) (M : List ℕ) (L : List Interval) : Type 0 where
  ascend : Above s L
  narrow : All (λ w. w.1 - w.0 ≤ W) L
  begin : All (λ w. f w.0 ≡ true) L
  end : All (λ w. f (w.1 - 1) ≡ true) L
  held : (p : ℕ) → s ≤ p → p < e → holds L p ≡ true
  contain : (p : ℕ) → is_in M p ≡ true → holds L p ≡ true

opened : (W : ℕ) (f : ℕ → Bool) (s e : ℕ) (M : List ℕ) → 0 < W → s < e → e ≤ s + W → f s ≡ true → f (e - 1) ≡ true → Ascends e M
    → ((p : ℕ) → is_in M p ≡ true → f p ≡ true) → Opened W f s e M (plan_from W s e M)
unfolding plan_from is_in
opened W f s e [] w l n b d a m = record {
  ascend = (omega arith, l, tt);
  narrow = (omega arith, tt);
  begin = (b, tt);
  end = (d, tt);
  held = λ p h k. holds_head (s, e) [] p h k;
  contain = λ p h. absurd (false≢true h);
}
opened W f s e (p ∷ M) w l n b d a m = elim (dec_lt p (s + W)) [
  | yes h ↦
      let here : f (suc p - 1) ≡ true = let q : suc p - 1 ≡ p = omega arith in rw q (m p (in_head p M)) in
      let more = opened W f s (suc p) M w (omega (arith, a.0)) (omega arith) b here a.1 (λ q k. m q (in_later p q M k)) in
      rw (lt-ltb p (s + W) h) (record {
        ascend = more.ascend;
        narrow = more.narrow;
        begin = more.begin;
        end = more.end;
        held = λ q j k. more.held q j (omega (arith, a.0));
        contain = λ q j. elim (ℕ_discrete q p) [
          | yes k ↦ more.held q (omega (arith, a.0)) (omega arith)
          | no k ↦ more.contain q (in_other p q M k j)
        ];
      })
  | no h ↦
      let here : f (suc p - 1) ≡ true = let q : suc p - 1 ≡ p = omega arith in rw q (m p (in_head p M)) in
      let more = opened W f p (suc p) M w (omega arith) (omega arith) (m p (in_head p M)) here a.1 (λ q k. m q (in_later p q M k)) in
      let L = plan_from W p (suc p) M in
      rw (le-ltb p (s + W) (omega arith)) (record {
        ascend = (omega arith, l, above_le e p L a.0 more.ascend);
        narrow = (omega arith, more.narrow);
        begin = (b, more.begin);
        end = (d, more.end);
        held = λ q j k. holds_head (s, e) L q j k;
        contain = λ q j. elim (ℕ_discrete q p) [
          | yes k ↦ holds_later (s, e) L q (more.held q (omega arith) (omega arith))
          | no k ↦ holds_later (s, e) L q (more.contain q (in_other p q M k j))
        ];
      })
]

-- its plans are always accepted
pub plan_good : (W : ℕ) (M : List ℕ) → 0 < W → Ascends 0 M → GoodPlan W M (plan W M)
unfolding plan is_in
plan_good W [] w a = record { ascend = tt; narrow = tt; begin = tt; end = tt; contain = λ p h. absurd (false≢true h) }
plan_good W (p ∷ M) w a =
    let here : is_in (p ∷ M) (suc p - 1) ≡ true = let q : suc p - 1 ≡ p = omega arith in rw q (in_head p M) in
    let more = opened W (is_in (p ∷ M)) p (suc p) M w (omega arith) (omega arith) (in_head p M) here a.1 (λ q k. in_later p q M k) in
    record {
      ascend = above_le 0 p (plan_from W p (suc p) M) (omega arith) more.ascend;
      narrow = more.narrow;
      begin = more.begin;
      end = more.end;
      contain = λ q j. elim (ℕ_discrete q p) [
        | yes k ↦ more.held q (omega arith) (omega arith)
        | no k ↦ more.contain q (in_other p q M k j)
      ];
    }

-- ---- fewest

-- each is at least W above the one before it, the first at or above lo
abbrev Spaced : ℕ → ℕ → List ℕ → Type 0
Spaced W lo [] = Unit {0}
Spaced W lo (p ∷ S) = (lo ≤ p) × Spaced W (p + W) S

abbrev opens : List Interval → List ℕ
opens [] = []
opens (w ∷ L) = w.0 ∷ opens L

opens_length : (L : List Interval) → length (opens L) ≡ length L
opens_length [] = refl
opens_length (w ∷ L) = ap suc (opens_length L)

spaced_le : (W lo lo' : ℕ) (S : List ℕ) → lo ≤ lo' → Spaced W lo' S → Spaced W lo S
spaced_le W lo lo' [] h s = tt
spaced_le W lo lo' (p ∷ S) h s = (omega arith, s.1)

-- a window opens past the reach of the one before it
opened_spaced : (W s e : ℕ) (M : List ℕ) → Spaced W s (opens (plan_from W s e M))
unfolding plan_from
opened_spaced W s e [] = (omega arith, tt)
opened_spaced W s e (p ∷ M) = elim (dec_lt p (s + W)) [
  | yes h ↦ rw (lt-ltb p (s + W) h) (opened_spaced W s (suc p) M)
  | no h ↦ rw (le-ltb p (s + W) (omega arith)) (omega arith, spaced_le W (s + W) p (opens (plan_from W p (suc p) M)) (omega arith) (opened_spaced W p (suc p) M))
]

plan_spaced : (W : ℕ) (M : List ℕ) → Spaced W 0 (opens (plan W M))
unfolding plan
plan_spaced W [] = tt
plan_spaced W (p ∷ M) = spaced_le W 0 p (opens (plan_from W p (suc p) M)) (omega arith) (opened_spaced W p (suc p) M)

-- those of S that a window does not contain
abbrev out_of : Interval → List ℕ → List ℕ
out_of w S = keep (λ p. not (inside w.0 w.1 p)) S

spaced_keep : (W lo : ℕ) (f : ℕ → Bool) (S : List ℕ) → Spaced W lo S → Spaced W lo (keep f S)
unfolding keep
spaced_keep W lo f [] s = tt
spaced_keep W lo f (p ∷ S) s = go (f p) (spaced_keep W (p + W) f S s.1)
  where
    go : (t : Bool) → Spaced W (p + W) (keep f S) → Spaced W lo (cond t (p ∷ keep f S) (keep f S))
    go true r = (s.0, r)
    go false r = spaced_le W lo (p + W) (keep f S) (omega (arith, s.0)) r

-- all of a list past a window are kept
out_past : (W lo : ℕ) (w : Interval) (S : List ℕ) → w.1 ≤ lo → Spaced W lo S → length (out_of w S) ≡ length S
unfolding keep
out_past W lo w [] h s = refl
out_past W lo w (p ∷ S) h s = rw (inside_past w.0 w.1 p (omega (arith, s.0))) (ap suc (out_past W (p + W) w S (omega (arith, s.0)) s.1))

-- a window at most W wide contains one of them at most
out_one : (W lo : ℕ) (w : Interval) (S : List ℕ) → w.1 - w.0 ≤ W → Spaced W lo S → length S ≤ suc (length (out_of w S))
unfolding keep
out_one W lo w [] h s = omega arith
out_one W lo w (p ∷ S) h s = elim (where_is w.0 w.1 p) [
  | below k ↦ rw (inside_below w.0 w.1 p k) (omega (arith, out_one W (p + W) w S h s.1))
  | in_it j k ↦ rw (inside_yes w.0 w.1 p j k) (omega (arith, out_past W (p + W) w S (omega arith) s.1))
  | past k ↦ rw (inside_past w.0 w.1 p k) (omega (arith, out_one W (p + W) w S h s.1))
]

-- windows that contain all of them are no fewer
spaced_few : (W : ℕ) (Q : List Interval) (S : List ℕ) → All (λ w. w.1 - w.0 ≤ W) Q → Spaced W 0 S
    → ((p : ℕ) → is_in S p ≡ true → holds Q p ≡ true) → length S ≤ length Q
unfolding holds
spaced_few W [] [] n s c = omega arith
spaced_few W [] (p ∷ S) n s c = absurd (false≢true (c p (in_head p S)))
spaced_few W (w ∷ Q) S n s c =
    let out : ℕ → Bool = λ p. not (inside w.0 w.1 p) in
    let others = spaced_few W Q (out_of w S) n.1 (spaced_keep W 0 out S s)
    (λ p h. rest p (is_in S p) (inside w.0 w.1 p) refl refl (sym (in_keep out S p) ∙ h) (c p)) in
    omega (arith, out_one W 0 w S n.0 s, others)
  where
    rest : (p : ℕ) (t u : Bool) → is_in S p ≡ t → inside w.0 w.1 p ≡ u → t && not u ≡ true
        → (is_in S p ≡ true → inside w.0 w.1 p || holds Q p ≡ true) → holds Q p ≡ true
    rest p true true x y h c = absurd (false≢true h)
    rest p true false x y h c = rw y at (c x)
    rest p false u x y h c = absurd (false≢true h)

opens_in : (M : List ℕ) (L : List Interval) → All (λ w. is_in M w.0 ≡ true) L → (p : ℕ) → is_in (opens L) p ≡ true → is_in M p ≡ true
unfolding is_in
opens_in M [] e p h = absurd (false≢true h)
opens_in M (w ∷ L) e p h = elim (ℕ_discrete p w.0) [
  | yes k ↦ rw k e.0
  | no k ↦ opens_in M L e.1 p (in_other w.0 p (opens L) k h)
]

-- windows at most W wide that contain every missing row, in whatever order, are no fewer than those of ours
pub plan_fewest : (W : ℕ) (M : List ℕ) (Q : List Interval) → 0 < W → Ascends 0 M → All (λ w. w.1 - w.0 ≤ W) Q
    → ((p : ℕ) → is_in M p ≡ true → holds Q p ≡ true) → length (plan W M) ≤ length Q
plan_fewest W M Q w a n c =
    rw (← opens_length (plan W M))
    (spaced_few W Q (opens (plan W M)) n (plan_spaced W M) (λ p h. c p (opens_in M (plan W M) (plan_good W M w a).begin p h)))
