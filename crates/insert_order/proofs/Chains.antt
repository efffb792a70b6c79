-- Chains over the indices of a range: what `any`, `find` and `rfind` say, where the closure computes a test of its index and stays as it is.
-- Assumes nothing.
use Prim.Native.Nat.{ℕ, ◌+◌, ◌-◌, ◌≤◌, ◌<◌}
use mathlib.Core.Path.{◌≡◌, refl, sym, ap, ◌∙◌}
use mathlib.Core.Bool.{Bool, true, false, true≢false}
use native.Mathlib.Omega.{arith}
use denote.Ref.{Bor}
use denote.Param.Members.{Mut, Called}
use Rattle.std.specs.Bool.{MatchBool, IsTrue}
use Rattle.std.specs.Option.{option_map, MatchOption}
use Rattle.std.specs.declared.option.Option.{Option}
use Rattle.std.specs.declared.option.Option.TheVariants.{None, Some}
use Rattle.std.specs.declared.ops.Range.{Range}
use Rattle.std.specs.Iterator.Runs.{Run, SomeRun, CallKeepsClosure, AnyItemGives, AllItemsGive, NoItemPasses, EndsAtFirstPassing}
use Rattle.std.specs.Fn.{CalledAt}
use Rattle.std.proofs.iter.Yields.{nat_range_steps}
use Rattle.std.proofs.iter.runs.Sources.{range_runs, range_runs_back, nat_range_steps_back}

same_at : (o : Option ℕ) (n : ℕ) → option_map (λ y. y) o ≡ Some n → o ≡ Some n
same_at None n e = cc
same_at (Some x) n e = e

-- `any` over the indices of a range
abbrev pub AnyRuns : {F : Type 0} → Mut F (ℕ × Unit {0}) Bool → F → Range ℕ → Bool → Type 0
AnyRuns g f s r = SomeRun nat_range_steps s (λ p. MatchBool r (AnyItemGives p g f true) (IsTrue p.whole × AllItemsGive p g f false))

-- the item at a place of a run, from the front and from the back
at : (s : Range ℕ) (p : Run nat_range_steps) → p.from ≡ s → (k : ℕ) → k < p.len → p.at k ≡ Some (s.start + k)
at s p e k l = same_at (p.at k) (s.start + k) (rw e at ((range_runs p p.seen).3 k l))

at_back : (s : Range ℕ) (p : Run nat_range_steps_back) → p.from ≡ s → (k : ℕ) → k < p.len → p.at k ≡ Some (s.end - 1 - k)
at_back s p e k l = same_at (p.at k) (s.end - 1 - k) (rw e at ((range_runs_back p p.seen).3 k l))

module _ {F : Type 0} (g : Mut F (ℕ × Unit {0}) Bool) (f : F) (s : Range ℕ) (t : ℕ → Bool) (keeps : CallKeepsClosure g f)
    (gives : (x : ℕ) (r : Bool) → Called g f (x, tt) r f → r ≡ t x) where
  any_none : AnyRuns g f s false → (j : ℕ) → s.start ≤ j → j < s.end → t j ≡ false
  any_none run j h l =
      let p = run.0 in
      let whole : p.len ≡ s.end - s.start = rw run.1 at ((range_runs p p.seen).1 run.2.0) in
      let k : s.start + (j - s.start) ≡ j = omega arith in
      let item : p.at (j - s.start) ≡ Some j = at s p run.1 (j - s.start) (omega arith) ∙ ap Some k in
      sym (gives j false (rw item at (run.2.1 keeps (j - s.start))))

  any_some : AnyRuns g f s true → (j : ℕ) × (s.start ≤ j) × (j < s.end) × (t j ≡ true)
  any_some run =
      let p = run.0 in
      let long : p.len ≤ s.end - s.start = rw run.1 at ((range_runs p p.seen).0) in
      let hit = run.2 keeps in
      let item : p.at hit.0 ≡ Some (s.start + hit.0) = at s p run.1 hit.0 hit.1 in
      (s.start + hit.0, omega arith, omega (arith, hit.1), sym (gives (s.start + hit.0) true (rw item at hit.2)))

  -- it is false exactly where the test is, of every index
  pub any_by : (r : Bool) → AnyRuns g f s r
      → (r ≡ false → (j : ℕ) → s.start ≤ j → j < s.end → t j ≡ false) × (((j : ℕ) → s.start ≤ j → j < s.end → t j ≡ false) → r ≡ false)
  any_by false run = (λ e. any_none run, λ h. refl)
  any_by true run = (λ e. absurd (true≢false e), λ h. let w = any_some run in absurd (true≢false (sym w.3 ∙ h w.0 w.1 w.2)))

-- `find` over the indices of a range, from the front or from the back
abbrev pub FindRuns : {F : Type 0} → Mut F (Bor ℕ × Unit {0}) Bool → F → Range ℕ → Option ℕ → Type 0
FindRuns g f s r = SomeRun nat_range_steps s (λ p. MatchOption r (IsTrue p.whole × NoItemPasses p g f) (EndsAtFirstPassing p g f))

abbrev pub FindBackRuns : {F : Type 0} → Mut F (Bor ℕ × Unit {0}) Bool → F → Range ℕ → Option ℕ → Type 0
FindBackRuns g f s r = SomeRun nat_range_steps_back s (λ p. MatchOption r (IsTrue p.whole × NoItemPasses p g f) (EndsAtFirstPassing p g f))

-- the first index that passes a test, and the last one
module _ (s : Range ℕ) (t : ℕ → Bool) (i : ℕ) where
  pub record First : Type 0 where
    pub from : s.start ≤ i
    pub below : i < s.end
    pub passes : t i ≡ true
    pub others : (j : ℕ) → s.start ≤ j → j < i → t j ≡ false

  pub record Last : Type 0 where
    pub from : s.start ≤ i
    pub below : i < s.end
    pub passes : t i ≡ true
    pub others : (j : ℕ) → i < j → j < s.end → t j ≡ false

module _ {F : Type 0} (g : Mut F (Bor ℕ × Unit {0}) Bool) (f : F) (s : Range ℕ) (t : ℕ → Bool) (keeps : CallKeepsClosure g f)
    (gives : (x : ℕ) (r : Bool) → CalledAt g f x r f → r ≡ t x) where
  find_none : FindRuns g f s None → (j : ℕ) → s.start ≤ j → j < s.end → t j ≡ false
  find_none run j h l =
      let p = run.0 in
      let whole : p.len ≡ s.end - s.start = rw run.1 at ((range_runs p p.seen).1 run.2.0) in
      let k : s.start + (j - s.start) ≡ j = omega arith in
      let item : p.at (j - s.start) ≡ Some j = at s p run.1 (j - s.start) (omega arith) ∙ ap Some k in
      sym (gives j false (rw item at (run.2.1 keeps (j - s.start))))

  find_some : (i : ℕ) → FindRuns g f s (Some i) → First s t i
  find_some i run =
      let p = run.0 in
      let end = run.2 in
      let long : p.len ≤ s.end - s.start = rw run.1 at ((range_runs p p.seen).0) in
      let is : s.start + end.0 ≡ i = let e = sym (at s p run.1 end.0 (omega (arith, end.1))) ∙ end.2 in cc in
      let called = end.3 keeps in
      record {
        from = omega arith;
        below = omega (arith, end.1);
        passes = sym (gives i true called.0);
        others = λ j h l.
            let k : s.start + (j - s.start) ≡ j = omega arith in
            let less : j - s.start < end.0 = omega arith in
            let item : p.at (j - s.start) ≡ Some j = at s p run.1 (j - s.start) (omega (arith, end.1)) ∙ ap Some k in
            sym (gives j false (rw item at (called.1 (j - s.start) less)));
      }

  pub find_by : (r : Option ℕ) → FindRuns g f s r → MatchOption r ((j : ℕ) → s.start ≤ j → j < s.end → t j ≡ false) (First s t)
  find_by None run = find_none run
  find_by (Some i) run = find_some i run

  pub rfind_none : FindBackRuns g f s None → (j : ℕ) → s.start ≤ j → j < s.end → t j ≡ false
  rfind_none run j h l =
      let p = run.0 in
      let whole : p.len ≡ s.end - s.start = rw run.1 at ((range_runs_back p p.seen).1 run.2.0) in
      let k : s.end - 1 - (s.end - 1 - j) ≡ j = omega arith in
      let item : p.at (s.end - 1 - j) ≡ Some j = at_back s p run.1 (s.end - 1 - j) (omega arith) ∙ ap Some k in
      sym (gives j false (rw item at (run.2.1 keeps (s.end - 1 - j))))

  pub rfind_some : (i : ℕ) → FindBackRuns g f s (Some i) → Last s t i
  rfind_some i run =
      let p = run.0 in
      let end = run.2 in
      let long : p.len ≤ s.end - s.start = rw run.1 at ((range_runs_back p p.seen).0) in
      let is : s.end - 1 - end.0 ≡ i = let e = sym (at_back s p run.1 end.0 (omega (arith, end.1))) ∙ end.2 in cc in
      let called = end.3 keeps in
      record {
        from = omega (arith, end.1);
        below = omega (arith, end.1);
        passes = sym (gives i true called.0);
        others = λ j h l.
            let k : s.end - 1 - (s.end - 1 - j) ≡ j = omega arith in
            let less : s.end - 1 - j < end.0 = omega (arith, end.1) in
            let item : p.at (s.end - 1 - j) ≡ Some j = at_back s p run.1 (s.end - 1 - j) (omega (arith, end.1)) ∙ ap Some k in
            sym (gives j false (rw item at (called.1 (s.end - 1 - j) less)));
      }
