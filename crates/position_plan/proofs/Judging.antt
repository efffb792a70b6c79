-- The check of a plan, a window at a time. Assumes nothing.
use Prim.Native.Nat.{ℕ, ◌+◌, ◌-◌, ◌≤◌, ◌<◌}
use mathlib.Core.Path.{◌≡◌, refl, sym, ap, ◌∙◌}
use mathlib.Core.Bool.{Bool, true, false, ◌&&◌, true≢false, false≢true}
use mathlib.Core.List.{List, [], ◌∷◌}
use native.Mathlib.Decide.{dec_lt}
use native.Mathlib.Omega.{arith}
use lib.Dec.{leb, ltb, eqb}
use borrow.Author.Tests.{eq-eqb, eqb-true, lt-ltb, ltb-true, le-leb, lt-leb}
use Rattle.intervals.specs.Intervals.{Interval, holds}
use Rattle.intervals.proofs.Model.{Above}
use Rattle.intervals.proofs.Model.{Above}
use Rattle.intervals.proofs.Unique.{holds_head}
use Rattle.intervals.proofs.Members.{inside_below, inside_past}
use Rattle.intervals.proofs.Ordered.{above_le}
use Rattle.intervals.proofs.Laws.{All}
use Rattle.pairs_sort.specs.Pairs.{start, finish, pairs_from}
use Rattle.pairs_sort.proofs.Laws.{pairs_more, pairs_end}
use Rattle.key_order.proofs.Bools.{both_true}
use Rattle.position_given.specs.Given.{intervals_of}
use Rattle.position_given.specs.Positions.{is_in}
use Rattle.position_mismatch.specs.Reports.{missing}
use Rattle.position_plan.specs.declared.runs.Run.{Run}
use Rattle.position_plan.specs.Plans.{accepts}
use Rattle.position_plan.specs.Inner.{is_missing, AtRun, NextRun}
use Rattle.position_plan.proofs.Good.{GoodPlan, good_accepts, not_good}
use Rattle.position_plan.proofs.Greedy.{holds_later}

-- ---- a plan for the missing rows from row x on

pub record GoodFrom (W : ℕ) (f : ℕ → Bool) (x : ℕ) (Q : List Interval) : Type 0 where
  pub ascend : Above x Q
  pub narrow : All (λ w. w.1 - w.0 ≤ W) Q
  pub begin : All (λ w. f w.0 ≡ true) Q
  pub end : All (λ w. f (w.1 - 1) ≡ true) Q
  pub contain : (p : ℕ) → x ≤ p → f p ≡ true → holds Q p ≡ true

above_none : (lo : ℕ) (Q : List Interval) (p : ℕ) → Above lo Q → p < lo → holds Q p ≡ false
unfolding holds
above_none lo [] p a h = refl
above_none lo (w ∷ Q) p a h = rw (inside_below w.0 w.1 p (omega arith)) (above_none w.1 Q p a.2 (omega arith))

module _ (W : ℕ) (f : ℕ → Bool) (x : ℕ) where
  -- nothing is missing where no window is left
  pub from_none : GoodFrom W f x [] → (p : ℕ) → x ≤ p → f p ≡ false
  unfolding holds
  from_none A p h = go (f p) refl
    where
      go : (t : Bool) → f p ≡ t → f p ≡ false
      go true e = absurd (false≢true (A.contain p h e))
      go false e = e

  pub none_from : ((p : ℕ) → x ≤ p → f p ≡ false) → GoodFrom W f x []
  none_from h = record { ascend = tt; narrow = tt; begin = tt; end = tt; contain = λ p l e. absurd (true≢false (sym e ∙ h p l)) }

  module _ (s e : ℕ) (Q : List Interval) where
    -- the first missing row is the first window's start
    pub from_first : GoodFrom W f x ((s, e) ∷ Q) → (p : ℕ) → x ≤ p → p < s → f p ≡ false
    from_first A p h l = go (f p) refl
      where
        go : (t : Bool) → f p ≡ t → f p ≡ false
        go true k = absurd (true≢false (sym (A.contain p h k) ∙ above_none s ((s, e) ∷ Q) p (omega arith, A.ascend.1, A.ascend.2) l))
        go false k = k

    -- the others are a plan for the rows past it
    pub from_rest : GoodFrom W f x ((s, e) ∷ Q) → GoodFrom W f e Q
    unfolding holds
    from_rest A = record {
      ascend = A.ascend.2;
      narrow = A.narrow.1;
      begin = A.begin.1;
      end = A.end.1;
      contain = λ p h k. rw (inside_past s e p h) at (A.contain p (omega (arith, A.ascend.0, A.ascend.1)) k);
    }

    pub rest_from : x ≤ s → ((p : ℕ) → x ≤ p → p < s → f p ≡ false) → f s ≡ true → s < e → e - s ≤ W → f (e - 1) ≡ true
        → GoodFrom W f e Q → GoodFrom W f x ((s, e) ∷ Q)
    rest_from a n b l w d A = record {
      ascend = (a, l, A.ascend);
      narrow = (w, A.narrow);
      begin = (b, A.begin);
      end = (d, A.end);
      contain = λ p h k. elim (dec_lt p s) [
        | yes u ↦ absurd (true≢false (sym k ∙ n p h u))
        | no u ↦ elim (dec_lt p e) [
          | yes v ↦ holds_head (s, e) Q p (omega arith) v
          | no v ↦ holds_later (s, e) Q p (A.contain p (omega arith) k)
        ]
      ];
    }

-- a plan from row x on is one from row y on, where nothing is missing between
module _ (W : ℕ) (f : ℕ → Bool) (x y : ℕ) (l : x ≤ y) (none : (p : ℕ) → x ≤ p → p < y → f p ≡ false) (Q : List Interval) where
  pub from_skip : GoodFrom W f x Q → GoodFrom W f y Q
  from_skip G = record {
    ascend = up Q G.ascend G.begin;
    narrow = G.narrow;
    begin = G.begin;
    end = G.end;
    contain = λ p h k. G.contain p (omega arith) k;
  }
    where
      up : (Q : List Interval) → Above x Q → All (λ w. f w.0 ≡ true) Q → Above y Q
      up [] a b = tt
      up (w ∷ Q) a b = elim (dec_lt w.0 y) [
        | yes h ↦ absurd (true≢false (sym b.0 ∙ none w.0 a.0 h))
        | no h ↦ (omega arith, a.1, a.2)
      ]

  pub skip_from : GoodFrom W f y Q → GoodFrom W f x Q
  skip_from G = record {
    ascend = above_le x y Q l G.ascend;
    narrow = G.narrow;
    begin = G.begin;
    end = G.end;
    contain = λ p h k. elim (dec_lt p y) [
      | yes u ↦ absurd (true≢false (sym k ∙ none p h u))
      | no u ↦ G.contain p (omega arith) k
    ];
  }

-- from row 0 on is all
module _ (W : ℕ) (M : List ℕ) (Q : List Interval) where
  start_all : GoodFrom W (is_in M) 0 Q → GoodPlan W M Q
  start_all A = record { ascend = A.ascend; narrow = A.narrow; begin = A.begin; end = A.end; contain = λ p h. A.contain p (omega arith) h }

  all_start : GoodPlan W M Q → GoodFrom W (is_in M) 0 Q
  all_start A = record { ascend = A.ascend; narrow = A.narrow; begin = A.begin; end = A.end; contain = λ p l h. A.contain p h }

-- ---- whether a run starts at a row

-- as it is asked
pub is_at : (r : Run) (y : ℕ) → eqb r.start y && ltb r.start r.end ≡ true → (r.start ≡ y) × (r.start < r.end)
is_at r y h = let b = both_true (eqb r.start y) (ltb r.start r.end) h in (eqb-true r.start y b.0, ltb-true r.start r.end b.1)

at_is : (r : Run) (y : ℕ) → r.start ≡ y → r.start < r.end → eqb r.start y && ltb r.start r.end ≡ true
at_is r y e l = rw (eq-eqb r.start y e, lt-ltb r.start r.end l)

module _ (ws P : List ℕ) (r : Run) where
  -- a run that no missing row stands past has a row
  some : AtRun ws P r → (y : ℕ) → r.start ≤ y → is_missing ws P y ≡ true → r.start < r.end
  some R y l m = elim (dec_lt r.start r.end) [
    | yes h ↦ h
    | no h ↦ absurd (true≢false (sym m ∙ R.none (omega arith) y l))
  ]

  -- the first missing row is where it starts
  first_at : AtRun ws P r → (y : ℕ) → r.start ≤ y → is_missing ws P y ≡ true → ((p : ℕ) → r.start ≤ p → p < y → is_missing ws P p ≡ false)
      → eqb r.start y && ltb r.start r.end ≡ true
  first_at R y l m n =
      let has = some R y l m in
      at_is r y (elim (dec_lt r.start y) [
        | yes h ↦ absurd (true≢false (sym (R.all r.start (omega arith) has) ∙ n r.start (omega arith) h))
        | no h ↦ omega arith
      ]) has

  -- so is a missing row from which it is searched
  next_at : (y : ℕ) → NextRun ws P y r → is_missing ws P y ≡ true → eqb r.start y && ltb r.start r.end ≡ true
  next_at y F m =
      let same : r.start ≡ y = elim (dec_lt y r.start) [
        | yes h ↦ absurd (true≢false (sym m ∙ F.skipped y (omega arith) h))
        | no h ↦ omega (arith, F.after)
      ] in
      at_is r y same (some F.run y (omega arith) m)

-- ---- a turn of the check

-- the plan is good exactly if the windows from i on are, for the rows from the run on
pub record Judges (ws P : List ℕ) (W : ℕ) (vs : List ℕ) (count : ℕ) (first : Run) (i : ℕ) : Type 0 where
  pub yes : GoodFrom W (is_missing ws P) first.start (pairs_from vs i (count - i)) → GoodPlan W (missing (intervals_of ws) P) (pairs_from vs 0 count)
  pub no : GoodPlan W (missing (intervals_of ws) P) (pairs_from vs 0 count) → GoodFrom W (is_missing ws P) first.start (pairs_from vs i (count - i))
  pub run : AtRun ws P first

pub judges_start : {ws P : List ℕ} {W : ℕ} {vs : List ℕ} {count : ℕ} {first : Run} → NextRun ws P 0 first → Judges ws P W vs count first 0
judges_start {ws} {P} {W} {vs} {count} {first} F =
    let q : pairs_from vs 0 (count - 0) ≡ pairs_from vs 0 count = ap (pairs_from vs 0) (omega arith) in
    let M : List ℕ = missing (intervals_of ws) P in
    let Q : List Interval = pairs_from vs 0 count in record {
      yes = λ G. start_all W M Q (skip_from W (is_missing ws P) 0 first.start (omega arith) F.skipped Q (rw q at G));
      no = λ G. rw q (from_skip W (is_missing ws P) 0 first.start (omega arith) F.skipped Q (all_start W M Q G));
      run = F.run;
    }

module _ {ws P : List ℕ} {W : ℕ} {vs : List ℕ} {count : ℕ} {first : Run} {i : ℕ} (N : Judges ws P W vs count first i) where
  abbrev Whole : Type 0
  Whole = GoodPlan W (missing (intervals_of ws) P) (pairs_from vs 0 count)

  abbrev answer : Bool
  answer = accepts W (missing (intervals_of ws) P) (pairs_from vs 0 count)

  never : (Whole → ⊥) → false ≡ answer
  never n = sym (not_good W (missing (intervals_of ws) P) (pairs_from vs 0 count) n)

  module _ (h : i < count) where
    abbrev s : ℕ
    s = start vs i

    abbrev e : ℕ
    e = finish vs i

    abbrev rest : List Interval
    rest = pairs_from vs (i + 1) (count - (i + 1))

    -- the windows that are left, taken apart
    here : Whole → GoodFrom W (is_missing ws P) first.start ((s, e) ∷ rest)
    here G = rw (pairs_more vs i count h) at (N.no G)

    pub judges_empty : e ≤ s → false ≡ answer
    judges_empty l = never (λ G. omega (arith, (here G).ascend.1))

    pub judges_wide : W < e - s → false ≡ answer
    judges_wide l = never (λ G. omega (arith, (here G).narrow.0))

    pub judges_first : eqb first.start s && ltb first.start first.end ≡ false → false ≡ answer
    judges_first t = never (λ G.
        let B = here G in
        false≢true (sym t ∙ first_at ws P first N.run s B.ascend.0 B.begin.0 (from_first W (is_missing ws P) first.start s e rest B)))

    module _ {last : Run} (F : NextRun ws P (e - 1) last) where
      pub judges_last : eqb last.start (e - 1) && ltb last.start last.end ≡ false → false ≡ answer
      judges_last t = never (λ G. false≢true (sym t ∙ next_at ws P last (e - 1) F (here G).end.0))

      pub judges_more : eqb first.start s && ltb first.start first.end ≡ true → s < e → e - s ≤ W
          → eqb last.start (e - 1) && ltb last.start last.end ≡ true → {next : Run} → NextRun ws P e next → Judges ws P W vs count next (i + 1)
      judges_more t l n u {next} E =
          let f : ℕ → Bool = is_missing ws P in
          let begins = is_at first s t in
          let ends = is_at last (e - 1) u in
          let b : f s ≡ true = N.run.all s (omega (arith, begins)) (omega (arith, begins)) in
          let none : (p : ℕ) → first.start ≤ p → p < s → f p ≡ false = λ p x y. absurd (omega (arith, begins)) in
          let later = skip_from W f e next.start E.after E.skipped rest in
          let d : f (e - 1) ≡ true = F.run.all (e - 1) (omega (arith, ends)) (omega (arith, ends)) in record {
            yes = λ G. N.yes (rw (pairs_more vs i count h) (rest_from W f first.start s e rest (omega (arith, begins)) none b l n d (later G)));
            no = λ G. from_skip W f e next.start E.after E.skipped rest (from_rest W f first.start s e rest (here G));
            run = E.run;
          }

  -- no window is left
  pub judges_end : count ≤ i → leb first.end first.start ≡ answer
  judges_end h = elim (dec_lt first.start first.end) [
    | yes l ↦ rw (lt-leb first.end first.start l) (never (λ G.
        true≢false (sym (N.run.all first.start (omega arith) l) ∙ from_none W (is_missing ws P) first.start (rw (pairs_end vs i count h) at (N.no G)) first.start (omega arith))))
    | no l ↦ rw (le-leb first.end first.start (omega arith)) (sym (good_accepts W (missing (intervals_of ws) P) (pairs_from vs 0 count)
        (N.yes (rw (pairs_end vs i count h) (none_from W (is_missing ws P) first.start (N.run.none (omega arith)))))))
  ]
