-- The walk along intervals: a turn of `report_until`, and what a walk has reported when it has passed proved positions. Assumes nothing.
use Prim.Native.Nat.{ℕ, zero, suc, ◌+◌, ◌-◌, ◌/◌, ◌≤◌, ◌<◌, min, max}
use mathlib.Core.Path.{◌≡◌, refl, sym, ap, ◌∙◌}
use mathlib.Core.Bool.{Bool, true, false, not, ◌&&◌, ◌||◌, and-false, or-false, or-true, true≢false}
use mathlib.Core.List.{List, [], ◌∷◌, ◌++◌, append_assoc, append-nil}
use native.Mathlib.Decide.{dec_lt}
use native.Mathlib.Numerals.{add-one}
use native.Mathlib.Omega.{arith}
use lib.ListN.{length, length-append}
use lib.Dec.{ltb}
use borrow.Author.Tests.{lt-ltb, le-ltb}
use Rattle.intervals.specs.Lists.{keep}
use Rattle.intervals.specs.Intervals.{Interval, Apart, Canonical, inside, holds}
use Rattle.intervals.proofs.Members.{where_is, below, in_it, past, inside_below, inside_yes, inside_past}
use Rattle.intervals.proofs.Laws.{canonical→strict, holds_append, holds_below, keep_append}
use Rattle.pairs_sort.specs.Pairs.{start, finish, pairs_from, pairs}
use Rattle.pairs_sort.proofs.Laws.{pairs_more, pairs_end, pairs_snoc, pairs_append}
use Rattle.position_given.specs.Given.{intervals_of}
use Rattle.position_given.specs.Positions.{count_up, positions_of, is_in}
use Rattle.position_given.specs.Inner.{Sound, Ascends, last_word}
use Rattle.position_given.proofs.Rows.{positions_append}
use Rattle.position_given.proofs.Apart.{apart_back}
use Rattle.position_given.proofs.Widths.{Words, length_count, ends_of, ends_held}
use Rattle.position_report.specs.declared.PositionMismatch.{PositionMismatch}
use Rattle.position_report.specs.Reports.{report_of}
use Rattle.position_report.specs.Inner.{with_run}
use Rattle.position_report.proofs.Runs.{run_report}
use Rattle.position_mismatch.specs.declared.Walk.{Walk}
use Rattle.position_mismatch.specs.Reports.{missing}
use Rattle.position_mismatch.specs.Inner.{walk_at, with_gap, report_until, pairs_left, over_span}
use Rattle.position_given.proofs.Positions.{in_append, in_keep, in_positions, keep_same, keep_none, keep_run}
use Rattle.position_given.proofs.Positions.{ascends_keep, ascends_append, ascends_raise, ascends_positions, ascends_unique, length_ascends}

-- ---- a turn

module _ (ws : List ℕ) (count i from to : ℕ) (report : PositionMismatch) where
  abbrev until_left : ℕ → PositionMismatch → Walk
  until_left j r = report_until (pairs_from ws j (count - j)) (walk_at j from r) to

  pub until_end : count ≤ i → until_left i report ≡ walk_at i from report
  unfolding report_until
  until_end h = rw (pairs_end ws i count h)

  module _ (s m : ℕ) (r : PositionMismatch) (is-s : s ≡ max (start ws i) from) (is_m : m ≡ min (finish ws i) to) (is-r : r ≡ with_run report s (m - s)) where
    is_gap : r ≡ with_gap (start ws i, finish ws i) (walk_at i from report) to
    is_gap = rw (is-r, is_m, is-s)

    pub until_stop : i < count → to < finish ws i → until_left i report ≡ walk_at i from r
    unfolding report_until
    until_stop h l = rw (pairs_more ws i count h, lt-ltb to (finish ws i) l, is_gap)

    pub until_next : i < count → finish ws i ≤ to → until_left i report ≡ until_left (i + 1) r
    unfolding report_until
    until_next h l = rw (pairs_more ws i count h, le-ltb to (finish ws i) l, is_gap)

-- ---- what a walk reports

-- what is left of the intervals, from w's place on, below `to`, comes after what is reported already
pub until_report : (A : List Interval) (lo : ℕ) (w : Walk) (l : List ℕ) (to : ℕ) → Apart lo A → w.report ≡ report_of l
    → length l + length (keep (inside w.from to) (positions_of A)) ≤ last_word
    → (report_until A w to).report ≡ report_of (l ++ keep (inside w.from to) (positions_of A))
unfolding report_until
until_report [] lo w l to a e b = unfold positions_of keep in rw append-nil e
until_report (d ∷ A) lo w l to a e b =
    let x = w.from in
    let run : List ℕ = count_up (max d.0 x) (min d.1 to - max d.0 x) in
    let parts : keep (inside x to) (positions_of (d ∷ A)) ≡ run ++ keep (inside x to) (positions_of A) =
    (unfold positions_of in keep_append (inside x to) (count_up d.0 (d.1 - d.0)) (positions_of A) ∙ ap (λ (r : List ℕ). r ++ keep (inside x to) (positions_of A)) (keep_run d.0 d.1 x to)) in
    let sizes : length (keep (inside x to) (positions_of (d ∷ A))) ≡ length run + length (keep (inside x to) (positions_of A)) =
    ap length parts ∙ length-append run (keep (inside x to) (positions_of A)) in
    let wide : length run ≡ min d.1 to - max d.0 x = length_count (max d.0 x) (min d.1 to - max d.0 x) in
    let here : with_gap d w to ≡ report_of (l ++ run) =
    ap (λ (r : PositionMismatch). with_run r (max d.0 x) (min d.1 to - max d.0 x)) e
    ∙ run_report l (max d.0 x) (min d.1 to - max d.0 x) (omega (arith, sizes, wide)) in
    elim (dec_lt to d.1) [
      | yes h ↦
          let none : keep (inside x to) (positions_of A) ≡ [] = keep_none (inside x to) (positions_of A) (λ p q. above d.1 A p a.2 (sym (in_positions A p) ∙ q) x to (omega arith)) in
          rw (lt-ltb to d.1 h) (here ∙ ap report_of (sym (rw (parts, none, append-nil))))
      | no h ↦
          rw (le-ltb to d.1 (omega arith))
          (until_report A (suc d.1) (walk_at (w.pair + 1) x (with_gap d w to)) (l ++ run) to a.2 here
          (rw (length-append l run) (omega (arith, sizes)))
          ∙ ap report_of (rw (parts, append_assoc)))
    ]
  where
    above : (e : ℕ) (A : List Interval) (p : ℕ) → Apart (suc e) A → holds A p ≡ true → (x to : ℕ) → to ≤ e → inside x to p ≡ false
    above e A p a h x to l = elim (dec_lt p (suc e)) [
      | yes k ↦ absurd (true≢false (sym h ∙ holds_below (suc e) A p a k))
      | no k ↦ inside_past x to p (omega arith)
    ]

-- the pairs that are passed hold nothing at or past `to`
pub until_passed : (ws : List ℕ) (k i x : ℕ) (r : PositionMismatch) (to : ℕ) → ((p : ℕ) → to ≤ p → holds (pairs ws i) p ≡ false)
    → (p : ℕ) → to ≤ p → holds (pairs ws (report_until (pairs_from ws i k) (walk_at i x r) to).pair) p ≡ false
unfolding report_until pairs_from
until_passed ws zero i x r to h p l = h p l
until_passed ws (suc k) i x r to h p l = elim (dec_lt to (finish ws i)) [
  | yes t ↦ rw (lt-ltb to (finish ws i) t) (h p l)
  | no t ↦
      let more : (q : ℕ) → to ≤ q → holds (pairs ws (i + 1)) q ≡ false =
      (λ q m. rw (add-one i, pairs_snoc ws i 0 i (omega arith), holds_append (pairs ws i) ((start ws i, finish ws i) ∷ []) q, h q m) (last (start ws i) (finish ws i) q (omega arith))) in
      rw (le-ltb to (finish ws i) (omega arith), ← add-one i) (until_passed ws k (i + 1) x (with_gap (start ws i, finish ws i) (walk_at i x r) to) to more p l)
]
  where
    last : (s e q : ℕ) → e ≤ q → holds ((s, e) ∷ []) q ≡ false
    last s e q m = unfold holds in rw (inside_past s e q m)

pub until_within : (ws : List ℕ) (k i x : ℕ) (r : PositionMismatch) (to : ℕ) → (report_until (pairs_from ws i k) (walk_at i x r) to).pair ≤ i + k
unfolding report_until pairs_from
until_within ws zero i x r to = omega arith
until_within ws (suc k) i x r to = elim (dec_lt to (finish ws i)) [
  | yes t ↦ rw (lt-ltb to (finish ws i) t) (omega arith)
  | no t ↦ rw (le-ltb to (finish ws i) (omega arith), ← add-one i) (omega (arith, until_within ws k (i + 1) x (with_gap (start ws i, finish ws i) (walk_at i x r) to) to))
]

-- ---- what is missing below a position, g being what is proved

unfoldable pub done_by : List Interval → (ℕ → Bool) → ℕ → List ℕ
done_by A g x = keep (λ p. ltb p x && not (g p)) (positions_of A)

module _ (A : List Interval) (C : Canonical A) where
  ascending : Ascends 0 (positions_of A)
  ascending = ascends_positions 0 A (canonical→strict A C)

  pub done_none : (g : ℕ → Bool) → done_by A g 0 ≡ []
  unfolding done_by
  done_none g = keep_none (λ p. ltb p 0 && not (g p)) (positions_of A) (λ p e. rw (le-ltb p 0 (omega arith)))

  done_below : (g : ℕ → Bool) (x p : ℕ) → is_in (done_by A g x) p ≡ true → p < x
  unfolding done_by
  done_below g x p e = elim (dec_lt p x) [
    | yes h ↦ h
    | no h ↦ absurd (true≢false (sym e ∙ in_keep (λ q. ltb q x && not (g q)) (positions_of A) p ∙ rw (le-ltb p x (omega arith), and-false)))
  ]

  done_ascends : (g : ℕ → Bool) (x : ℕ) → Ascends 0 (done_by A g x)
  unfolding done_by
  done_ascends g x = ascends_keep 0 (λ q. ltb q x && not (g q)) (positions_of A) ascending

  -- no more than there are numbers below x
  pub done_few : (g : ℕ → Bool) (x : ℕ) → length (done_by A g x) ≤ x
  done_few g x = omega (arith, length_ascends 0 x (done_by A g x) (done_ascends g x) (omega arith) (done_below g x))

  pub done_more : (g : ℕ → Bool) (x s : ℕ) → x ≤ s → ((p : ℕ) → x ≤ p → p < s → g p ≡ false)
      → done_by A g x ++ keep (inside x s) (positions_of A) ≡ done_by A g s
  unfolding done_by
  done_more g x s l h =
      ascends_unique 0 0 (done_by A g x ++ keep (inside x s) (positions_of A)) (done_by A g s)
      (ascends_append 0 x (done_by A g x) (keep (inside x s) (positions_of A)) (omega arith) (done_ascends g x) (done_below g x)
      (ascends_raise 0 x (keep (inside x s) (positions_of A)) (ascends_keep 0 (inside x s) (positions_of A) ascending) from_x))
      (done_ascends g s)
      (λ p. rw (
        in_append (done_by A g x) (keep (inside x s) (positions_of A)) p,
        in_keep (λ q. ltb q x && not (g q)) (positions_of A) p,
        in_keep (inside x s) (positions_of A) p,
        in_keep (λ q. ltb q s && not (g q)) (positions_of A) p,
      ) (either p (is_in (positions_of A) p)))
    where
      from_x : (p : ℕ) → is_in (keep (inside x s) (positions_of A)) p ≡ true → x ≤ p
      from_x p e = elim (dec_lt p x) [
        | yes k ↦ absurd (true≢false (sym e ∙ in_keep (inside x s) (positions_of A) p ∙ rw (inside_below x s p k, and-false)))
        | no k ↦ omega arith
      ]

      either : (p : ℕ) (t : Bool) → (t && (ltb p x && not (g p))) || (t && inside x s p) ≡ t && (ltb p s && not (g p))
      either p false = refl
      either p true = elim (where_is x s p) [
        | below k ↦ rw (lt-ltb p x k, inside_below x s p k, lt-ltb p s (omega arith), or-false)
        | in_it j k ↦ rw (le-ltb p x j, inside_yes x s p j k, lt-ltb p s k, h p j k)
        | past k ↦ rw (le-ltb p x (omega arith), inside_past x s p k, le-ltb p s k)
      ]

  -- a span's own positions are proved, so that they are not missing
  pub done_over : (g g' : ℕ → Bool) (s e : ℕ) → s ≤ e → e ≤ last_word → ((p : ℕ) → p < last_word → g' p ≡ g p || inside s e p)
      → done_by A g s ≡ done_by A g' e
  unfolding done_by
  done_over g g' s e l f h = keep_same (λ p. ltb p s && not (g p)) (λ p. ltb p e && not (g' p)) (positions_of A) (λ p q. at p)
    where
      at : (p : ℕ) → ltb p s && not (g p) ≡ ltb p e && not (g' p)
      at p = elim (where_is s e p) [
        | below k ↦ rw (lt-ltb p s k, lt-ltb p e (omega arith), h p (omega arith), inside_below s e p k, or-false)
        | in_it j k ↦ rw (le-ltb p s j, lt-ltb p e k, h p (omega arith), inside_yes s e p j k, or-true)
        | past k ↦ rw (le-ltb p s (omega arith), le-ltb p e k)
      ]

-- ---- where a walk stands, g being what is proved so far

pub record Reached (ws : List ℕ) (g : ℕ → Bool) (w : Walk) : Type 0 where
  pub report : w.report ≡ report_of (done_by (intervals_of ws) g w.from)
  pub passed : (p : ℕ) → w.from ≤ p → holds (pairs ws w.pair) p ≡ false
  pub within : w.pair ≤ length ws / 2
  pub fits : w.from ≤ last_word
  pub ahead : (p : ℕ) → w.from ≤ p → p < last_word → g p ≡ false

pub reached_start : (ws : List ℕ) (g : ℕ → Bool) → Sound ws → ((p : ℕ) → p < last_word → g p ≡ false) → Reached ws g (walk_at 0 0 (report_of []))
unfolding holds pairs_from
reached_start ws g S h = record {
  report = ap report_of (sym (done_none (intervals_of ws) S.canonical g));
  passed = λ p l. refl;
  within = omega arith;
  fits = omega arith;
  ahead = λ p l k. h p k;
}

module _ (ws : List ℕ) (g : ℕ → Bool) (w : Walk) (S : Sound ws) (R : Reached ws g w) (s : ℕ) (l : w.from ≤ s) (f : s ≤ last_word) where
  abbrev rest : List Interval
  rest = pairs_left ws w

  split : intervals_of ws ≡ pairs ws w.pair ++ rest
  split =
      let q : length ws / 2 ≡ w.pair + (length ws / 2 - w.pair) = omega (arith, R.within) in
      let z : 0 + w.pair ≡ w.pair = omega arith in
      ap (λ (n : ℕ). pairs ws n) q ∙ pairs_append ws w.pair (length ws / 2 - w.pair) 0 ∙ ap (λ (j : ℕ). pairs ws w.pair ++ pairs_from ws j (length ws / 2 - w.pair)) z

  ahead_only : keep (inside w.from s) (positions_of (intervals_of ws)) ≡ keep (inside w.from s) (positions_of rest)
  ahead_only =
      let none : keep (inside w.from s) (positions_of (pairs ws w.pair)) ≡ [] =
      keep_none (inside w.from s) (positions_of (pairs ws w.pair)) (λ p e. before p (sym (in_positions (pairs ws w.pair) p) ∙ e)) in
      ap (λ (A : List Interval). keep (inside w.from s) (positions_of A)) split
      ∙ rw (positions_append (pairs ws w.pair) rest, keep_append (inside w.from s) (positions_of (pairs ws w.pair)) (positions_of rest), none)
    where
      before : (p : ℕ) → holds (pairs ws w.pair) p ≡ true → inside w.from s p ≡ false
      before p e = elim (dec_lt p w.from) [
        | yes k ↦ inside_below w.from s p k
        | no k ↦ absurd (true≢false (sym e ∙ R.passed p (omega arith)))
      ]

  pub reached_until : (report_until rest w s).report ≡ report_of (done_by (intervals_of ws) g s)
  reached_until =
      let A = intervals_of ws in
      let more : done_by A g w.from ++ keep (inside w.from s) (positions_of rest) ≡ done_by A g s =
      ap (λ (L : List ℕ). done_by A g w.from ++ L) (sym ahead_only) ∙ done_more A S.canonical g w.from s l (λ p a b. R.ahead p a (omega arith)) in
      until_report rest 0 w (done_by A g w.from) s (apart_back 0 (pairs ws w.pair) rest (rw split at S.canonical)) R.report
      (omega (arith, length-append (done_by A g w.from) (keep (inside w.from s) (positions_of rest)), ap length more, done_few A S.canonical g s))
      ∙ ap report_of more

  pub reached_over : (g' : ℕ → Bool) (e : ℕ) → s ≤ e → e ≤ last_word → ((p : ℕ) → p < last_word → g' p ≡ g p || inside s e p)
      → Reached ws g' (over_span ws w s e)
  reached_over g' e k m h = record {
    report = reached_until ∙ ap report_of (done_over (intervals_of ws) S.canonical g g' s e k m h);
    passed = λ p a. until_passed ws (length ws / 2 - w.pair) w.pair w.from w.report s (λ q b. R.passed q (omega arith)) p (omega arith);
    within = omega (arith, until_within ws (length ws / 2 - w.pair) w.pair w.from w.report s, R.within);
    fits = m;
    ahead = λ p a b. rw (h p b, R.ahead p (omega arith) b, inside_past s e p a);
  }

-- at the end of the walk all that is missing is reported
pub reached_end : (ws : List ℕ) (g : ℕ → Bool) (w : Walk) (P : List ℕ) → Words ws → Sound ws → Reached ws g w
    → ((p : ℕ) → p < last_word → g p ≡ is_in P p)
    → (report_until (pairs_left ws w) w last_word).report ≡ report_of (missing (intervals_of ws) P)
unfolding missing done_by
reached_end ws g w P W S R h =
    reached_until ws g w S R last_word R.fits (omega arith)
    ∙ ap report_of (keep_same (λ p. ltb p last_word && not (g p)) (λ p. not (is_in P p)) (positions_of (intervals_of ws)) (λ p e.
    let b : p < last_word = ends_held last_word (intervals_of ws) p (ends_of ws W (length ws / 2) 0) (sym (in_positions (intervals_of ws) p) ∙ e) in
    rw (lt-ltb p last_word b, h p b)))
