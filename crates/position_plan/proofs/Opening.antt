-- What the planner's searches start from, and the window that opens at a run. Assumes nothing.
use Prim.Native.Nat.{ℕ, suc, ◌+◌, ◌-◌, ◌/◌, ◌≤◌, ◌<◌, min}
use mathlib.Core.Path.{◌≡◌, refl, sym, ap, ◌∙◌}
use mathlib.Core.Bool.{Bool, true, false, true≢false}
use mathlib.Core.List.{List, [], ◌∷◌}
use native.Mathlib.Decide.{dec_lt}
use native.Mathlib.Omega.{arith}
use lib.ListN.{length}
use Rattle.position_given.specs.Given.{intervals_of}
use Rattle.position_given.specs.Inner.{Ascends, last_word}
use Rattle.position_given.proofs.Widths.{Words, ends_of, ends_held}
use Rattle.position_mismatch.specs.Reports.{missing}
use Rattle.position_mismatch.proofs.Laws.{missing_ascends}
use Rattle.position_plan.specs.declared.runs.Run.{Run}
use Rattle.position_plan.specs.Plans.{plan, plan_of}
use Rattle.position_plan.specs.Inner.{is_missing, Behind, Ahead, AtRun, NextRun, LastRow}
use Rattle.position_plan.specs.Inner.{Plannable, Opens, NextWindow, cut_at, left_from, windows_from}
use Rattle.position_plan.proofs.Search.{missing_held}
use Rattle.position_plan.proofs.Turns.{left_all, left_skip, plan_none, plan_close, plan_next}

-- the same places serve a later row
pub behind_le : {ws P : List ℕ} {i j x y : ℕ} → Behind ws P i j x → x ≤ y → Behind ws P i j y
behind_le B h = record { pairs = λ k l. omega (arith, B.pairs k l); rows = λ k l. omega (arith, B.rows k l) }

-- the search begins before the first pair and the first position
pub search_start : {ws P : List ℕ} → Behind ws P 0 0 0
search_start = record { pairs = λ k l. absurd (omega arith); rows = λ k l. absurd (omega arith) }

-- it goes back from a run, at a row that is no higher
pub search_back : {ws P : List ℕ} {y x : ℕ} {r : Run} → NextRun ws P y r → x ≤ r.start → Ahead ws P r.pair r.seen x
search_back F h = record { pairs = λ k a b. omega (arith, F.ahead.pairs k a b); rows = λ k a b. omega (arith, F.ahead.rows k a b) }

-- no row from the last u64 on is missing
missing_low : (ws P : List ℕ) → Words ws → (p : ℕ) → is_missing ws P p ≡ true → p < last_word
missing_low ws P U p h = ends_held last_word (intervals_of ws) p (ends_of ws U (length ws / 2) 0) (missing_held ws P p h)

module _ {ws P : List ℕ} {W : ℕ} (K : Plannable ws P W) where
  abbrev M : List ℕ
  M = missing (intervals_of ws) P

  pub rows_ascend : Ascends 0 M
  rows_ascend = missing_ascends (intervals_of ws) P K.sound.canonical

  -- the windows from the first run on are all
  pub windows_all : {r : Run} → NextRun ws P 0 r → windows_from W ws P r.start ≡ plan_of W ws P
  windows_all {r} F = ap (plan W) (sym (left_skip M rows_ascend 0 r.start (omega arith) F.skipped) ∙ left_all M rows_ascend)

  module _ {r : Run} (R : AtRun ws P r) where
    pub windows_none : r.end ≤ r.start → windows_from W ws P r.start ≡ []
    windows_none h = plan_none W M rows_ascend r.start (R.none h)

    pub windows_some : r.start < r.end → 0 < length (windows_from W ws P r.start)
    windows_some h = omega (arith, plan_next W M rows_ascend r.start K.wide (R.all r.start (omega arith) h))

-- ---- a window that opens at a run

module _ {ws P : List ℕ} {W : ℕ} (K : Plannable ws P W) (U : Words ws) {first : Run} (O : Opens ws P first) {limit : ℕ} (is-limit : limit ≡ min (first.start + W) last_word) where
  abbrev s : ℕ
  s = first.start

  abbrev rows : List ℕ
  rows = missing (intervals_of ws) P

  up : Ascends 0 rows
  up = rows_ascend K

  here : is_missing ws P s ≡ true
  here = O.run.all s (omega arith) O.some

  -- nothing is missing past the limit that is within W
  far : (p : ℕ) → limit ≤ p → p < s + W → is_missing ws P p ≡ false
  far p a b = go (is_missing ws P p) refl
    where
      go : (t : Bool) → is_missing ws P p ≡ t → is_missing ws P p ≡ false
      go true e = absurd (omega (arith, missing_low ws P U p e))
      go false e = e

  -- the next window opens at the first missing row from the limit on
  pub opens_next : {next : Run} → NextRun ws P limit next
      → length (windows_from W ws P s) ≡ suc (length (windows_from W ws P next.start))
  opens_next {next} F = plan_next W rows up s K.wide here ∙ ap (λ (L : List ℕ). suc (length (plan W L))) on
    where
      on : left_from (s + W) rows ≡ left_from next.start rows
      on = sym (left_skip rows up limit (s + W) (omega arith) far) ∙ left_skip rows up limit next.start F.after F.skipped

  -- it closes at the last missing row below the limit, and the missing rows go on with the next run
  pub window_closes : {e : ℕ} → LastRow ws P limit e → {next : Run} → limit ≤ next.start
      → ((p : ℕ) → limit ≤ p → p < next.start → is_missing ws P p ≡ false) → AtRun ws P next → NextWindow ws P W first (record { end = e; next = next })
  window_closes {e} E {next} after skipped R = record {
    one = plan_close W rows up s e here opens (omega (arith, E.within)) (E.here (omega (arith, opens))) none
        ∙ ap (λ (L : List ℕ). (s, e) ∷ plan W L) (sym (left_skip rows up limit (s + W) (omega arith) far) ∙ left_skip rows up limit next.start after skipped);
    next = R;
  }
    where
      within : s < limit
      within = omega (arith, missing_low ws P U s here, K.wide)

      opens : s < e
      opens = elim (dec_lt s e) [
        | yes u ↦ u
        | no u ↦ absurd (true≢false (sym here ∙ E.none s (omega arith) within))
      ]

      none : (p : ℕ) → e ≤ p → p < s + W → is_missing ws P p ≡ false
      none p a b = elim (dec_lt p limit) [ yes u ↦ E.none p a u | no u ↦ far p (omega arith) b ]

  -- the limit is within the run: it closes there, and the rest of the run is left
  pub window_cut : limit < first.end → NextWindow ws P W first (cut_at first limit)
  window_cut h = window_closes last (omega arith) (λ p a b. absurd (omega arith)) (record {
    all = λ p a b. O.run.all p (omega (arith, low)) b;
    none = λ l p a. absurd (omega arith);
    behind = behind_le O.run.behind (omega (arith, low));
  })
    where
      low : s < limit
      low = omega (arith, missing_low ws P U s here, K.wide)

      last : LastRow ws P limit limit
      last = record {
        within = omega arith;
        here = λ l. O.run.all (limit - 1) (omega (arith, low)) (omega arith);
        none = λ p a b. absurd (omega arith);
      }

  -- no other run is within the limit: it has the first one alone
  pub window_alone : first.end ≤ limit → {next : Run} → NextRun ws P first.end next → limit ≤ next.start
      → NextWindow ws P W first (record { end = first.end; next = next })
  window_alone h F l = window_closes last l (λ p a b. F.skipped p (omega arith) b) F.run
    where
      last : LastRow ws P limit first.end
      last = record {
        within = h;
        here = λ u. O.run.all (first.end - 1) (omega (arith, O.some)) (omega (arith, O.some));
        none = λ p a b. F.skipped p a (omega arith);
      }

  -- others are
  pub window_found : {e : ℕ} → LastRow ws P limit e → {next : Run} → NextRun ws P limit next → NextWindow ws P W first (record { end = e; next = next })
  window_found E F = window_closes E F.after F.skipped F.run
