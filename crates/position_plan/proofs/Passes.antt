-- The two passes of our planner over its windows: they are counted, and they are written. Assumes nothing.
use Prim.Native.Nat.{ℕ, suc, ◌+◌, ◌*◌, ◌/◌, ◌≤◌, ◌<◌, min}
use mathlib.Core.Path.{◌≡◌, refl, sym, ap, ◌∙◌}
use mathlib.Core.Bool.{true, false}
use mathlib.Core.List.{List}
use native.Mathlib.Omega.{arith}
use lib.ListN.{length, set, length-set}
use lib.Seq.{sets}
use lib.Dec.{leb}
use borrow.Author.Tests.{le-leb, lt-leb}
use Rattle.intervals.specs.Intervals.{Interval}
use Rattle.pairs_sort.specs.Pairs.{flat_pairs}
use Rattle.position_given.specs.Inner.{last_word}
use Rattle.position_given.proofs.Widths.{Words}
use Rattle.position_plan.specs.declared.runs.Run.{Run}
use Rattle.position_plan.specs.declared.windows.Window.{Window}
use Rattle.position_plan.specs.Plans.{plan_of}
use Rattle.position_plan.specs.Inner.{AtRun, NextRun, Plannable, Opens, NextWindow, windows_from, WriteWindows}
use Rattle.position_plan.proofs.Opening.{windows_all, windows_none, windows_some, opens_next}

-- n windows are passed, and those from a run on are left
pub record Passed (ws P : List ℕ) (W : ℕ) (r : Run) (n : ℕ) : Type 0 where
  pub count : length (plan_of W ws P) ≡ n + length (windows_from W ws P r.start)
  pub run : AtRun ws P r

module _ {ws P : List ℕ} {W : ℕ} (K : Plannable ws P W) where
  pub passed_start : {r : Run} → NextRun ws P 0 r → Passed ws P W r 0
  passed_start F = record { count = omega (arith, ap length (windows_all K F)); run = F.run }

  module _ {r : Run} {n : ℕ} (N : Passed ws P W r n) where
    pub passed_opens : r.start < r.end → Opens ws P r
    passed_opens h = record { run = N.run; some = h }

    pub passed_some : r.start < r.end → n < length (plan_of W ws P)
    passed_some h = omega (arith, N.count, windows_some K N.run h)

    pub passed_end : r.end ≤ r.start → length (plan_of W ws P) ≡ n
    passed_end h = omega (arith, N.count, ap length (windows_none K N.run h))

    -- the answers of the count
    pub passed_fits : {room : ℕ} → r.end ≤ r.start → n ≤ room → true ≡ leb (length (plan_of W ws P)) room
    passed_fits {room} h l = sym (le-leb (length (plan_of W ws P)) room (omega (arith, passed_end h)))

    pub passed_full : {room : ℕ} → r.start < r.end → n ≡ room → false ≡ leb (length (plan_of W ws P)) room
    passed_full {room} h l = sym (lt-leb (length (plan_of W ws P)) room (omega (arith, passed_some h)))

    -- the next window opens past the reach of this one
    module _ (U : Words ws) (h : r.start < r.end) {limit : ℕ} (is : limit ≡ min (r.start + W) last_word) {next : Run} (F : NextRun ws P limit next) where
      pub counted_fewer : length (windows_from W ws P next.start) < length (windows_from W ws P r.start)
      counted_fewer = omega (arith, opens_next K U (passed_opens h) is F)

      pub counted_more : Passed ws P W next (n + 1)
      counted_more = record { count = omega (arith, N.count, opens_next K U (passed_opens h) is F); run = F.run }

    module _ {w : Window} (F : NextWindow ws P W r w) where
      -- fewer windows are left
      pub fewer : length (windows_from W ws P w.next.start) < length (windows_from W ws P r.start)
      fewer = omega (arith, ap length F.one)

      pub passed_more : Passed ws P W w.next (n + 1)
      passed_more = record { count = omega (arith, N.count, ap length F.one); run = F.next }

-- n windows are written: the others, after them, make the whole
pub record Written (ws P : List ℕ) (W : ℕ) (old out : List ℕ) (r : Run) (n : ℕ) : Type 0 where
  pub passed : Passed ws P W r n
  pub whole : sets old 0 (flat_pairs (plan_of W ws P)) ≡ sets out (2 * n) (flat_pairs (windows_from W ws P r.start))
  pub size : length out ≡ length old

module _ {ws P : List ℕ} {W : ℕ} (K : Plannable ws P W) {old : List ℕ} where
  pub written_start : {r : Run} → NextRun ws P 0 r → Written ws P W old old r 0
  written_start F = record {
    passed = passed_start K F;
    whole = ap (λ (l : List Interval). sets old 0 (flat_pairs l)) (sym (windows_all K F));
    size = refl;
  }

  module _ {out : List ℕ} {r : Run} {n : ℕ} (N : Written ws P W old out r n) where
    -- a window that is left has room
    pub written_room : length (plan_of W ws P) ≤ length old / 2 → r.start < r.end → 2 * n + 1 < length out
    written_room l h = omega (arith, N.size, passed_some K N.passed h)

    pub written_more : {w : Window} → NextWindow ws P W r w
        → Written ws P W old (set (set out (2 * n) r.start) (2 * n + 1) w.end) w.next (n + 1)
    unfolding flat_pairs
    written_more {w} F =
        let one : suc (2 * n) ≡ 2 * n + 1 = omega arith in
        let two : suc (2 * n + 1) ≡ 2 * (n + 1) = omega arith in
        let rest : List ℕ = flat_pairs (windows_from W ws P w.next.start) in record {
          passed = passed_more K N.passed F;
          whole = N.whole ∙ ap (λ (l : List Interval). sets out (2 * n) (flat_pairs l)) F.one
              ∙ ap (λ (k : ℕ). sets (set (set out (2 * n) r.start) k w.end) (suc k) rest) one
              ∙ ap (λ (k : ℕ). sets (set (set out (2 * n) r.start) (2 * n + 1) w.end) k rest) two;
          size = simp length-set N.size;
        }

    pub written_end : r.end ≤ r.start → WriteWindows ws P W old n out
    unfolding flat_pairs
    written_end h = record {
      count = sym (passed_end K N.passed h);
      words = sym (N.whole ∙ ap (λ (l : List Interval). sets out (2 * n) (flat_pairs l)) (windows_none K N.passed.run h));
    }
