-- What private functions require and promise: the search for missing rows, and the passes over windows. No public call is promised by these.
-- Definitions only. It serves 02 §9.2, §9.7. Assumes nothing.
use Rattle.std.specs.Prelude.{ℕ, ◌+◌, ◌-◌, ◌/◌, ◌≤◌, ◌<◌, ◌≡◌, Bool, true, false, List, ◌∷◌, length, get_or, leb}
use Rattle.std.proofs.lemmas.List.Edits.{sets}
use Rattle.intervals.specs.Lists.{keep}
use Rattle.intervals.specs.Intervals.{Interval}
use Rattle.pairs_sort.specs.Pairs.{start, finish, flat_pairs}
use Rattle.position_given.specs.Given.{intervals_of}
use Rattle.position_given.specs.Positions.{is_in}
use Rattle.position_given.specs.Inner.{Sound, Ascends}
use Rattle.position_mismatch.specs.Reports.{missing}
use Rattle.position_plan.specs.declared.runs.Run.{Run}
use Rattle.position_plan.specs.declared.windows.Window.{Window}
use Rattle.position_plan.specs.Plans.{plan, plan_of}

-- ---- the search

-- whether a row is missing
abbrev pub is_missing : List ℕ → List ℕ → ℕ → Bool
is_missing ws proved p = is_in (missing (intervals_of ws) proved) p

-- the pairs before i, and the proved positions before j, are below row x
pub record Behind (ws proved : List ℕ) (i j x : ℕ) : Type 0 where
  pub pairs : (k : ℕ) → k < i → finish ws k ≤ x
  pub rows : (k : ℕ) → k < j → get_or proved k 0 < x

-- the pairs past i, and the proved positions from j on, are at or above row x
pub record Ahead (ws proved : List ℕ) (i j x : ℕ) : Type 0 where
  pub pairs : (k : ℕ) → i < k → k < length ws / 2 → x ≤ start ws k
  pub rows : (k : ℕ) → j ≤ k → k < length proved → x ≤ get_or proved k 0

-- a run of missing rows; where it has none, no row from its start on is missing
pub record AtRun (ws proved : List ℕ) (r : Run) : Type 0 where
  pub all : (p : ℕ) → r.start ≤ p → p < r.end → is_missing ws proved p ≡ true
  pub none : r.end ≤ r.start → (p : ℕ) → r.start ≤ p → is_missing ws proved p ≡ false
  pub behind : Behind ws proved r.pair r.seen r.start

-- the first run from row x on
pub record NextRun (ws proved : List ℕ) (x : ℕ) (r : Run) : Type 0 where
  pub after : x ≤ r.start
  pub skipped : (p : ℕ) → x ≤ p → p < r.start → is_missing ws proved p ≡ false
  pub run : AtRun ws proved r
  pub ahead : Ahead ws proved r.pair r.seen r.start

-- the end r of the last missing row below row x, or 0
pub record LastRow (ws proved : List ℕ) (x r : ℕ) : Type 0 where
  pub within : r ≤ x
  pub here : 0 < r → is_missing ws proved (r - 1) ≡ true
  pub none : (p : ℕ) → r ≤ p → p < x → is_missing ws proved p ≡ false

-- the first index, from i on, at which a list of numbers is at or above x
pub record FirstFrom (l : List ℕ) (i x r : ℕ) : Type 0 where
  pub after : i ≤ r
  pub passed : (k : ℕ) → i ≤ k → k < r → get_or l k 0 < x
  pub found : r < length l → x ≤ get_or l r 0

-- the first index, from i on, at which a list of numbers does not go on with the rows s, s + 1 and so on that are below e
pub record GoesOn (l : List ℕ) (i s e r : ℕ) : Type 0 where
  pub after : i ≤ r
  pub rows : (k : ℕ) → i ≤ k → k < r → (k < length l) × (get_or l k 0 ≡ s + (k - i))
  pub below : i < r → s + (r - i) ≤ e
  pub stops : r < length l → s + (r - i) < e → get_or l r 0 ≡ s + (r - i) → ⊥

-- how many of the first numbers of a list there are up to the last one below x
pub record LastBelow (l : List ℕ) (to x r : ℕ) : Type 0 where
  pub before : r ≤ to
  pub passed : (k : ℕ) → r ≤ k → k < to → x ≤ get_or l k 0
  pub found : 0 < r → get_or l (r - 1) 0 < x

-- the index from which on the numbers of a list, up to index to, are the rows just before e that are not before s
pub record GoesBack (l : List ℕ) (to s e r : ℕ) : Type 0 where
  pub before : r ≤ to
  pub rows : (k : ℕ) → r ≤ k → k < to → get_or l k 0 + (to - k) ≡ e
  pub above : r < to → s + (to - r) ≤ e
  pub stops : 0 < r → s + (to - r) < e → get_or l (r - 1) 0 + 1 + (to - r) ≡ e → ⊥

-- ---- the windows

-- the missing rows from row x on
unfoldable pub left_from : ℕ → List ℕ → List ℕ
left_from x M = keep (leb x) M

-- the windows for the missing rows from row x on
abbrev pub windows_from : ℕ → List ℕ → List ℕ → ℕ → List Interval
windows_from W ws proved x = plan W (left_from x (missing (intervals_of ws) proved))

-- what a call knows that refuses nothing: intervals are canonical, proved positions ascend, and a window may have a row
pub record Plannable (ws proved : List ℕ) (W : ℕ) : Type 0 where
  pub sound : Sound ws
  pub ascends : Ascends 0 proved
  pub wide : 0 < W

-- what a window opens at: a run that has a row
pub record Opens (ws proved : List ℕ) (r : Run) : Type 0 where
  pub run : AtRun ws proved r
  pub some : r.start < r.end

-- the window that opens at a run, and the run that is left after it
pub record NextWindow (ws proved : List ℕ) (W : ℕ) (r : Run) (w : Window) : Type 0 where
  pub one : windows_from W ws proved r.start ≡ (r.start, w.end) ∷ windows_from W ws proved w.next.start
  pub next : AtRun ws proved w.next

-- the window that ends within a run, whose other rows are left
abbrev pub cut_at : Run → ℕ → Window
cut_at r limit = record { end = limit; next = record { start = limit; end = r.end; pair = r.pair; seen = r.seen } }

-- ---- the call

-- the windows are written: how many, and what is lent afterwards
pub record WriteWindows (ws proved : List ℕ) (W : ℕ) (old : List ℕ) (n : ℕ) (new : List ℕ) : Type 0 where
  pub count : n ≡ length (plan_of W ws proved)
  pub words : new ≡ sets old 0 (flat_pairs (plan_of W ws proved))
