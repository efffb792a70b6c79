-- Any sequence of changes of a stored list that is kept: its total stays right, which rows are covered then, and that no list of pairs that
-- covers these has fewer. Stated of the calls' own answers and of the words that they leave. No contract cites this file. Assumes nothing.
use Rattle.std.specs.Prelude.{Ok, Err}
use Prim.Native.Nat.{ℕ, ◌*◌, ◌≤◌}
use mathlib.Core.Path.{◌≡◌, refl, sym, ap, ◌∙◌}
use mathlib.Core.Bool.{Bool, not, ◌&&◌, ◌||◌}
use mathlib.Core.List.{List, [], ◌∷◌, ◌++◌}
use native.Mathlib.Omega.{arith}
use lib.ListN.{length, take}
use Rattle.intervals.specs.Intervals.{Interval, Canonical, inside, holds}
use Rattle.intervals.specs.Cover.{cover, uncover}
use Rattle.intervals.proofs.Laws as interval
use Rattle.item_check.specs.Checks.{Answer}
use Rattle.pairs_sort.specs.Pairs.{pairs}
use Rattle.pairs_sort.proofs.Laws.{pairs_take, pairs_longer}
use Rattle.position_stored.specs.Stored.{change_answer, change_words, cover_answer, cover_words, uncover_answer, uncover_words}
use Rattle.position_stored.specs.Inner.{StoredList}
use Rattle.position_stored.proofs.Again.{changed, changed_pairs, changed_stored}
use Rattle.position_stored.proofs.Laws.{stored_fewest, stored_unique, stored_room, stored_longer, stored_alone}

-- ---- what is kept, and what is done to it

-- what is done to a list that is kept: a range is covered or uncovered, the buffer gets more words, or the list is copied without spare ones
pub data Step : Type 0 where
  covering : ℕ → ℕ → Step
  uncovering : ℕ → ℕ → Step
  growing : List ℕ → Step
  copying : Step

-- what a caller keeps: the words, how many pairs, the total
pub record Kept : Type 0 where
  pub words : List ℕ
  pub count : ℕ
  pub total : ℕ

-- the words that a call has left, and the numbers of its answer; where it refuses the numbers are as they were
abbrev pub after : Kept → List ℕ → Answer (ℕ × ℕ) → Kept
after k vs (Ok a) = record { words = vs; count = a.0; total = a.1 }
after k vs (Err r) = record { words = vs; count = k.count; total = k.total }

abbrev pub step : Kept → Step → Kept
step k (covering s e) = after k (cover_words k.words k.count k.total s e) (cover_answer k.words k.count k.total s e)
step k (uncovering s e) = after k (uncover_words k.words k.count k.total s e) (uncover_answer k.words k.count k.total s e)
step k (growing R) = record { words = k.words ++ R; count = k.count; total = k.total }
step k copying = record { words = take (2 * k.count) k.words; count = k.count; total = k.total }

abbrev pub steps : Kept → List Step → Kept
steps k [] = k
steps k (x ∷ xs) = steps (step k x) xs

abbrev pub Right : Kept → Type 0
Right k = StoredList k.words k.count k.total

-- ---- the total

-- a change of a list that is kept, answered or refused: it is right where what an answered one leaves is
change_right : (k : Kept) (A : List Interval) → Right k → Canonical A
    → Right (after k (change_words k.words k.count k.total A) (change_answer k.words k.count k.total A))
change_right k A R C = go (change_answer k.words k.count k.total A) refl
  where
    go : (r : Answer (ℕ × ℕ)) → change_answer k.words k.count k.total A ≡ r
        → Right (after k (change_words k.words k.count k.total A) r)
    go (Ok a) q = changed_stored (changed k.words k.count k.total A a.0 a.1 q) C
    go (Err r) q = rw q R

step_right : (k : Kept) (x : Step) → Right k → Right (step k x)
step_right k (covering s e) R =
    change_right k (cover (pairs k.words k.count) s e) R (interval.cover_canonical (pairs k.words k.count) s e R.canonical)
step_right k (uncovering s e) R =
    change_right k (uncover (pairs k.words k.count) s e) R (interval.uncover_canonical (pairs k.words k.count) s e R.canonical)
step_right k (growing w) R = stored_longer k.words k.count k.total R w
step_right k copying R = stored_alone k.words k.count k.total R

-- 02 §4.4, §4.6: through any sequence of these, answered or refused, the total that is kept is what counting afresh gives
pub steps_right : (k : Kept) (xs : List Step) → Right k → Right (steps k xs)
steps_right k [] R = R
steps_right k (x ∷ xs) R = steps_right (step k x) xs (step_right k x R)

-- ---- the rows that are covered then

-- whether a list that is kept covers a row
abbrev pub kept_rows : Kept → ℕ → Bool
kept_rows k = holds (pairs k.words k.count)

-- a row after a change, where it is answered, and before it, where it is refused
abbrev pub row_by : Answer (ℕ × ℕ) → Bool → Bool → Bool
row_by (Ok a) before now = now
row_by (Err r) before now = before

-- the rows that f tells, after one of these: 02 §4.2, with those of a range; 02 §4.3, without them; as they were where it is refused
abbrev pub step_rows : Kept → Step → (ℕ → Bool) → ℕ → Bool
step_rows k (covering s e) f p = row_by (cover_answer k.words k.count k.total s e) (f p) (inside s e p || f p)
step_rows k (uncovering s e) f p = row_by (uncover_answer k.words k.count k.total s e) (f p) (f p && not (inside s e p))
step_rows k (growing R) f p = f p
step_rows k copying f p = f p

-- and after all of them
abbrev pub steps_rows : Kept → List Step → (ℕ → Bool) → ℕ → Bool
steps_rows k [] f = f
steps_rows k (x ∷ xs) f = steps_rows (step k x) xs (step_rows k x f)

change_holds : (k : Kept) (A : List Interval) (p : ℕ) (before now : Bool) → kept_rows k p ≡ before → holds A p ≡ now
    → kept_rows (after k (change_words k.words k.count k.total A) (change_answer k.words k.count k.total A)) p
    ≡ row_by (change_answer k.words k.count k.total A) before now
change_holds k A p before now b n = go (change_answer k.words k.count k.total A) refl
  where
    go : (r : Answer (ℕ × ℕ)) → change_answer k.words k.count k.total A ≡ r
        → kept_rows (after k (change_words k.words k.count k.total A) r) p ≡ row_by r before now
    go (Ok a) q = rw (changed_pairs (changed k.words k.count k.total A a.0 a.1 q)) n
    go (Err r) q = rw q b

step_holds : (k : Kept) (x : Step) (f : ℕ → Bool) → Right k → ((p : ℕ) → kept_rows k p ≡ f p) → (p : ℕ) → kept_rows (step k x) p ≡ step_rows k x f p
step_holds k (covering s e) f R same p =
    let A = pairs k.words k.count in
    change_holds k (cover A s e) p (f p) (inside s e p || f p) (same p)
    (interval.holds_cover A s e p R.canonical ∙ ap (λ (b : Bool). inside s e p || b) (same p))
step_holds k (uncovering s e) f R same p =
    let A = pairs k.words k.count in
    change_holds k (uncover A s e) p (f p) (f p && not (inside s e p)) (same p)
    (interval.holds_uncover A s e p ∙ ap (λ (b : Bool). b && not (inside s e p)) (same p))
step_holds k (growing w) f R same p = rw (pairs_longer k.words w k.count (stored_room k.words k.count k.total R)) (same p)
step_holds k copying f R same p = rw (pairs_take k.words (2 * k.count) k.count (omega arith)) (same p)

-- 02 §4.2, §4.3: a list that covered the rows that f tells then covers these, and no others
pub steps_holds : (k : Kept) (xs : List Step) (f : ℕ → Bool) → Right k → ((p : ℕ) → kept_rows k p ≡ f p)
    → (p : ℕ) → kept_rows (steps k xs) p ≡ steps_rows k xs f p
steps_holds k [] f R same = same
steps_holds k (x ∷ xs) f R same = steps_holds (step k x) xs (step_rows k x f) (step_right k x R) (step_holds k x f R same)

-- ---- the fewest pairs

module _ (k : Kept) (xs : List Step) (f : ℕ → Bool) (R : Right k) (same : (p : ℕ) → kept_rows k p ≡ f p) where
  -- 02 §14.1, §14.3: no list of half-open pairs that covers these rows has fewer than are kept
  pub steps_fewest : (B : List Interval) → ((p : ℕ) → holds B p ≡ steps_rows k xs f p) → (steps k xs).count ≤ length B
  steps_fewest B is =
      stored_fewest (steps k xs).words (steps k xs).count (steps k xs).total (steps_right k xs R) B
      (λ p. is p ∙ sym (steps_holds k xs f R same p))

  -- 02 §14.2, §14.3: a canonical list that covers these rows is the one that is kept
  pub steps_unique : (A : List Interval) → Canonical A → ((p : ℕ) → holds A p ≡ steps_rows k xs f p)
      → pairs (steps k xs).words (steps k xs).count ≡ A
  steps_unique A h_a is =
      stored_unique (steps k xs).words (steps k xs).count (steps k xs).total (steps_right k xs R) A h_a
      (λ p. is p ∙ sym (steps_holds k xs f R same p))
