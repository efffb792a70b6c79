-- What an answered change leaves: the list that is to stand there, laid in the words, which is a stored list again with the answer's numbers.
-- Assumes nothing.
use Rattle.std.specs.Prelude.{Ok, Err}
use Prim.Native.Nat.{ℕ, ◌-◌, ◌*◌, ◌/◌, ◌≤◌, max}
use mathlib.Core.Path.{◌≡◌, refl, sym, ap}
use mathlib.Core.Bool.{Bool, true, false, cond}
use mathlib.Core.List.{List, ◌++◌}
use native.Mathlib.Omega.{arith}
use lib.Dec.{ltb}
use lib.ListN.{length, drop, replicate, length-append, length-replicate, length-drop}
use borrow.Author.Tests.{le-ltb, ltb-false}
use Rattle.key_order.proofs.Impossible.{impossible}
use Rattle.intervals.specs.Intervals.{Interval, Canonical}
use Rattle.item_check.specs.Checks.{Answer, refused, Verdict, and_then, words_by}
use Rattle.pairs_sort.specs.Pairs.{pairs, flat_pairs}
use Rattle.pairs_sort.proofs.Laws.{pairs_flat_front, length_flat}
use Rattle.position_given.specs.Positions.{rows_of}
use Rattle.position_stored.specs.Stored.{laid, list_answer, stored_verdict, change_answer, change_words}
use Rattle.position_stored.specs.Inner.{StoredList}
use Rattle.position_stored.proofs.Checks.{stored, stored_accepts}
use Rattle.position_stored.proofs.Places.{same_answer, same_words}

-- ---- a list that is laid in words

module _ (ws : List ℕ) (count : ℕ) (A : List Interval) where
  -- the list stands in the words that it is laid in
  pub pairs_laid : pairs (laid ws count A) (length A) ≡ A
  unfolding laid
  pairs_laid = pairs_flat_front A (replicate (2 * (count - length A)) 0 ++ drop (2 * max count (length A)) ws)

  pub length_laid : count ≤ length ws / 2 → length A ≤ length ws / 2 → length (laid ws count A) ≡ length ws
  unfolding laid
  length_laid h k =
      rw (
        length-append (flat_pairs A) (replicate (2 * (count - length A)) 0 ++ drop (2 * max count (length A)) ws),
        length-append (replicate (2 * (count - length A)) 0) (drop (2 * max count (length A)) ws),
        length-replicate {A = ℕ} (2 * (count - length A)) 0,
        length-drop (2 * max count (length A)) ws,
        length_flat A,
      )
      (omega arith)

  laid_stored : count ≤ length ws / 2 → length A ≤ length ws / 2 → Canonical A → StoredList (laid ws count A) (length A) (rows_of A)
  laid_stored h k C = record {
    within = rw (length_laid h k) k;
    canonical = rw pairs_laid C;
    right = ap rows_of pairs_laid;
  }

-- ---- what an answered change tells: of what, and what it leaves

pub record Changed (ws : List ℕ) (count total : ℕ) (A : List Interval) (n m : ℕ) (vs : List ℕ) : Type 0 where
  pub before : StoredList ws count total
  pub room : length A ≤ length ws / 2
  pub words : vs ≡ laid ws count A
  pub number : n ≡ length A
  pub rows : m ≡ rows_of A

pub changed : (ws : List ℕ) (count total : ℕ) (A : List Interval) (n m : ℕ) → change_answer ws count total A ≡ Ok (n, m)
    → Changed ws count total A n m (change_words ws count total A)
changed ws count total A n m h = first (stored_verdict ws count total) refl h
  where
    second : (t : Bool) → ltb (length ws / 2) (length A) ≡ t → StoredList ws count total → cond {A = Answer (ℕ × ℕ)} t (refused 6 0 0) (Ok (length A, rows_of A)) ≡ Ok (n, m)
        → Changed ws count total A n m (words_by (cond {A = Answer (ℕ × ℕ)} t (refused 6 0 0) (Ok (length A, rows_of A))) ws (laid ws count A))
    second true e S q = impossible cc
    second false e S q =
        let p : ◌≡◌ {A = ℕ × ℕ} (length A, rows_of A) (n, m) = cc in record {
          before = S;
          room = ltb-false (length ws / 2) (length A) e;
          words = refl;
          number = sym (ap (λ (u : ℕ × ℕ). u.0) p);
          rows = sym (ap (λ (u : ℕ × ℕ). u.1) p);
        }

    first : (v : Verdict) → stored_verdict ws count total ≡ v → and_then v (list_answer ws A) ≡ Ok (n, m)
        → Changed ws count total A n m (words_by (and_then v (list_answer ws A)) ws (laid ws count A))
    first (Ok tt) e q = second (ltb (length ws / 2) (length A)) refl (stored ws count total e) q
    first (Err r) e q = impossible cc

module _ {ws : List ℕ} {count total : ℕ} {A : List Interval} {n m : ℕ} {vs : List ℕ} (C : Changed ws count total A n m vs) where
  -- the pairs that stand there then
  pub changed_pairs : pairs vs n ≡ A
  changed_pairs = rw (C.words, C.number) (pairs_laid ws count A)

  pub changed_length : length vs ≡ length ws
  changed_length = rw C.words (length_laid ws count A C.before.within C.room)

  -- a stored list again, with the answer's numbers
  pub changed_stored : Canonical A → StoredList vs n m
  changed_stored h = rw (C.words, C.number, C.rows) (laid_stored ws count A C.before.within C.room h)

-- a stored list with room for what it becomes is answered
pub change_answered : (ws : List ℕ) (count total : ℕ) (A : List Interval) → StoredList ws count total → length A ≤ length ws / 2
    → change_answer ws count total A ≡ Ok (length A, rows_of A)
change_answered ws count total A S h = rw (stored_accepts ws count total S, le-ltb (length ws / 2) (length A) h)

-- one that becomes what it is stays, every word
pub change_same : (ws : List ℕ) (count total : ℕ) (A : List Interval) → StoredList ws count total → A ≡ pairs ws count
    → (change_answer ws count total A ≡ Ok (count, total)) × (change_words ws count total A ≡ ws)
change_same ws count total A S is =
    (sym (same_answer S A is), sym (same_words S A is))
