-- The checks of a stored list: the front of the buffer as intervals, and what an accepted list is. Assumes nothing.
use Rattle.std.specs.Prelude.{Result, Ok, Err}
use Prim.Native.Nat.{ℕ, ◌*◌, ◌/◌, ◌≤◌, ◌<◌}
use mathlib.Core.Path.{◌≡◌, refl, sym, ap, ◌∙◌}
use mathlib.Core.Bool.{Bool, true, false, cond}
use mathlib.Core.List.{List}
use native.Mathlib.Omega.{arith}
use lib.Dec.{ltb, eqb}
use lib.ListN.{length, take}
use borrow.Author.Tests.{lt-ltb, le-ltb, eq-eqb, eqb-true, ltb-false}
use Rattle.item_check.specs.declared.Refusal.{Refusal}
use Rattle.item_check.specs.Checks.{refused, Verdict, accepted, and_then}
use Rattle.item_check.proofs.Laws.{accepts}
use Rattle.pairs_sort.specs.Pairs.{pairs}
use Rattle.position_given.specs.Given.{canonical_verdict, intervals_of}
use Rattle.position_given.specs.Answers.{rows_answer}
use Rattle.position_given.specs.Positions.{rows_of}
use Rattle.position_given.proofs.Accepted.{never_accepted, canonical_accepted, canonical_accepts}
use Rattle.position_given.proofs.Counting.{rows_refused, rows_counted}
use Rattle.position_given.proofs.Fronts.{front_pairs}
use Rattle.position_stored.specs.Stored.{count_verdict, total_verdict, stored_verdict}
use Rattle.position_stored.specs.Inner.{StoredList, Place}

module _ (ws : List ℕ) (count : ℕ) (h : count ≤ length ws / 2) where
  passed : count_verdict ws count ≡ accepted
  passed = rw (le-ltb (length ws / 2) count h)

  -- the words of the first count pairs are counted as these are
  front_counted : rows_answer (intervals_of (take (2 * count) ws)) ≡ rows_answer (pairs ws count)
  front_counted = ap rows_answer (front_pairs ws count (omega arith))

  pub stored_refused : (total : ℕ) (r : Refusal) → Err r ≡ rows_answer (intervals_of (take (2 * count) ws)) → Err r ≡ stored_verdict ws count total
  stored_refused total r e = rw (passed, ← rows_refused (pairs ws count) r (e ∙ front_counted))

  pub stored_rows : (total n : ℕ) (v : Verdict) → Ok n ≡ rows_answer (intervals_of (take (2 * count) ws))
      → v ≡ cond (eqb n total) accepted (refused 9 0 count) → v ≡ stored_verdict ws count total
  stored_rows total n v e d =
      let told = rows_counted (pairs ws count) n (e ∙ front_counted) in
      d ∙ rw (passed, ← told.0, ← told.1)

pub stored_past : (ws : List ℕ) (count total : ℕ) → length ws / 2 < count → stored_verdict ws count total ≡ refused 1 0 0
stored_past ws count total h = rw (lt-ltb (length ws / 2) count h)

-- what an accepted stored list is
pub stored : (ws : List ℕ) (count total : ℕ) → stored_verdict ws count total ≡ accepted → StoredList ws count total
stored ws count total h =
    let one = (accepts (count_verdict ws count) (and_then (canonical_verdict (pairs ws count)) (total_verdict (pairs ws count) count total))).0 h in
    let two = (accepts (canonical_verdict (pairs ws count)) (total_verdict (pairs ws count) count total)).0 one.1 in
    record {
      within = room (ltb (length ws / 2) count) refl one.0;
      canonical = canonical_accepted (pairs ws count) two.0;
      right = right (eqb (rows_of (pairs ws count)) total) refl two.1;
    }
  where
    room : (t : Bool) → ltb (length ws / 2) count ≡ t → cond t (refused 1 0 0) accepted ≡ accepted → count ≤ length ws / 2
    room true p q = never_accepted q
    room false p q = ltb_no p
      where
        ltb_no : ltb (length ws / 2) count ≡ false → count ≤ length ws / 2
        ltb_no p = omega (arith, ltb-false (length ws / 2) count p)

    right : (t : Bool) → eqb (rows_of (pairs ws count)) total ≡ t → cond t accepted (refused 9 0 count) ≡ accepted → rows_of (pairs ws count) ≡ total
    right true p q = eqb-true (rows_of (pairs ws count)) total p
    right false p q = never_accepted q

-- and the other way round
pub stored_accepts : (ws : List ℕ) (count total : ℕ) → StoredList ws count total → stored_verdict ws count total ≡ accepted
stored_accepts ws count total S =
    rw (le-ltb (length ws / 2) count S.within, canonical_accepts (pairs ws count) S.canonical, eq-eqb (rows_of (pairs ws count)) total S.right)

pub stored_list : {ws : List ℕ} {count total : ℕ} (r : Result (Unit {0}) Refusal) → r ≡ stored_verdict ws count total → r ≡ accepted → StoredList ws count total
stored_list {ws} {count} {total} r e a = stored ws count total (sym e ∙ a)

-- with a place in it
pub placed : {ws : List ℕ} {count total at : ℕ} → StoredList ws count total → at ≤ count → Place ws count at
placed S h = record { within = S.within; canonical = S.canonical; placed = h }
