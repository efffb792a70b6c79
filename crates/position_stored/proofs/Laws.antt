-- Each law that a caller cites, in the order of specs/: what an accepted stored list is, that no list of pairs that covers the same has fewer, and
-- what the two changes make of one; any sequence of them is in Sequences.antt. Stated of the calls' own answers and of the words that they leave.
-- No contract cites this file. Assumes nothing.
use Rattle.std.specs.Prelude.{Ok}
use Prim.Native.Nat.{ℕ, ◌+◌, ◌*◌, ◌/◌, ◌≤◌, ◌<◌}
use mathlib.Core.Path.{◌≡◌, refl, sym, ap, ◌∙◌}
use mathlib.Core.Logic.{◌↔◌}
use mathlib.Core.Bool.{true, false, not, ◌&&◌, ◌||◌}
use mathlib.Core.List.{List, [], ◌++◌}
use native.Mathlib.Omega.{arith}
use lib.ListN.{length, take, length-append}
use lib.Seq.{length-take-le}
use Rattle.intervals.specs.Intervals.{Interval, Canonical, inside, holds}
use Rattle.intervals.specs.Cover.{cover, uncover}
use Rattle.intervals.proofs.Laws as interval
use Rattle.item_check.specs.Checks.{accepted}
use Rattle.pairs_sort.specs.Pairs.{pairs_from, pairs}
use Rattle.pairs_sort.proofs.Laws.{pairs_length, pairs_take, pairs_longer}
use Rattle.position_given.specs.Positions.{positions_of, rows_of}
use Rattle.position_given.proofs.Laws.{newly, rows_newly, already, rows_already}
use Rattle.position_stored.specs.Stored.{stored_verdict, total_answer, change_answer, cover_answer, cover_words, uncover_answer, uncover_words}
use Rattle.position_stored.specs.Inner.{StoredList}
use Rattle.position_stored.proofs.Checks.{stored, stored_accepts}
use Rattle.position_stored.proofs.Again.{Changed, changed, changed_pairs, changed_length, changed_stored, change_answered, change_same}
pub use Rattle.position_stored.specs.Inner.{StoredList}

-- ---- what an accepted stored list is

-- 02 §4.1, §4.10, 01 no.1, no.9: the pairs stand in the buffer, they are canonical, and the total is what counting afresh gives
pub stored_exactly : (ws : List ℕ) (count total : ℕ) → stored_verdict ws count total ≡ accepted ↔ StoredList ws count total
stored_exactly ws count total = (stored ws count total, stored_accepts ws count total)

-- 02 §4.6: the total that is read is the stored one
pub total_read : (ws : List ℕ) (count total : ℕ) → StoredList ws count total → total_answer ws count total ≡ Ok total
total_read ws count total S = rw (stored_accepts ws count total S, S.right)

module _ (ws : List ℕ) (count total : ℕ) (S : StoredList ws count total) where
  -- 02 §14.1, §14.3, reading B25: no list of half-open pairs that covers the same rows has fewer: in any order, overlapping or not, empty ones
  -- among them
  pub stored_fewest : (B : List Interval) → ((x : ℕ) → holds B x ≡ holds (pairs ws count) x) → count ≤ length B
  stored_fewest B same = omega (arith, pairs_length ws count 0, interval.canonical_fewest (pairs ws count) B S.canonical same)

  -- 02 §14.1, §14.3: nor one that covers the same of the rows below a number, whatever it covers past them, where the list covers none of those
  pub stored_fewest_below : (rows : ℕ) → ((x : ℕ) → rows ≤ x → holds (pairs ws count) x ≡ false)
      → (B : List Interval) → ((x : ℕ) → x < rows → holds B x ≡ holds (pairs ws count) x) → count ≤ length B
  stored_fewest_below rows none B same =
      omega (arith, pairs_length ws count 0, interval.canonical_fewest_below rows (pairs ws count) B S.canonical none same)

  -- 02 §14.2, §14.3: a canonical list that covers the same rows is the same list
  pub stored_unique : (A : List Interval) → Canonical A → ((x : ℕ) → holds A x ≡ holds (pairs ws count) x) → pairs ws count ≡ A
  stored_unique A h_a same = interval.canonical_unique (pairs ws count) A S.canonical h_a (λ x. sym (same x))

-- ---- a range covered

module _ (ws : List ℕ) (count total s e n m : ℕ) (h : cover_answer ws count total s e ≡ Ok (n, m)) where
  abbrev held : List Interval
  held = pairs ws count

  abbrev left : List ℕ
  left = cover_words ws count total s e

  told : Changed ws count total (cover held s e) n m left
  told = changed ws count total (cover held s e) n m h

  canonical : Canonical held
  canonical = told.before.canonical

  -- 02 §4.2: the pairs then are the canonical list that holds exactly what was held or lies in the range
  pub covered_holds : (x : ℕ) → holds (pairs left n) x ≡ inside s e x || holds held x
  covered_holds x = rw (changed_pairs told) (interval.holds_cover held s e x canonical)

  -- 02 §4.4: a stored list again, with the answer's numbers: whoever reads the total gets what counting afresh gives
  pub covered_stored : StoredList left n m
  covered_stored = changed_stored told (interval.cover_canonical held s e canonical)

  -- 02 §14.1, §14.3: no list of half-open pairs that holds that has fewer
  pub covered_fewest : (B : List Interval) → ((x : ℕ) → holds B x ≡ inside s e x || holds held x) → n ≤ length B
  covered_fewest B same = stored_fewest left n m covered_stored B (λ x. same x ∙ sym (covered_holds x))

  -- 02 §14.2, §14.3: a canonical list that holds that is the same list
  pub covered_unique : (A : List Interval) → Canonical A → ((x : ℕ) → holds A x ≡ inside s e x || holds held x) → pairs left n ≡ A
  covered_unique A C same = stored_unique left n m covered_stored A C (λ x. same x ∙ sym (covered_holds x))

  -- the total after covering: that before, and the rows newly covered
  pub covered_total : m ≡ total + length (newly held s e)
  covered_total = told.rows ∙ rows_newly held s e canonical ∙ ap (λ (k : ℕ). k + length (newly held s e)) told.before.right

  -- covering again changes nothing, neither the numbers nor a word
  pub covered_again : (cover_answer left n m s e ≡ Ok (n, m)) × (cover_words left n m s e ≡ left)
  covered_again =
      change_same left n m (cover (pairs left n) s e) covered_stored
      (rw (changed_pairs told) (interval.cover_again held s e canonical))

  -- 02 §4.3: uncovering what was covered just now gives back the pairs and the numbers of a list that held none of it
  pub covered_back : ((x : ℕ) → inside s e x ≡ true → holds held x ≡ false)
      → (uncover_answer left n m s e ≡ Ok (count, total)) × (pairs (uncover_words left n m s e) count ≡ held)
  covered_back free =
      let is : uncover (pairs left n) s e ≡ held = rw (changed_pairs told) (interval.uncover_covered held s e canonical free) in
      let size : length held ≡ count = pairs_length ws count 0 in
      let answer : uncover_answer left n m s e ≡ Ok (count, total) =
      ap (change_answer left n m) is
      ∙ change_answered left n m held covered_stored (omega (arith, size, changed_length told, told.before.within))
      ∙ (λ i. Ok (size i, told.before.right i)) in
      (answer, changed_pairs (changed left n m (uncover (pairs left n) s e) count total answer) ∙ is)

-- covering two ranges in either order: where one order is answered, and the other range has room by itself, the other order has the same
-- answer and leaves the same pairs
module _ (ws : List ℕ) (count total s e t f : ℕ) (n m n' m' k l : ℕ)
    (one : cover_answer ws count total s e ≡ Ok (n, m)) (two : cover_answer (cover_words ws count total s e) n m t f ≡ Ok (n', m'))
    (other : cover_answer ws count total t f ≡ Ok (k, l)) where
  pub covered_either : (cover_answer (cover_words ws count total t f) k l s e ≡ Ok (n', m'))
      × (pairs (cover_words (cover_words ws count total t f) k l s e) n' ≡ pairs (cover_words (cover_words ws count total s e) n m t f) n')
  covered_either =
      let A = pairs ws count in
      let v = cover_words ws count total s e in
      let w = cover_words ws count total t f in
      let first = changed ws count total (cover A s e) n m one in
      let second = changed v n m (cover (pairs v n) t f) n' m' two in
      let third = changed ws count total (cover A t f) k l other in
      let same : cover (pairs w k) s e ≡ cover (pairs v n) t f =
      rw (changed_pairs first, changed_pairs third) (sym (interval.cover_swap A s e first.before.canonical t f)) in
      let size : length (cover (pairs w k) s e) ≡ n' = ap length same ∙ sym second.number in
      let rows : rows_of (cover (pairs w k) s e) ≡ m' = ap rows_of same ∙ sym second.rows in
      let fits : length (cover (pairs w k) s e) ≤ length w / 2 =
      omega (arith, ap length same, second.room, changed_length first, changed_length third) in
      let answer : cover_answer w k l s e ≡ Ok (n', m') =
      change_answered w k l (cover (pairs w k) s e) (covered_stored ws count total t f k l other) fits ∙ (λ i. Ok (size i, rows i)) in
      (answer, changed_pairs (changed w k l (cover (pairs w k) s e) n' m' answer) ∙ same ∙ sym (changed_pairs second))

-- ---- a range uncovered

module _ (ws : List ℕ) (count total s e n m : ℕ) (h : uncover_answer ws count total s e ≡ Ok (n, m)) where
  abbrev had : List Interval
  had = pairs ws count

  abbrev kept : List ℕ
  kept = uncover_words ws count total s e

  known : Changed ws count total (uncover had s e) n m kept
  known = changed ws count total (uncover had s e) n m h

  -- 02 §4.3: the pairs then are the canonical list that holds exactly what was held and does not lie in the range
  pub uncovered_holds : (x : ℕ) → holds (pairs kept n) x ≡ holds had x && not (inside s e x)
  uncovered_holds x = rw (changed_pairs known) (interval.holds_uncover had s e x)

  -- 02 §4.4: a stored list again, with the answer's numbers
  pub uncovered_stored : StoredList kept n m
  uncovered_stored = changed_stored known (interval.uncover_canonical had s e known.before.canonical)

  -- the total before uncovering: that after, and the rows of the range that were held
  pub uncovered_total : total ≡ m + length (already had s e)
  uncovered_total =
      sym known.before.right
      ∙ rows_already had s e known.before.canonical
      ∙ ap (λ (k : ℕ). k + length (already had s e)) (sym known.rows)

  -- 02 §14.1, §14.3: no list of half-open pairs that holds that has fewer
  pub uncovered_fewest : (B : List Interval) → ((x : ℕ) → holds B x ≡ holds had x && not (inside s e x)) → n ≤ length B
  uncovered_fewest B same = stored_fewest kept n m uncovered_stored B (λ x. same x ∙ sym (uncovered_holds x))

  -- 02 §14.2, §14.3: a canonical list that holds that is the same list
  pub uncovered_unique : (A : List Interval) → Canonical A → ((x : ℕ) → holds A x ≡ holds had x && not (inside s e x)) → pairs kept n ≡ A
  uncovered_unique A C same = stored_unique kept n m uncovered_stored A C (λ x. same x ∙ sym (uncovered_holds x))

-- ---- a range that is none

-- 02 §4.9: a start not below its end changes nothing, neither the numbers nor a word
module _ (ws : List ℕ) (count total s e : ℕ) (S : StoredList ws count total) (h : e ≤ s) where
  pub cover_nothing : (cover_answer ws count total s e ≡ Ok (count, total)) × (cover_words ws count total s e ≡ ws)
  cover_nothing = change_same ws count total (cover (pairs ws count) s e) S (interval.cover_none (pairs ws count) s e h)

  pub uncover_nothing : (uncover_answer ws count total s e ≡ Ok (count, total)) × (uncover_words ws count total s e ≡ ws)
  uncover_nothing = change_same ws count total (uncover (pairs ws count) s e) S (interval.uncover_none (pairs ws count) s e h)

-- ---- how much room is always enough

-- a change adds one pair at the most: with room for one more it is answered
pub cover_answered : (ws : List ℕ) (count total s e : ℕ) → StoredList ws count total → count + 1 ≤ length ws / 2
    → cover_answer ws count total s e ≡ Ok (length (cover (pairs ws count) s e), rows_of (cover (pairs ws count) s e))
cover_answered ws count total s e S h =
    change_answered ws count total (cover (pairs ws count) s e) S
    (omega (arith, interval.length_cover (pairs ws count) s e, pairs_length ws count 0))

pub uncover_answered : (ws : List ℕ) (count total s e : ℕ) → StoredList ws count total → count + 1 ≤ length ws / 2
    → uncover_answer ws count total s e ≡ Ok (length (uncover (pairs ws count) s e), rows_of (uncover (pairs ws count) s e))
uncover_answered ws count total s e S h =
    change_answered ws count total (uncover (pairs ws count) s e) S
    (omega (arith, interval.length_uncover (pairs ws count) s e S.canonical, pairs_length ws count 0))

-- ---- the buffer of a stored list

-- nothing, in no buffer
pub stored_none : StoredList [] 0 0
unfolding pairs_from positions_of
stored_none = record { within = omega arith; canonical = tt; right = refl }

module _ (ws : List ℕ) (count total : ℕ) (S : StoredList ws count total) where
  pub stored_room : 2 * count ≤ length ws
  stored_room = omega (arith, S.within)

  -- more words behind it change nothing
  pub stored_longer : (R : List ℕ) → StoredList (ws ++ R) count total
  stored_longer R = record {
    within = omega (arith, length-append ws R, S.within);
    canonical = rw (pairs_longer ws R count stored_room) S.canonical;
    right = ap rows_of (pairs_longer ws R count stored_room) ∙ S.right;
  }

  -- nor are there any needed
  pub stored_alone : StoredList (take (2 * count) ws) count total
  stored_alone = record {
    within = omega (arith, length-take-le (2 * count) ws stored_room);
    canonical = rw (pairs_take ws (2 * count) count (omega arith)) S.canonical;
    right = ap rows_of (pairs_take ws (2 * count) count (omega arith)) ∙ S.right;
  }
