-- From query items to answers: where `from_query_items` answers m pairs of t rows, these pairs at the front of the lent words are accepted by
-- `contains`, `len`, `is_empty`, `missing_from`, `extra_in`, `missing_from_spans`, `plan_refetch` and `check_plan`, and these answer what the items
-- cover; they are a stored list, of which `cover` and `uncover` leave what the items cover, with the range or without it, in as few pairs as any
-- list has that covers it. Stated of each call's own promise: r is what `from_query_items` answers, old and new are the lent words before and after.
-- And what the calls that ask of intervals answer of any stored list. No contract cites this file. Assumes nothing.
use Rattle.std.specs.Prelude.{Ok, Err}
use Prim.Native.Nat.{ℕ, ◌*◌, ◌/◌, ◌%◌, ◌≤◌, ◌<◌}
use mathlib.Core.Path.{◌≡◌, refl, sym, ap, ◌∙◌}
use mathlib.Core.Bool.{Bool, false, not, ◌&&◌, ◌||◌}
use mathlib.Core.List.{List}
use native.Mathlib.Omega.{arith}
use lib.Dec.{eqb}
use lib.ListN.{length, take}
use borrow.Author.Tests.{eq-eqb, ne_eqb}
use Rattle.key_order.proofs.Impossible.{impossible}
use Rattle.intervals.specs.Lists.{keep}
use Rattle.intervals.specs.Intervals.{Interval, Canonical, inside, holds}
use Rattle.item_check.specs.Checks.{Answer, Verdict, accepted, and_then, items_of}
use Rattle.pairs_sort.specs.Pairs.{pairs, CanonicalPairs}
use Rattle.position_given.specs.Given.{intervals_of, intervals_verdict}
use Rattle.position_given.specs.Inner.{Sound, Ascends}
use Rattle.position_given.specs.Positions.{count_up, positions_of, rows_of, is_in}
use Rattle.position_given.proofs.Accepted.{sound_accepts, ascending_accepts, proved_accepts}
use Rattle.position_given.proofs.Accepted as goal
use Rattle.position_given.proofs.Positions.{in_positions, keep_same, keep_keep}
use Rattle.position_given.proofs.Fronts.{canonical_fits, front_intervals, front_sound}
use Rattle.position_intervals.specs.Asked.{contains_answer, len_answer, is_empty_answer}
use Rattle.position_query.specs.Covered.{covered, ranges_needed, FromQueryItems}
use Rattle.position_report.specs.Reports.{report_of}
use Rattle.position_mismatch.specs.Reports.{missing, extra, first_crossing, missing_answer, extra_answer, spans_answer}
use Rattle.position_mismatch.proofs.Laws.{ascends_spans, spans_as_positions}
use Rattle.position_plan.specs.Plans.{accepts, plan, fitted, plan_answer, check_answer}
use Rattle.position_stored.specs.Stored.{total_answer, cover_answer, cover_words, uncover_answer, uncover_words}
use Rattle.position_stored.specs.Inner.{StoredList}
use Rattle.position_stored.proofs.Laws.{total_read, covered_holds, uncovered_holds}
use Rattle.position_stored.proofs.Sequences.{Step, Kept, steps, Right, steps_right, kept_rows, steps_rows, steps_holds, steps_fewest, steps_unique}
use Rattle.position_joined.proofs.Covered.{covered_positions}

module _ (pool ws : List ℕ) (count : ℕ) (old new : List ℕ) (r : Answer (ℕ × ℕ))
    (F : FromQueryItems pool ws count old new r) (m t : ℕ) (is : r ≡ Ok (m, t)) where
  C : CanonicalPairs (covered pool (items_of ws) count) (ranges_needed pool count (items_of ws)) old new m
  C = (F.written m t is).list

  total : t ≡ rows_of (pairs new m)
  total = (F.written m t is).total

  written : intervals_of (take (2 * m) new) ≡ pairs new m
  written = front_intervals new m C.canonical

  sound : Sound (take (2 * m) new)
  sound = front_sound new m C.canonical

  positions : positions_of (pairs new m) ≡ keep (covered pool (items_of ws) count) (count_up 0 count)
  positions = covered_positions pool ws count old new m C

  -- 01 m6.4: what is written is accepted
  pub built_accepted : intervals_verdict (take (2 * m) new) ≡ accepted
  built_accepted = sound_accepts (take (2 * m) new) sound

  -- 02 §4.5: it is a stored list, with the total that is answered
  pub built_stored : StoredList new m t
  built_stored = record { within = omega (arith, canonical_fits new m C.canonical); canonical = C.canonical; right = sym (total) }

  -- 02 §4.5: that total is how many positions below the count are covered
  pub built_total : t ≡ length (keep (covered pool (items_of ws) count) (count_up 0 count))
  built_total = total ∙ ap length positions

  -- 02 §4.2: with a range covered they hold what the items cover or lies in the range
  pub built_covered : (s e n k : ℕ) → cover_answer new m t s e ≡ Ok (n, k) → (p : ℕ)
      → holds (pairs (cover_words new m t s e) n) p ≡ inside s e p || covered pool (items_of ws) count p
  built_covered s e n k h p = covered_holds new m t s e n k h p ∙ ap (λ (b : Bool). inside s e p || b) (C.holding p)

  -- 02 §4.3: with a range uncovered, what the items cover and does not lie in the range
  pub built_uncovered : (s e n k : ℕ) → uncover_answer new m t s e ≡ Ok (n, k) → (p : ℕ)
      → holds (pairs (uncover_words new m t s e) n) p ≡ covered pool (items_of ws) count p && not (inside s e p)
  built_uncovered s e n k h p = uncovered_holds new m t s e n k h p ∙ ap (λ (b : Bool). b && not (inside s e p)) (C.holding p)

  -- what a caller keeps of it: the words, how many pairs, the total
  abbrev pub built : Kept
  built = record { words = new; count = m; total = t }

  -- 02 §4.4, §4.6: through building and any sequence of changes, answered or refused, the total that is kept is what counting afresh gives
  pub built_right : (xs : List Step) → Right (steps built xs)
  built_right xs = steps_right built xs built_stored

  -- after building and any sequence of changes. The rows then, which `steps_rows` tells, are those that the items cover, with what each answered
  -- cover adds and without what each answered uncover takes away
  module _ (xs : List Step) where
    -- 02 §4.2, §4.3: the list that is kept covers these, and no others
    pub built_holds : (p : ℕ) → kept_rows (steps built xs) p ≡ steps_rows built xs (covered pool (items_of ws) count) p
    built_holds = steps_holds built xs (covered pool (items_of ws) count) built_stored C.holding

    -- 02 §14.1, §14.3: no list of half-open pairs that covers these rows has fewer than are kept
    pub built_fewest : (B : List Interval) → ((p : ℕ) → holds B p ≡ steps_rows built xs (covered pool (items_of ws) count) p)
        → (steps built xs).count ≤ length B
    built_fewest = steps_fewest built xs (covered pool (items_of ws) count) built_stored C.holding

    -- 02 §14.2, §14.3: a canonical list that covers these rows is the one that is kept
    pub built_unique : (A : List Interval) → Canonical A → ((p : ℕ) → holds A p ≡ steps_rows built xs (covered pool (items_of ws) count) p)
        → pairs (steps built xs).words (steps built xs).count ≡ A
    built_unique = steps_unique built xs (covered pool (items_of ws) count) built_stored C.holding

  -- 01 m6.3, m6.8: `contains` answers whether a position is covered
  pub built_contains : (p : ℕ) → contains_answer (take (2 * m) new) p ≡ Ok (covered pool (items_of ws) count p)
  built_contains p = rw (built_accepted, written, C.holding p)

  -- 01 m6.9: `len` answers how many positions below the count are covered
  pub built_len : len_answer (take (2 * m) new) ≡ Ok (length (keep (covered pool (items_of ws) count) (count_up 0 count)))
  built_len = rw (built_accepted, written, positions)

  -- 01 m6.9: `is_empty` answers whether there is none
  pub built_is_empty : is_empty_answer (take (2 * m) new)
      ≡ Ok (eqb (length (keep (covered pool (items_of ws) count) (count_up 0 count))) 0)
  built_is_empty = rw (built_accepted, written, positions)

  -- 01 m6.10: of strictly ascending positions P, `missing_from` reports the covered positions that are not in P
  pub built_missing : (P : List ℕ) → Ascends 0 P → missing_answer (take (2 * m) new) P
      ≡ Ok (report_of (keep (λ p. covered pool (items_of ws) count p && not (is_in P p)) (count_up 0 count)))
  unfolding missing
  built_missing P a = rw (proved_accepts (take (2 * m) new) P sound a, written, positions, keep_keep)

  -- 01 m6.10: and `extra_in` those of P that are not covered
  pub built_extra : (P : List ℕ) → Ascends 0 P → extra_answer (take (2 * m) new) P
      ≡ Ok (report_of (keep (λ p. not (covered pool (items_of ws) count p)) P))
  unfolding extra
  built_extra P a =
      let same : keep (λ p. not (holds (pairs new m) p)) P ≡ keep (λ p. not (covered pool (items_of ws) count p)) P =
      keep_same (λ p. not (holds (pairs new m) p)) (λ p. not (covered pool (items_of ws) count p)) P (λ p q. ap not (C.holding p)) in
      rw (proved_accepts (take (2 * m) new) P sound a, written, same)

  -- 01 m6.11: of accepted spans S, `missing_from_spans` reports the covered positions that stand in none of them
  pub built_missing_spans : (S : List Interval) → first_crossing 0 0 S ≡ accepted → spans_answer (take (2 * m) new) S
      ≡ Ok (report_of (keep (λ p. covered pool (items_of ws) count p && not (holds S p)) (count_up 0 count)))
  built_missing_spans S h =
      let f : ℕ → Bool = covered pool (items_of ws) count in
      let same : keep (λ p. f p && not (is_in (positions_of S) p)) (count_up 0 count) ≡ keep (λ p. f p && not (holds S p)) (count_up 0 count) =
      keep_same (λ p. f p && not (is_in (positions_of S) p)) (λ p. f p && not (holds S p)) (count_up 0 count)
      (λ p q. ap (λ (b : Bool). f p && not b) (in_positions S p)) in
      spans_as_positions (take (2 * m) new) S h
      ∙ built_missing (positions_of S) (ascends_spans 0 0 S h)
      ∙ ap (λ (L : List ℕ). Ok (report_of L)) same

  -- of strictly ascending positions P, and windows of at most W rows, the covered positions that are not in P are planned and checked
  module _ (P : List ℕ) (W : ℕ) (a : Ascends 0 P) (w : 0 < W) where
    lost : missing (pairs new m) P ≡ keep (λ p. covered pool (items_of ws) count p && not (is_in P p)) (count_up 0 count)
    unfolding missing
    lost = rw (positions, keep_keep)

    wide : eqb W 0 ≡ false
    wide = ne_eqb W 0 (λ e. omega arith)

    -- 02 §9.7: `plan_refetch` plans them, where the windows have room
    pub built_planned : (room : ℕ) → plan_answer (take (2 * m) new) P W room
        ≡ fitted room (plan W (keep (λ p. covered pool (items_of ws) count p && not (is_in P p)) (count_up 0 count)))
    built_planned room = rw (built_accepted, ascending_accepts P a, wide, written, lost)

    -- 02 §9.2: `check_plan` answers whether a plan, words in pairs, is accepted for them
    pub built_checked : (vs : List ℕ) → length vs % 2 ≡ 0 → check_answer (take (2 * m) new) P W vs
        ≡ Ok (accepts W (keep (λ p. covered pool (items_of ws) count p && not (is_in P p)) (count_up 0 count)) (intervals_of vs))
    built_checked vs h = rw (built_accepted, eq-eqb (length vs % 2) 0 h, ascending_accepts P a, wide, written, lost)

-- what the calls that ask of intervals answer of the pairs of a stored list, and so of what building, covering and uncovering leave
module _ (ws : List ℕ) (count total : ℕ) (S : StoredList ws count total) where
  -- 02 §4.4: they are accepted
  pub stored_accepted : intervals_verdict (take (2 * count) ws) ≡ accepted
  stored_accepted = sound_accepts (take (2 * count) ws) (front_sound ws count S.canonical)

  -- 02 §4.6: the stored total is what `len` counts
  pub stored_len : len_answer (take (2 * count) ws) ≡ Ok total
  stored_len = rw (stored_accepted, front_intervals ws count S.canonical, S.right)

  -- 02 §4.6: and what `stored_total` answers
  pub stored_read : total_answer ws count total ≡ len_answer (take (2 * count) ws)
  stored_read = total_read ws count total S ∙ sym stored_len

  pub stored_is_empty : is_empty_answer (take (2 * count) ws) ≡ Ok (eqb total 0)
  stored_is_empty = rw (stored_accepted, front_intervals ws count S.canonical, S.right)

  pub stored_contains : (p : ℕ) → contains_answer (take (2 * count) ws) p ≡ Ok (holds (pairs ws count) p)
  stored_contains p = rw (stored_accepted, front_intervals ws count S.canonical)

-- 02 §4.6: words that `len` counts are a stored list with that total
pub counted_stored : (ws : List ℕ) (t : ℕ) → len_answer ws ≡ Ok t → StoredList ws (length ws / 2) t
counted_stored ws t h = go (intervals_verdict ws) refl h
  where
    go : (v : Verdict) → intervals_verdict ws ≡ v → and_then v (Ok (rows_of (intervals_of ws))) ≡ Ok t → StoredList ws (length ws / 2) t
    go (Ok u) e q = record { within = omega arith; canonical = (goal.sound ws e).canonical; right = cc }
    go (Err r) e q = impossible cc
