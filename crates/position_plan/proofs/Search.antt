-- The search for the next run of missing rows: what a pair, the first proved position from a row on, and the positions that go on from there tell.
-- Assumes nothing.
use Prim.Native.Nat.{ℕ, ◌+◌, ◌-◌, ◌/◌, ◌≤◌, ◌<◌, min, max}
use mathlib.Core.Path.{◌≡◌, sym, ◌∙◌}
use mathlib.Core.Bool.{true, false, cond, not, ◌&&◌, and-false}
use mathlib.Core.List.{List}
use native.Mathlib.Decide.{dec_lt, ℕ_discrete}
use native.Mathlib.Omega.{arith}
use lib.ListN.{length, get_or}
use lib.Dec.{leb, ltb}
use borrow.Author.Tests.{lt-ltb, le-ltb, le-leb, lt-leb}
use Rattle.intervals.specs.Intervals.{holds}
use Rattle.pairs_sort.specs.Pairs.{start, finish}
use Rattle.key_order.proofs.Bools.{both_true}
use Rattle.position_given.specs.Given.{intervals_of}
use Rattle.position_given.specs.Positions.{positions_of, is_in}
use Rattle.position_given.specs.Inner.{Sound, Ascends}
use Rattle.position_given.proofs.Widths.{nonempty_at, ends_before}
use Rattle.position_given.proofs.Held.{held_at}
use Rattle.position_mismatch.specs.Reports.{missing}
use Rattle.position_given.proofs.Positions.{in_keep, in_positions, in_at, in_gap, ascends_at}
use Rattle.position_plan.specs.Inner.{is_missing, Behind, NextRun, FirstFrom, GoesOn}

pub missing_is : (ws P : List ℕ) (p : ℕ) → is_missing ws P p ≡ holds (intervals_of ws) p && not (is_in P p)
unfolding missing
missing_is ws P p = in_keep (λ q. not (is_in P q)) (positions_of (intervals_of ws)) p ∙ rw (in_positions (intervals_of ws) p)

-- a missing row is covered
pub missing_held : (ws P : List ℕ) (p : ℕ) → is_missing ws P p ≡ true → holds (intervals_of ws) p ≡ true
missing_held ws P p h = (both_true (holds (intervals_of ws) p) (not (is_in P p)) (sym (missing_is ws P p) ∙ h)).0

-- ---- the passes over proved positions

-- a position at or above x, and those after it
pub from_index : (P : List ℕ) → Ascends 0 P → (x j : ℕ) → (j < length P → x ≤ get_or P j 0) → (k : ℕ) → j ≤ k → k < length P → x ≤ get_or P k 0
from_index P A x j f k u v = elim (dec_lt j k) [
  | yes l ↦ omega (arith, f (omega arith), ascends_at 0 P j k A l v)
  | no l ↦ let q : j ≡ k = omega arith in rw q at (f (omega arith))
]

-- ---- a turn of the search

-- the pairs before i, and the proved positions before j, are below x, and no row from `from` on, below x, is missing
pub record Searched (ws P : List ℕ) (from i j x : ℕ) : Type 0 where
  pub after : from ≤ x
  pub none : (p : ℕ) → from ≤ p → p < x → is_missing ws P p ≡ false
  pub behind : Behind ws P i j x

pub searched_start : {ws P : List ℕ} {i j x : ℕ} → Behind ws P i j x → Searched ws P x i j x
searched_start B = record { after = omega arith; none = λ p a b. absurd (omega arith); behind = B }

module _ {ws P : List ℕ} (S : Sound ws) (A : Ascends 0 P) {from i j x : ℕ} (N : Searched ws P from i j x) where
  -- no pair is left
  pub searched_end : length ws / 2 ≤ i → {j' : ℕ} → FirstFrom P j x j' → NextRun ws P from (record { start = x; end = x; pair = length ws / 2; seen = j' })
  searched_end h {j'} F = record {
    after = N.after;
    skipped = N.none;
    run = record {
      all = λ p a b. absurd (omega arith);
      none = λ l p a. missing_is ws P p
          ∙ rw (held_at ws i p S.canonical (λ m u. omega (arith, N.behind.pairs m u)) (λ u. absurd (omega arith)), le-ltb i (length ws / 2) h);
      behind = record {
        pairs = λ k u. N.behind.pairs k (omega arith);
        rows = λ k l. elim (dec_lt k j) [ yes u ↦ N.behind.rows k u | no u ↦ F.passed k (omega arith) l ];
      };
    };
    ahead = record { pairs = λ k u v. absurd (omega arith); rows = from_index P A x j' F.found };
  }

  module _ (h : i < length ws / 2) {s at j' : ℕ} (is-s : s ≡ max (start ws i) x) (F : FirstFrom P j s at) (G : GoesOn P at s (finish ws i) j') where
    -- the row that is reached: those from s on, below it, are proved
    abbrev y : ℕ
    y = s + (j' - at)

    covered : (p : ℕ) → x ≤ p → p < finish ws i → holds (intervals_of ws) p ≡ leb (start ws i) p
    covered p a b = held_at ws i p S.canonical (λ m u. omega (arith, N.behind.pairs m u)) (λ u. b) ∙ rw (lt-ltb i (length ws / 2) h)

    rows_below : (k : ℕ) → k < j' → get_or P k 0 < y
    rows_below k l = elim (dec_lt k j) [
      | yes u ↦ omega (arith, N.behind.rows k u)
      | no u ↦ elim (dec_lt k at) [
        | yes v ↦ omega (arith, F.passed k (omega arith) v)
        | no v ↦ omega (arith, (G.rows k (omega arith) l).1)
      ]
    ]

    proved : (p : ℕ) → s ≤ p → p < y → is_in P p ≡ true
    proved p a b =
        let k : ℕ = at + (p - s) in
        let r = G.rows k (omega arith) (omega (arith, G.after)) in
        let q : get_or P k 0 ≡ p = omega (arith, r.1) in
        rw q at (in_at P k r.0)

    none_below : (p : ℕ) → from ≤ p → p < y → p < finish ws i → is_missing ws P p ≡ false
    none_below p a b d = elim (dec_lt p x) [
      | yes u ↦ N.none p a u
      | no u ↦ elim (dec_lt p s) [
        | yes v ↦ missing_is ws P p ∙ rw (covered p (omega arith) d, lt-leb (start ws i) p (omega arith))
        | no v ↦ missing_is ws P p ∙ rw (proved p (omega arith) b, and-false)
      ]
    ]

    reached : from ≤ y
    reached = omega (arith, N.after)

    -- all of the pair from x on is proved: the search goes on after it
    pub searched_more : finish ws i ≤ y → Searched ws P from (i + 1) j' y
    searched_more l = record {
      after = reached;
      none = λ p a b. elim (dec_lt p (finish ws i)) [
        | yes u ↦ none_below p a b u
        | no u ↦ N.none p a (past p b (omega arith))
      ];
      behind = record {
        pairs = λ k u. elim (dec_lt k i) [
          | yes v ↦ omega (arith, N.behind.pairs k v)
          | no v ↦ let q : k ≡ i = omega arith in rw q l
        ];
        rows = rows_below;
      };
    }
      where
        past : (p : ℕ) → p < y → finish ws i ≤ p → p < x
        past p b u = elim (dec_lt at j') [
          | yes v ↦ absurd (omega (arith, G.below v))
          | no v ↦ omega (arith, G.after, nonempty_at ws (length ws / 2) 0 i 0 S.canonical (omega arith) (omega arith))
        ]

    module _ (l : y < finish ws i) {t : ℕ} (is-t : t ≡ cond (ltb j' (length P)) (min (finish ws i) (get_or P j' 0)) (finish ws i)) where
      stop_some : j' < length P → t ≡ min (finish ws i) (get_or P j' 0)
      stop_some u = is-t ∙ rw (lt-ltb j' (length P) u)

      stop_none : length P ≤ j' → t ≡ finish ws i
      stop_none u = is-t ∙ rw (le-ltb j' (length P) u)

      -- the next proved position is past the row that is reached
      next_past : j' < length P → y < get_or P j' 0
      next_past u = elim (ℕ_discrete (get_or P j' 0) y) [
        | yes e ↦ absurd (G.stops u l e)
        | no e ↦ elim (dec_lt y (get_or P j' 0)) [ yes v ↦ v | no v ↦ absurd (e (omega (arith, at_least))) ]
      ]
        where
          at_least : y ≤ get_or P j' 0
          at_least = elim (dec_lt at j') [
            | yes v ↦
                let up = ascends_at 0 P (j' - 1) j' A (omega arith) u in
                omega (arith, up, (G.rows (j' - 1) (omega arith) (omega arith)).1)
            | no v ↦
                let q : at ≡ j' = omega (arith, G.after) in
                let found : s ≤ get_or P j' 0 = rw q at (F.found (omega arith)) in
                omega arith
          ]

      stop_between : (y < t) × (t ≤ finish ws i)
      stop_between = elim (dec_lt j' (length P)) [
        | yes u ↦ (omega (arith, stop_some u, next_past u), omega (arith, stop_some u))
        | no u ↦ (omega (arith, stop_none (omega arith)), omega (arith, stop_none (omega arith)))
      ]

      -- the run that is found
      pub searched_run : NextRun ws P from (record { start = y; end = t; pair = i; seen = j' })
      searched_run = record {
        after = reached;
        skipped = λ p a b. none_below p a b (omega arith);
        run = record {
          all = λ p a b. missing_is ws P p
              ∙ rw (covered p (omega arith) (omega (arith, stop_between)), le-leb (start ws i) p (omega arith), unproved p a b);
          none = λ u p a. absurd (omega (arith, stop_between));
          behind = record { pairs = λ k u. omega (arith, N.behind.pairs k u); rows = rows_below };
        };
        ahead = record {
          pairs = λ k u v. omega (arith, ends_before ws (length ws / 2) 0 i k 0 S.canonical (omega arith) u (omega arith));
          rows = from_index P A y j' (λ u. omega (arith, next_past u));
        };
      }
        where
          unproved : (p : ℕ) → y ≤ p → p < t → is_in P p ≡ false
          unproved p a b = in_gap 0 P j' p A (λ k u. omega (arith, rows_below k u)) (λ u. omega (arith, stop_some u))
