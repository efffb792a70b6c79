-- The search for the last missing row below a row: what a pair, the last proved position below a row, and the positions that go back from there
-- tell. Assumes nothing.
use Prim.Native.Nat.{ℕ, ◌+◌, ◌-◌, ◌/◌, ◌≤◌, ◌<◌, min}
use mathlib.Core.Path.{◌≡◌, ◌∙◌}
use mathlib.Core.Bool.{true, false, and-false}
use mathlib.Core.List.{List}
use native.Mathlib.Decide.{dec_lt, ℕ_discrete}
use native.Mathlib.Omega.{arith}
use lib.ListN.{length, get_or}
use borrow.Author.Tests.{lt-ltb, le-ltb, le-leb, lt-leb}
use Rattle.intervals.specs.Intervals.{holds}
use Rattle.pairs_sort.specs.Pairs.{start, finish}
use Rattle.position_given.specs.Given.{intervals_of}
use Rattle.position_given.specs.Positions.{is_in}
use Rattle.position_given.specs.Inner.{Sound, Ascends}
use Rattle.position_given.proofs.Widths.{nonempty_at, ends_before}
use Rattle.position_given.proofs.Held.{held_at}
use Rattle.position_given.proofs.Positions.{in_at, in_gap, ascends_at}
use Rattle.position_plan.specs.Inner.{is_missing, Ahead, LastRow, LastBelow, GoesBack}
use Rattle.position_plan.proofs.Search.{missing_is}

-- ---- a turn of the search

-- no row from t on, below x, is missing; the pairs from i on, and the proved positions from j on, are at or above t
pub record Backed (ws P : List ℕ) (x i j t : ℕ) : Type 0 where
  pub within : t ≤ x
  pub none : (p : ℕ) → t ≤ p → p < x → is_missing ws P p ≡ false
  pub pairs : (k : ℕ) → i ≤ k → k < length ws / 2 → t ≤ start ws k
  pub rows : (k : ℕ) → j ≤ k → k < length P → t ≤ get_or P k 0
  pub in_pairs : i ≤ length ws / 2
  pub in_rows : j ≤ length P

pub backed_start : {ws P : List ℕ} {i j x i' j' : ℕ} → Ahead ws P i j x → i' ≡ min (i + 1) (length ws / 2) → j' ≡ min j (length P) → Backed ws P x i' j' x
backed_start {i = i} {j = j} H is-i is-j = record {
  within = omega arith;
  none = λ p a b. absurd (omega arith);
  pairs = λ k a b. H.pairs k (omega arith) b;
  rows = λ k a b. H.rows k (omega arith) b;
  in_pairs = omega arith;
  in_rows = omega arith;
}

module _ {ws P : List ℕ} (S : Sound ws) (A : Ascends 0 P) {x i j t : ℕ} (N : Backed ws P x i j t) where
  abbrev count : ℕ
  count = length ws / 2

  nonempty : (k : ℕ) → k < count → start ws k < finish ws k
  nonempty k l = nonempty_at ws count 0 k 0 S.canonical (omega arith) (omega arith)

  in_order : (k m : ℕ) → k < m → m < count → finish ws k < start ws m
  in_order k m u v = ends_before ws count 0 k m 0 S.canonical (omega arith) u (omega arith)

  -- between the pairs before i and those from i on nothing is covered
  uncovered : (p : ℕ) → ((k : ℕ) → k < i → finish ws k ≤ p) → p < t → holds (intervals_of ws) p ≡ false
  uncovered p h l = elim (dec_lt i count) [
    | yes u ↦
        held_at ws i p S.canonical h (λ v. omega (arith, N.pairs i (omega arith) u, nonempty i u))
        ∙ rw (lt-ltb i count u, lt-leb (start ws i) p (omega (arith, N.pairs i (omega arith) u)))
    | no u ↦ held_at ws i p S.canonical h (λ v. absurd (omega arith)) ∙ rw (le-ltb i count (omega arith))
  ]

  -- no pair is left
  pub backed_end : i ≡ 0 → LastRow ws P x 0
  backed_end h = record {
    within = omega arith;
    here = λ l. absurd (omega arith);
    none = λ p a b. elim (dec_lt p t) [
      | yes u ↦ missing_is ws P p ∙ rw (uncovered p (λ k v. absurd (omega arith)) u)
      | no u ↦ N.none p (omega arith) b
    ];
  }

  module _ (some : 0 < i) {e at j' : ℕ} (is-e : e ≡ min (finish ws (i - 1)) t) (F : LastBelow P j e at) (G : GoesBack P at (start ws (i - 1)) e j') where
    abbrev s : ℕ
    s = start ws (i - 1)

    -- the row that is reached: those from it on, below e, are proved
    abbrev y : ℕ
    y = e - (at - j')

    sum : y + (at - j') ≡ e
    sum = elim (dec_lt j' at) [ yes l ↦ omega (arith, G.above l) | no l ↦ omega arith ]

    last : i - 1 < count
    last = omega (arith, N.in_pairs)

    ends_by : (k : ℕ) → k < i → finish ws k ≤ finish ws (i - 1)
    ends_by k u = elim (dec_lt k (i - 1)) [
      | yes v ↦ omega (arith, in_order k (i - 1) v last, nonempty (i - 1) last)
      | no v ↦ let q : k ≡ i - 1 = omega arith in rw q (omega arith)
    ]

    proved : (p : ℕ) → y ≤ p → p < e → is_in P p ≡ true
    proved p a b =
        let k : ℕ = at - (e - p) in
        let r = G.rows k (omega (arith, sum, G.before)) (omega (arith, sum)) in
        let q : get_or P k 0 ≡ p = omega (arith, r, sum, G.before) in
        rw q at (in_at P k (omega (arith, sum, F.before, N.in_rows)))

    none_from : (p : ℕ) → y ≤ p → p < x → is_missing ws P p ≡ false
    none_from p a b = elim (dec_lt p t) [
      | yes u ↦ elim (dec_lt p e) [
        | yes v ↦ missing_is ws P p ∙ rw (proved p a v, and-false)
        | no v ↦ missing_is ws P p ∙ rw (uncovered p (λ k w. omega (arith, ends_by k w)) u)
      ]
      | no u ↦ N.none p (omega arith) b
    ]

    rows_from_lem : (k : ℕ) → j' ≤ k → k < length P → y ≤ get_or P k 0
    rows_from_lem k a b = elim (dec_lt k at) [
      | yes u ↦ omega (arith, G.rows k a u, sum)
      | no u ↦ elim (dec_lt k j) [
        | yes v ↦ omega (arith, F.passed k (omega arith) v)
        | no v ↦ omega (arith, N.rows k (omega arith) b)
      ]
    ]

    -- all of the pair below t is proved: the search goes back past it
    pub backed_more : y ≤ s → Backed ws P x (i - 1) j' y
    backed_more l = record {
      within = omega (arith, N.within);
      none = none_from;
      pairs = λ k a b. elim (dec_lt k i) [
        | yes u ↦ let q : i - 1 ≡ k = omega arith in rw q at l
        | no u ↦ omega (arith, N.pairs k (omega arith) b)
      ];
      rows = rows_from_lem;
      in_pairs = omega (arith, N.in_pairs);
      in_rows = omega (arith, G.before, F.before, N.in_rows);
    }

    -- the row before y is missing
    pub backed_row : s < y → LastRow ws P x y
    backed_row l = record {
      within = omega (arith, N.within);
      here = λ u. missing_is ws P (y - 1) ∙ rw (covered, unproved);
      none = none_from;
    }
      where
        covered : holds (intervals_of ws) (y - 1) ≡ true
        covered =
            held_at ws (i - 1) (y - 1) S.canonical (λ k u. omega (arith, in_order k (i - 1) u last)) (λ u. omega (arith, sum))
            ∙ rw (lt-ltb (i - 1) count last, le-leb s (y - 1) (omega arith))

        -- the last position before is below the row
        below : 0 < j' → get_or P (j' - 1) 0 < y - 1
        below u =
            let under : get_or P (j' - 1) 0 < y = elim (dec_lt j' at) [
              | yes v ↦ omega (arith, sum, G.rows j' (omega arith) v, ascends_at 0 P (j' - 1) j' A (omega arith) (omega (arith, F.before, N.in_rows)))
              | no v ↦ let q : at ≡ j' = omega (arith, G.before) in omega (arith, sum, rw q at (F.found (omega arith)))
            ] in
            elim (ℕ_discrete (get_or P (j' - 1) 0 + 1) y) [
              | yes q ↦ absurd (G.stops u (omega (arith, sum)) (omega (arith, sum)))
              | no q ↦ elim (dec_lt (get_or P (j' - 1) 0) (y - 1)) [ yes w ↦ w | no w ↦ absurd (q (omega arith)) ]
            ]

        unproved : is_in P (y - 1) ≡ false
        unproved = in_gap 0 P j' (y - 1) A (λ k u. elim (dec_lt k (j' - 1)) [
          | yes v ↦ omega (arith, below (omega arith), ascends_at 0 P k (j' - 1) A v (omega (arith, G.before, F.before, N.in_rows)))
          | no v ↦ let q : j' - 1 ≡ k = omega arith in rw q at (below (omega arith))
        ]) (λ u. omega (arith, rows_from_lem j' (omega arith) u))
