-- `uncover` of a list that is checked: from the place, the pairs that go whole and the raise to the list, its length and its rows. Assumes nothing.
use Prim.Native.Nat.{ℕ, zero, suc, ◌+◌, ◌-◌, ◌≤◌, ◌<◌, max}
use mathlib.Core.Path.{◌≡◌, refl, sym, ap, ◌∙◌}
use mathlib.Core.Bool.{cond}
use mathlib.Core.List.{List, ◌++◌, append-nil}
use native.Mathlib.Decide.{dec_lt}
use native.Mathlib.Omega.{arith}
use lib.Dec.{ltb}
use lib.ListN.{length, length-append}
use Rattle.intervals.specs.Lists.{cuts_of}
use Rattle.intervals.specs.Intervals.{Interval, piece}
use Rattle.intervals.specs.Cover.{uncover}
use Rattle.intervals.proofs.Pieces.{cuts}
use Rattle.intervals.proofs.Laws.{cuts_skip, cuts_open, uncover_some, uncover_canonical, length_piece}
use Rattle.pairs_sort.specs.Pairs.{start, finish, pairs_from, pairs}
use Rattle.pairs_sort.proofs.Laws.{pairs_more, pairs_end, pairs_length}
use Rattle.position_given.specs.Positions.{rows_of}
use Rattle.position_given.proofs.Widths.{Words, ends_of, positions_bound, nonempty_at}
use Rattle.position_given.proofs.Rows.{cuts_ends, rows_append, rows_piece, rows_split, rest_apart}
use Rattle.position_stored.specs.Stored.{laid}
use Rattle.position_stored.specs.Inner.{StoredList, Place, Passed, Gone, Raised}
use Rattle.position_stored.proofs.Turns.{raised_none, raised_some}
use Rattle.position_stored.proofs.Places.{laid_later}

-- pairs that end at or before the start of the range stay
cuts_front : (ws : List ℕ) (s e k i n : ℕ) → s < e → ((j : ℕ) → i ≤ j → j < i + k → finish ws j ≤ s)
    → ((j : ℕ) → i ≤ j → j < i + k → start ws j < finish ws j)
    → cuts (pairs_from ws i (k + n)) (s, e) ≡ pairs_from ws i k ++ cuts (pairs_from ws (i + k) n) (s, e)
unfolding pairs_from
cuts_front ws s e zero i n l h g = let p : 0 + n ≡ n = omega arith in let q : i + 0 ≡ i = omega arith in rw (p, q)
cuts_front ws s e (suc k) i n l h g =
    let p : suc k + n ≡ suc (k + n) = omega arith in
    let q : i + suc k ≡ suc i + k = omega arith in
    rw (
      p,
      q,
      cuts_skip (start ws i, finish ws i) (pairs_from ws (suc i) (k + n)) s e (g i (omega arith) (omega arith)) (h i (omega arith) (omega arith)) l,
      cuts_front ws s e k (suc i) n l (λ j u v. h j (omega arith) (omega arith)) (λ j u v. g j (omega arith) (omega arith)),
    )

-- below e all goes from the pairs that end past it: as many are left
left_length : (ws : List ℕ) (count from e : ℕ) → Place ws count from → (from < count → e < finish ws from)
    → length (cuts (pairs_from ws from (count - from)) (0, e)) ≡ count - from
left_length ws count from e P past = elim (dec_lt from count) [
  | yes h ↦
      let R = raised_some ws count from e P h (past h) (max (start ws from) e) refl in
      rw (← R.list) (pairs_length _ (count - from) from)
  | no h ↦
      let R = raised_none ws count from e (omega (arith, P.placed)) in
      rw (← R.list) (pairs_length ws (count - from) from)
]

module _ {ws : List ℕ} {count total s e : ℕ} (S : StoredList ws count total) (h : s < e) {at : ℕ} (P : Passed ws count (s + 1) at) where
  front_is : uncover (pairs ws count) s e ≡ pairs ws at ++ cuts (pairs_from ws at (count - at)) (s, e)
  front_is =
      let p : at + (count - at) ≡ count = omega (arith, P.within) in
      let q : 0 + at ≡ at = omega arith in
      uncover_some (pairs ws count) s e h
      ∙ (rw (p, q) at (cuts_front ws s e at 0 (count - at) h (λ j l m. omega (arith, P.before j (omega arith)))
      (λ j l m. nonempty_at ws count 0 j 0 S.canonical (omega arith) (omega (arith, P.within)))))

  -- no pair ends past the start of the range
  pub uncover_past : at ≡ count → uncover (pairs ws count) s e ≡ pairs ws count
  unfolding cuts_of
  uncover_past k = front_is ∙ rw (pairs_end ws at count (omega arith), append-nil, k)

  module _ (m : at < count) {from gone : ℕ} (G : Gone ws count at e from gone) where
    kept : List Interval
    kept = cuts (pairs_from ws from (count - from)) (0, e)

    pub uncover_is : uncover (pairs ws count) s e
        ≡ pairs ws at ++ (piece (start ws at) s ++ cuts (pairs_from ws from (count - from)) (0, e))
    uncover_is =
        let rest = pairs_from ws (at + 1) (count - (at + 1)) in
        let a = rw (pairs_more ws at count m) at (rest_apart ws count at P.within S.canonical) in
        front_is
        ∙ ap (λ (A : List Interval). pairs ws at ++ A)
        (ap (λ (A : List Interval). cuts A (s, e)) (pairs_more ws at count m)
        ∙ cuts_open (start ws at, finish ws at) rest s e (omega (arith, P.here m)) a.2
        ∙ ap (λ (A : List Interval). piece (start ws at) s ++ cuts A (0, e)) (sym (pairs_more ws at count m))
        ∙ ap (λ (A : List Interval). piece (start ws at) s ++ A) G.going.list)

    pub uncover_place : Place ws count from
    uncover_place = record { within = S.within; canonical = S.canonical; placed = G.going.within }

    pub uncover_length : length (pairs ws at ++ (piece (start ws at) s ++ cuts (pairs_from ws from (count - from)) (0, e)))
        ≡ cond (ltb (start ws at) s) 1 0 + at + (count - from)
    unfolding kept
    uncover_length =
        rw (
          length-append (pairs ws at) (piece (start ws at) s ++ kept),
          length-append (piece (start ws at) s) kept,
          pairs_length ws at 0,
          length_piece (start ws at) s,
          left_length ws count from e uncover_place G.past,
        )
        (omega arith)

    parts : rows_of (pairs ws at) + (gone + rows_of (pairs_from ws from (count - from))) ≡ total
    parts = omega (arith, rows_split ws count at P.within, G.going.rows, S.right)

    pub uncover_gone : gone ≤ total
    uncover_gone = omega (arith, parts)

    module _ {vs : List ℕ} {cut : ℕ} (R : Raised ws count from e vs cut) where
      pub uncover_cut : cut ≤ total - gone
      uncover_cut = omega (arith, parts, R.rows)

      pub uncover_rows : rows_of (pairs ws at ++ (piece (start ws at) s ++ cuts (pairs_from ws from (count - from)) (0, e)))
          ≡ total - gone - cut + (s - start ws at)
      unfolding kept
      uncover_rows =
          omega (
            arith,
            parts,
            R.rows,
            ap rows_of R.list,
            rows_append (pairs ws at) (piece (start ws at) s ++ kept),
            rows_append (piece (start ws at) s) kept,
            rows_piece (start ws at) s,
          )

      pub uncover_fits : Words ws → total - gone - cut + (s - start ws at) < 18446744073709551616
      uncover_fits w =
          let most : ℕ = 18446744073709551615 in
          let all = positions_bound 0 most (uncover (pairs ws count) s e) (omega arith) (uncover_canonical (pairs ws count) s e S.canonical)
          (rw (uncover_some (pairs ws count) s e h) (cuts_ends most (pairs ws count) (s, e) (ends_of ws w count 0))) in
          omega (arith, all, ap rows_of uncover_is, uncover_rows)

      pub uncover_laid : (w : List ℕ) → w ≡ laid vs count (pairs vs at ++ (piece (start ws at) s ++ pairs_from vs from (count - from)))
          → w ≡ laid ws count (pairs ws at ++ (piece (start ws at) s ++ cuts (pairs_from ws from (count - from)) (0, e)))
      unfolding kept
      uncover_laid w is =
          is ∙ rw (R.front at G.going.after, R.list)
          (laid_later ws vs count (pairs ws at ++ (piece (start ws at) s ++ kept)) R.later)
