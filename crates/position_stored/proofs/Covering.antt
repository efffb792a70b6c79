-- `cover` of a list that is checked: from the place and the grown range to the list, its length and its rows. Assumes nothing.
use Prim.Native.Nat.{ℕ, zero, suc, ◌+◌, ◌-◌, ◌≤◌, ◌<◌}
use mathlib.Core.Path.{◌≡◌, ap, ◌∙◌}
use mathlib.Core.List.{List, ◌∷◌, ◌++◌, []}
use native.Mathlib.Decide.{dec_lt}
use native.Mathlib.Omega.{arith}
use lib.ListN.{length, length-append}
use Rattle.intervals.specs.Intervals.{Interval}
use Rattle.intervals.specs.Cover.{grow_of, cover_of, cover}
use Rattle.intervals.proofs.Laws.{cover_skip, cover_here, cover_some, cover_canonical}
use Rattle.pairs_sort.specs.Pairs.{start, finish, pairs_from, pairs}
use Rattle.pairs_sort.proofs.Laws.{pairs_more, pairs_end, pairs_length}
use Rattle.position_given.specs.Positions.{rows_of}
use Rattle.position_given.proofs.Widths.{Ends, length_positions, Words, ends_of, positions_bound}
use Rattle.position_given.proofs.Rows.{rows_append, rows_split}
use Rattle.position_stored.specs.Inner.{StoredList, Passed, Grew}

-- pairs that end below the range stay
cover_front : (ws : List ℕ) (s e k i n : ℕ) → ((j : ℕ) → i ≤ j → j < i + k → finish ws j < s)
    → cover_of (pairs_from ws i (k + n)) s e ≡ pairs_from ws i k ++ cover_of (pairs_from ws (i + k) n) s e
unfolding pairs_from
cover_front ws s e zero i n h = let p : 0 + n ≡ n = omega arith in let q : i + 0 ≡ i = omega arith in rw (p, q)
cover_front ws s e (suc k) i n h =
    let p : suc k + n ≡ suc (k + n) = omega arith in
    let q : i + suc k ≡ suc i + k = omega arith in
    rw (
      p,
      q,
      cover_skip (start ws i, finish ws i) (pairs_from ws (suc i) (k + n)) s e (h i (omega arith) (omega arith)),
      cover_front ws s e k (suc i) n (λ j l m. h j (omega arith) (omega arith)),
    )

-- the first that does not starts the growth
cover_rest : (ws : List ℕ) (count s e at : ℕ) → Passed ws count s at
    → cover_of (pairs_from ws at (count - at)) s e ≡ grow_of (pairs_from ws at (count - at)) s e
unfolding cover_of grow_of
cover_rest ws count s e at P = elim (dec_lt at count) [
  | yes h ↦ rw (pairs_more ws at count h) (cover_here (start ws at, finish ws at) (pairs_from ws (at + 1) (count - (at + 1))) s e (P.here h))
  | no h ↦ rw (pairs_end ws at count (omega arith))
]

ends_append : (most : ℕ) (A B : List Interval) → Ends most A → Ends most B → Ends most (A ++ B)
ends_append most [] B p q = q
ends_append most (a ∷ A) B p q = (p.0, ends_append most A B p.1 q)

module _ {ws : List ℕ} {count total s e : ℕ} (S : StoredList ws count total) (h : s < e) {at : ℕ} (P : Passed ws count s at)
    {from t f gone : ℕ} (G : Grew ws count at s e from t f gone) where
  pub cover_is : cover (pairs ws count) s e ≡ pairs ws at ++ (t, f) ∷ pairs_from ws from (count - from)
  cover_is =
      let p : at + (count - at) ≡ count = omega (arith, P.within) in
      let q : 0 + at ≡ at = omega arith in
      cover_some (pairs ws count) s e h
      ∙ (rw (p, q) at (cover_front ws s e at 0 (count - at) (λ j l m. P.before j (omega arith))))
      ∙ ap (λ (A : List Interval). pairs ws at ++ A) (cover_rest ws count s e at P ∙ G.list)

  pub cover_length : length (pairs ws at ++ (t, f) ∷ pairs_from ws from (count - from)) ≡ at + 1 + (count - from)
  cover_length =
      rw (length-append (pairs ws at) ((t, f) ∷ pairs_from ws from (count - from)), pairs_length ws at 0, pairs_length ws (count - from) from)
      (omega arith)

  parts : rows_of (pairs ws at) + (gone + rows_of (pairs_from ws from (count - from))) ≡ total
  parts = omega (arith, rows_split ws count at P.within, G.rows, S.right)

  pub cover_gone : gone ≤ total
  cover_gone = omega (arith, parts)

  pub cover_rows : rows_of (pairs ws at ++ (t, f) ∷ pairs_from ws from (count - from)) ≡ total - gone + (f - t)
  cover_rows =
      omega (arith, parts, rows_append (pairs ws at) ((t, f) ∷ pairs_from ws from (count - from)), length_positions (t, f) (pairs_from ws from (count - from)))

  pub cover_fits : Words ws → f < 18446744073709551616 → total - gone + (f - t) < 18446744073709551616
  cover_fits w k =
      let most : ℕ = 18446744073709551615 in
      let ends = ends_append most (pairs ws at) ((t, f) ∷ pairs_from ws from (count - from)) (ends_of ws w at 0) (omega arith, ends_of ws w (count - from) from) in
      let all = positions_bound 0 most (cover (pairs ws count) s e) (omega arith) (cover_canonical (pairs ws count) s e S.canonical) (rw cover_is ends) in
      omega (arith, all, ap rows_of cover_is, cover_rows)
