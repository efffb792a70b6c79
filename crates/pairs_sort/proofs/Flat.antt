-- The words of pairs: of one list after another, and of the pairs that stand at a place in words. Assumes nothing.
use Prim.Native.Nat.{ℕ, zero, suc, ◌+◌, ◌*◌, ◌≤◌}
use mathlib.Core.Path.{◌≡◌, refl, sym, ap, ◌∙◌}
use mathlib.Core.List.{List, [], ◌∷◌, ◌++◌}
use native.Mathlib.Numerals.{add-one}
use native.Mathlib.Omega.{arith}
use lib.ListN.{length, take, drop}
use lib.Seq.{take_at, drop-cons}
use Rattle.intervals.specs.Intervals.{Interval}
use Rattle.pairs_sort.specs.Pairs.{start, finish, pairs_from, pairs, flat_pairs}
use Rattle.pairs_sort.proofs.Laws.{pairs_length, length_flat}

pub flat_append : (A B : List Interval) → flat_pairs (A ++ B) ≡ flat_pairs A ++ flat_pairs B
unfolding flat_pairs
flat_append [] B = refl
flat_append (a ∷ A) B = rw (flat_append A B)

flat_pair : (ws : List ℕ) (i : ℕ) → 2 * i + 2 ≤ length ws → start ws i ∷ finish ws i ∷ drop (2 * suc i) ws ≡ drop (2 * i) ws
flat_pair ws i h =
    let e : 2 * suc i ≡ suc (2 * i + 1) = omega arith in
    sym
    (drop-cons ws (2 * i) 0 (omega arith)
    ∙ ap (λ (l : List ℕ). start ws i ∷ l)
    (ap (λ (n : ℕ). drop n ws) (sym (add-one (2 * i))) ∙ drop-cons ws (2 * i + 1) 0 (omega arith) ∙ ap (λ (n : ℕ). finish ws i ∷ drop n ws) (sym e)))

-- the words of k pairs from i on, and the words behind them
pub flat_pairs_lem : (ws : List ℕ) (i k : ℕ) → 2 * (i + k) ≤ length ws → flat_pairs (pairs_from ws i k) ++ drop (2 * (i + k)) ws ≡ drop (2 * i) ws
unfolding flat_pairs pairs_from
flat_pairs_lem ws i zero h = let e : i + 0 ≡ i = omega arith in rw e
flat_pairs_lem ws i (suc k) h =
    let e : i + suc k ≡ suc i + k = omega arith in
    rw (e, flat_pairs_lem ws (suc i) k (omega arith)) (flat_pair ws i (omega arith))

-- the words of the first k pairs
pub flat_front : (ws : List ℕ) (k : ℕ) → 2 * k ≤ length ws → flat_pairs (pairs ws k) ≡ take (2 * k) ws
flat_front ws k h =
    sym (take_at (flat_pairs (pairs ws k)) (drop (2 * k) ws) (2 * k) (length_flat (pairs ws k) ∙ ap (λ (n : ℕ). 2 * n) (pairs_length ws k 0)))
    ∙ ap (λ (l : List ℕ). take (2 * k) l) whole
  where
    whole : flat_pairs (pairs ws k) ++ drop (2 * k) ws ≡ ws
    whole = let e : 0 + k ≡ k = omega arith in rw e at (flat_pairs_lem ws 0 k (omega arith))
