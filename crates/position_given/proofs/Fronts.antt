-- Pairs at the front of lent words, as a list of intervals of their own; and canonical ones by what they hold. Assumes nothing.
use Rattle.std.specs.Prelude.{Ok}
use Prim.Native.Nat.{ℕ, zero, suc, ◌+◌, ◌-◌, ◌*◌, ◌/◌, ◌≤◌}
use mathlib.Core.Path.{◌≡◌, sym, ap, ◌∙◌}
use mathlib.Core.Bool.{Bool}
use mathlib.Core.List.{List}
use native.Mathlib.Decide.{dec_lt}
use native.Mathlib.Omega.{arith}
use lib.ListN.{length, get_or, take, drop, get_or-eq_default}
use lib.Seq.{length-take-le, ext_get_or, get_or-take, get_or-drop}
use Rattle.intervals.specs.Intervals.{Interval, Canonical}
use Rattle.intervals.proofs.Laws.{canonical_unique}
use Rattle.pairs_sort.specs.Pairs.{pairs, flat_pairs, CanonicalPairs}
use Rattle.pairs_sort.proofs.Laws.{pairs_length, pairs_take, pairs_flat, length_flat}
use Rattle.pairs_sort.proofs.Flat.{flat_front}
use Rattle.position_given.specs.Given.{intervals_of}
use Rattle.position_given.specs.Positions.{rows_of}
use Rattle.position_given.specs.Answers.{rows_answer}
use Rattle.position_given.specs.Inner.{Sound}
use Rattle.position_given.proofs.Accepted.{canonical_accepts}
use Rattle.position_given.proofs.Widths.{nonempty_at}

-- the last of canonical pairs is nonempty, so that its end stands in the words
pub canonical_fits : (ws : List ℕ) (m : ℕ) → Canonical (pairs ws m) → 2 * m ≤ length ws
canonical_fits ws zero C = omega arith
canonical_fits ws (suc k) C = elim (dec_lt (2 * k + 1) (length ws)) [
  | yes h ↦ omega arith
  | no h ↦
      let last = nonempty_at ws (suc k) 0 k 0 C (omega arith) (omega arith) in
      absurd (omega (arith, last, get_or-eq_default ws 0 {n = 2 * k + 1} (omega arith)))
]

-- the pairs at the front of words are the intervals of these alone
pub front_pairs : (ws : List ℕ) (m : ℕ) → 2 * m ≤ length ws → intervals_of (take (2 * m) ws) ≡ pairs ws m
front_pairs ws m h =
    let half : 2 * m / 2 ≡ m = omega arith in
    rw (length-take-le (2 * m) ws h, half) (pairs_take ws (2 * m) m (omega arith))

module _ (ws : List ℕ) (m : ℕ) (C : Canonical (pairs ws m)) where
  pub front_intervals : intervals_of (take (2 * m) ws) ≡ pairs ws m
  front_intervals = front_pairs ws m (canonical_fits ws m C)

  -- canonical ones are counted
  pub front_rows : rows_answer (intervals_of (take (2 * m) ws)) ≡ Ok (rows_of (pairs ws m))
  front_rows = rw (front_intervals, canonical_accepts (pairs ws m) C)

  -- and are what accepted intervals are
  pub front_sound : Sound (take (2 * m) ws)
  front_sound = record {
    even = rw (length-take-le (2 * m) ws (canonical_fits ws m C)) (omega arith);
    canonical = rw front_intervals C;
  }

-- the words of intervals, read again, are the intervals
pub flat_intervals : (A : List Interval) → intervals_of (flat_pairs A) ≡ A
flat_intervals A = let half : length (flat_pairs A) / 2 ≡ length A = omega (arith, length_flat A) in ap (pairs (flat_pairs A)) half ∙ pairs_flat A

-- ---- canonical pairs by what they hold

-- the same said in other words: of what they hold, of how much room there was, and of words that stood later
pub pairs_as : {f g : ℕ → Bool} {n k : ℕ} {old mid new : List ℕ} {m : ℕ} → CanonicalPairs f n mid new m → ((p : ℕ) → f p ≡ g p) → n ≡ k
    → drop (2 * n) mid ≡ drop (2 * n) old → CanonicalPairs g k old new m
pairs_as C same is later = record {
  canonical = C.canonical;
  holding = λ p. C.holding p ∙ same p;
  freed = rw (← is) C.freed;
  later = rw (← is) (C.later ∙ later);
}

-- there is one list of them, and the words are the same
module _ {f : ℕ → Bool} {n : ℕ} {old new new' : List ℕ} {m m' : ℕ} (C : CanonicalPairs f n old new m) (D : CanonicalPairs f n old new' m') where
  pub pairs_unique : pairs new m ≡ pairs new' m'
  pairs_unique = canonical_unique (pairs new m) (pairs new' m') C.canonical D.canonical (λ p. C.holding p ∙ sym (D.holding p))

  pub number_unique : m ≡ m'
  number_unique = sym (pairs_length new m 0) ∙ ap length pairs_unique ∙ pairs_length new' m' 0

  pub words_unique : length new ≡ length new' → new ≡ new'
  words_unique size = ext_get_or 0 new new' size (λ i h. word i)
    where
      front : take (2 * m) new ≡ take (2 * m') new'
      front =
          sym (flat_front new m (canonical_fits new m C.canonical)) ∙ ap flat_pairs pairs_unique ∙ flat_front new' m' (canonical_fits new' m' D.canonical)

      word : (i : ℕ) → get_or new i 0 ≡ get_or new' i 0
      word i = elim (dec_lt i (2 * m)) [
        | yes h ↦
            sym (get_or-take (2 * m) new i 0 h)
            ∙ ap (λ (l : List ℕ). get_or l i 0) front
            ∙ get_or-take (2 * m') new' i 0 (omega (arith, number_unique))
        | no h ↦ elim (dec_lt i (2 * n)) [
          | yes k ↦ C.freed i (omega arith) k ∙ sym (D.freed i (omega (arith, number_unique)) k)
          | no k ↦
              let q : 2 * n + (i - 2 * n) ≡ i = omega arith in
              rw (get_or-drop (2 * n) new (i - 2 * n) 0, get_or-drop (2 * n) new' (i - 2 * n) 0, q) at
              (ap (λ (l : List ℕ). get_or l (i - 2 * n) 0) (C.later ∙ sym D.later))
        ]
      ]
