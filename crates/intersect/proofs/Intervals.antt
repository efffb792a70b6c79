-- The pair as intervals of ranks: what two ranges share and what is left over of each are the pieces that `intervals` cuts, and ranges that
-- an item can have. Assumes nothing.
use Rattle.std.specs.declared.cmp.Ordering.{Ordering}
use Rattle.std.specs.declared.cmp.Ordering.TheVariants.{Less, Equal, Greater}
use Prim.Native.Nat.{ℕ, ◌+◌, ◌≤◌, min, max}
use mathlib.Core.Path.{◌≡◌, refl, ap, ap₂}
use mathlib.Core.Bool.{true, false}
use mathlib.Core.List.{List, [], ◌∷◌, map}
use native.Mathlib.Decide.{dec_lt, dec_le}
use native.Mathlib.Omega.{arith}
use Rattle.key_order.specs.Order.{smaller}
use Rattle.key_order.proofs.Numbers.{Says}
use Rattle.key_order.proofs.Line.{size}
use Rattle.query_item.specs.declared.RangeSetItem.{RangeSetItem}
use Rattle.query_item.specs.declared.RangeSet.{RangeSet}
use Rattle.query_item.specs.Boundaries.{compare_in, invert_of}
use Rattle.query_item.proofs.Laws.{Starts, Ends, rank_in, interval, rank_says_in, invert_start, invert_end, rank_top}
use Rattle.intervals.specs.Intervals.{Interval, piece}
use Rattle.intervals.proofs.Model.{meet}
use Rattle.intervals.proofs.Laws.{All, piece_some, piece_none}
use Rattle.intersect.specs.Pair.{larger_start, smaller_end, overlap, meet_sets, left_over, right_over}
use Rattle.intersect.proofs.Ranked as ranked

-- what both boundaries have the smaller one has, and the larger
pub either : (P : RangeSetItem → Type 0) (o : Ordering) (x y : RangeSetItem) → P x → P y → P (smaller o x y)
either P Less x y p q = p
either P Equal x y p q = q
either P Greater x y p q = q

module _ (pool : List ℕ) (n : ℕ) (fits : size pool ≤ n) where
  abbrev rk : RangeSetItem → ℕ
  rk x = rank_in pool n fits x

  abbrev pub iv : RangeSet → Interval
  iv a = interval pool n fits a

  abbrev Good : RangeSet → Type 0
  Good a = ranked.Good pool n fits a

  -- ---- the larger start and the smaller end

  larger_is : (a b : RangeSet) → rk (larger_start pool a b) ≡ max (rk a.start) (rk b.start)
  larger_is a b = go (compare_in pool a.start b.start) (rank_says_in pool n fits a.start b.start)
    where
      go : (o : Ordering) → Says o (rk a.start) (rk b.start) → rk (smaller o b.start a.start) ≡ max (rk a.start) (rk b.start)
      go Less s = omega arith
      go Equal s = omega arith
      go Greater s = omega arith

  smaller_is : (a b : RangeSet) → rk (smaller_end pool a b) ≡ min (rk a.end) (rk b.end)
  smaller_is a b = go (compare_in pool a.end b.end) (rank_says_in pool n fits a.end b.end)
    where
      go : (o : Ordering) → Says o (rk a.end) (rk b.end) → rk (smaller o a.end b.end) ≡ min (rk a.end) (rk b.end)
      go Less s = omega arith
      go Equal s = omega arith
      go Greater s = omega arith

  -- ---- the pair

  module _ (a b : RangeSet) (A : Good a) (B : Good b) where
    overlap_good : rk b.start ≤ rk a.end → rk a.start ≤ rk b.end → Good (overlap pool a b)
    overlap_good l m =
        ranked.whole_of pool n fits (larger_start pool a b) (smaller_end pool a b)
        (either Starts (compare_in pool a.start b.start) b.start a.start B.starts A.starts)
        (either Ends (compare_in pool a.end b.end) a.end b.end A.ends B.ends)
        (omega (arith, larger_is a b, smaller_is a b, A.straight, B.straight))

    -- the larger start, and the smaller end, past its last rank
    abbrev from : ℕ
    from = max (rk a.start) (rk b.start)

    abbrev to : ℕ
    to = min (rk a.end + 1) (rk b.end + 1)

    pub meet_carried : All Good (meet_sets pool a b) × (map iv (meet_sets pool a b) ≡ meet (iv a) (iv b))
    unfolding meet
    meet_carried = elim (dec_le (rk b.start) (rk a.end)) [
      | no h ↦ rw (ranked.meet_none_below pool n fits a b A B (omega arith), piece_none from to (omega arith)) (tt, refl)
      | yes h ↦ elim (dec_le (rk a.start) (rk b.end)) [
        | no k ↦ rw (ranked.meet_none_past pool n fits a b A B (omega arith), piece_none from to (omega arith)) (tt, refl)
        | yes k ↦
            let e : rk (smaller_end pool a b) + 1 ≡ to = omega (arith, smaller_is a b) in
            let u = A.straight in
            let v = B.straight in
            rw (ranked.meet_some pool n fits a b A B (omega arith) (omega arith), piece_some from to (omega arith))
            ((overlap_good h k, tt), ap₂ (λ (s e : ℕ). (s, e) ∷ []) (larger_is a b) e)
      ]
    ]

    -- where what is left of a below b ends, and where what is left of it past b starts
    abbrev left_end : ℕ
    left_end = min (rk a.end + 1) (rk b.start)

    abbrev right_start : ℕ
    right_start = max (rk a.start) (rk b.end + 1)

    pub left_carried : All Good (left_over pool a b) × (map iv (left_over pool a b) ≡ piece (rk a.start) left_end)
    left_carried =
        let u = A.straight in
        elim (dec_lt (rk a.start) (rk b.start)) [
          | no h ↦ rw (ranked.left_none pool n fits a b A B (omega arith), piece_none (rk a.start) left_end (omega arith)) (tt, refl)
          | yes h ↦ elim (dec_lt (rk a.end) (rk b.start)) [
            | yes k ↦
                let e : left_end ≡ rk a.end + 1 = omega arith in
                rw (ranked.left_whole pool n fits a b A B (omega arith), e, piece_some (rk a.start) (rk a.end + 1) (omega arith))
                ((A, tt), refl)
            | no k ↦
                let i = invert_start pool n fits b.start B.starts (omega arith) in
                let e : left_end ≡ rk b.start = omega arith in
                rw (ranked.left_some pool n fits a b A B h (omega arith), e, piece_some (rk a.start) (rk b.start) h) (
                  (ranked.whole_of pool n fits a.start (invert_of b.start false) A.starts i.0 (omega (arith, i.1)), tt),
                  ap (λ (e : ℕ). (rk a.start, e) ∷ []) i.1,
                )
          ]
        ]

    pub right_carried : All Good (right_over pool a b) × (map iv (right_over pool a b) ≡ piece right_start (rk a.end + 1))
    right_carried =
        let u = A.straight in
        elim (dec_lt (rk b.end) (rk a.end)) [
          | no h ↦ rw (ranked.right_none pool n fits a b A B (omega arith), piece_none right_start (rk a.end + 1) (omega arith)) (tt, refl)
          | yes h ↦ elim (dec_lt (rk b.end) (rk a.start)) [
            | yes k ↦
                let e : right_start ≡ rk a.start = omega arith in
                rw (ranked.right_whole pool n fits a b A B (omega arith), e, piece_some (rk a.start) (rk a.end + 1) (omega arith))
                ((A, tt), refl)
            | no k ↦
                let i = invert_end pool n fits b.end B.ends (omega (arith, rank_top pool n fits a.end)) in
                let e : right_start ≡ rk b.end + 1 = omega arith in
                rw (ranked.right_some pool n fits a b A B (omega arith) (omega arith), e, piece_some (rk b.end + 1) (rk a.end + 1) (omega arith)) (
                  (ranked.whole_of pool n fits (invert_of b.end true) a.end i.0 A.ends (omega (arith, i.1)), tt),
                  ap (λ (s : ℕ). (s, rk a.end + 1) ∷ []) i.1,
                )
          ]
        ]
