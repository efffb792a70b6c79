-- A part of a list that may reach past its end. Assumes nothing.
use Prim.Native.Nat.{ℕ, ◌+◌, ◌-◌, min}
use mathlib.Core.Path.{◌≡◌}
use mathlib.Core.List.{List}
use native.Mathlib.Decide.{dec_le}
use native.Mathlib.Omega.{arith}
use lib.ListN.{length, take, drop, length-drop, drop_of_length-le}
use lib.Seq.{take_all, take-nil}

take_min : (n : ℕ) (l : List ℕ) → take (min n (length l)) l ≡ take n l
take_min n l = elim (dec_le n (length l)) [
  | yes h ↦ let e : min n (length l) ≡ n = omega arith in rw e
  | no h ↦ rw (take_all n l (omega arith), take_all (min n (length l)) l (omega arith))
]

-- clipped to the list, a part of n elements from o on is what take and drop give
pub part_clipped : (l : List ℕ) (o n f t : ℕ) → f ≡ min o (length l) → t ≡ min n (length l - f) → take (f + t - f) (drop f l) ≡ take n (drop o l)
part_clipped l o n f t p q =
    let e : f + t - f ≡ t = omega arith in
    elim (dec_le o (length l)) [
      | yes h ↦
          let same : f ≡ o = omega arith in
          let len : t ≡ min n (length (drop o l)) = omega (arith, length-drop o l) in
          rw (e, len, same) (take_min n (drop o l))
      | no h ↦ rw (drop_of_length-le l {i = f} (omega arith), drop_of_length-le l {i = o} (omega arith), take-nil, take-nil)
    ]
