-- Big-endian numbers: of eight bytes, and how two lists of bytes of one length stand as their numbers do. Assumes nothing.
use Rattle.std.specs.declared.cmp.Ordering.{Ordering}
use Rattle.std.specs.declared.cmp.Ordering.TheVariants.{Less, Equal, Greater}
use Prim.Native.Nat.{ℕ, zero, suc, ◌+◌, ◌-◌, ◌*◌, ◌^◌, ◌<◌}
use mathlib.Core.Path.{◌≡◌, refl}
use mathlib.Core.List.{List, [], ◌∷◌}
use native.Mathlib.Omega.{arith}
use native.Mathlib.Nat.{mul-le-mul_right, pow-suc, pow-zero}
use lib.ListN.{length, get_or, take, drop, length-drop}
use lib.Seq.{drop-cons, drop-length, get_or-drop}
use Rattle.key_order.specs.Order.{compare_numbers, then_by, compare_keys}
use Rattle.key_order.specs.Words.{be}
use Rattle.key_order.proofs.Numbers.{Says, numbers_say}

-- ---- eight bytes

be_step : (k : List ℕ) (i : ℕ) → i < length k → be (drop i k) ≡ get_or k i 0 * 256 ^ (length k - suc i) + be (drop (suc i) k)
unfolding be
be_step k i h = rw (drop-cons k i 0 h, length-drop (suc i) k)

pub be_eight : (k : List ℕ) → length k ≡ 8
    → get_or k 7 0 + get_or k 6 0 * 256 + get_or k 5 0 * 65536 + get_or k 4 0 * 16777216 + get_or k 3 0 * 4294967296 + get_or k 2 0 * 1099511627776
    + get_or k 1 0 * 281474976710656 + get_or k 0 0 * 72057594037927936
    ≡ be k
be_eight k e =
    let at : (i j : ℕ) → i < 8 → 8 - suc i ≡ j → be (drop i k) ≡ get_or k i 0 * 256 ^ j + be (drop (suc i) k) =
    (λ i j h q. rw (← q, ← e) (be_step k i (omega arith))) in
    let end : be (drop 8 k) ≡ 0 = rw (← e, drop-length k) (unfold be in refl) in
    omega (arith, at 0 7 (omega arith) refl, at 1 6 (omega arith) refl, at 2 5 (omega arith) refl, at 3 4 (omega arith) refl, at 4 3 (omega arith) refl, at 5 2 (omega arith) refl, at 6 1 (omega arith) refl, at 7 0 (omega arith) refl, end)

-- ---- bytes

-- each is below 256
pub record Bytes (k : List ℕ) : Type 0 where
  pub small : (i : ℕ) → get_or k i 0 < 256

bytes_tail : (b : ℕ) (k : List ℕ) → Bytes (b ∷ k) → Bytes k
bytes_tail b k s = record { small = λ i. s.small (suc i) }

pub bytes_take : (n : ℕ) (k : List ℕ) → Bytes k → Bytes (take n k)
bytes_take n k s = record { small = go n k s }
  where
    go : (n : ℕ) (k : List ℕ) → Bytes k → (i : ℕ) → get_or (take n k) i 0 < 256
    go zero k s i = omega arith
    go (suc n) [] s i = omega arith
    go (suc n) (b ∷ k) s zero = s.small 0
    go (suc n) (b ∷ k) s (suc i) = go n k (bytes_tail b k s) i

pub bytes_drop : (n : ℕ) (k : List ℕ) → Bytes k → Bytes (drop n k)
bytes_drop n k s = record { small = λ i. rw (get_or-drop n k i 0) (s.small (n + i)) }

pub be_bound : (k : List ℕ) → Bytes k → be k < 256 ^ length k
unfolding be
be_bound [] s = omega (arith, pow-zero 256)
be_bound (b ∷ k) s =
    omega (arith, pow-suc 256 (length k), be_bound k (bytes_tail b k s), mul-le-mul_right {m = b} {n = 255} (256 ^ length k) (omega (arith, s.small 0)))

-- two keys of one length stand as their numbers do
pub be_says : (a b : List ℕ) → length a ≡ length b → Bytes a → Bytes b → Says (compare_keys a b) (be a) (be b)
unfolding be compare_keys
be_says [] [] e s t = refl
be_says [] (y ∷ b) e s t = absurd (omega arith)
be_says (x ∷ a) [] e s t = absurd (omega arith)
be_says (x ∷ a) (y ∷ b) e s t =
    let q : length a ≡ length b = omega arith in
    rw q (go (compare_numbers x y) (numbers_say x y) (compare_keys a b) (be_says a b q (bytes_tail x a s) (bytes_tail y b t)) (rw q at (be_bound a (bytes_tail x a s))))
  where
    go : (o : Ordering) → Says o x y → (r : Ordering) → Says r (be a) (be b) → be a < 256 ^ length b
        → Says (then_by o r) (x * 256 ^ length b + be a) (y * 256 ^ length b + be b)
    go Less l r h m = omega (arith, mul-le-mul_right (256 ^ length b) l, m)
    go Equal l Less h m = rw l (omega arith)
    go Equal l Equal h m = rw l (omega arith)
    go Equal l Greater h m = rw l (omega arith)
    go Greater l r h m = omega (arith, mul-le-mul_right (256 ^ length b) l, be_bound b (bytes_tail y b t))
