-- The bytes of a number, the greatest first. How two keys of one length stand as their numbers do is said in the Words.antt of `key_order`.
-- Assumes nothing.
use Prim.Native.Nat.{ℕ, zero, suc, ◌*◌, ◌%◌, ◌^◌, ◌<◌}
use mathlib.Core.Path.{◌≡◌, refl, sym, ap, ◌∙◌}
use native.Mathlib.Omega.{arith}
use native.Mathlib.Nat.{pow-suc, mod-one, mod-eq_of_lt}
use lib.Arith.{mod-mul}
use lib.ListN.{length, get_or}
use Rattle.key_order.specs.Words.{be}
use Rattle.key_order.proofs.Words.{Bytes}
use Rattle.position_key.specs.Keys.{be_bytes, position_key}

pub bytes_length : (k p : ℕ) → length (be_bytes k p) ≡ k
unfolding be_bytes
bytes_length zero p = refl
bytes_length (suc k) p = ap suc (bytes_length k p)

pub bytes_small : (k p : ℕ) → Bytes (be_bytes k p)
unfolding be_bytes
bytes_small k p = record { small = go k }
  where
    go : (k i : ℕ) → get_or (be_bytes k p) i 0 < 256
    go zero i = omega arith
    go (suc k) zero = omega arith
    go (suc k) (suc i) = go k i

pow_positive : (k : ℕ) → 0 < 256 ^ k
pow_positive zero = omega arith
pow_positive (suc k) = omega (arith, pow-suc 256 k, pow_positive k)

pub be_bytes_lem : (k p : ℕ) → be (be_bytes k p) ≡ p % 256 ^ k
unfolding be be_bytes
be_bytes_lem zero p = omega (arith, mod-one p)
be_bytes_lem (suc k) p =
    let grown : 256 ^ suc k ≡ 256 * 256 ^ k = omega (arith, pow-suc 256 k) in
    rw (bytes_length k p, be_bytes_lem k p, grown) (sym (mod-mul p {m = 256} {c = 256 ^ k} (omega arith) (pow_positive k)))

pub be_position : (p : ℕ) → p < 18446744073709551616 → be (position_key p) ≡ p
be_position p h = be_bytes_lem 8 p ∙ mod-eq_of_lt h
