-- A key with one zero byte appended, told by lengths, last byte and the bytes before it. Assumes nothing.
use Rattle.std.specs.declared.cmp.Ordering.{Ordering}
use Rattle.std.specs.declared.cmp.Ordering.TheVariants.{Less, Equal, Greater}
use Rattle.std.specs.Ordering.{is_eq}
use Prim.Native.Nat.{ℕ, suc, ◌+◌, ◌-◌}
use mathlib.Core.Path.{◌≡◌, refl, sym, ap, ◌∙◌}
use mathlib.Core.Bool.{Bool, true, false, ◌&&◌, false≢true}
use mathlib.Core.List.{List, [], ◌∷◌}
use native.Mathlib.Nat.{sub-zero}
use native.Mathlib.Omega.{arith}
use lib.ListN.{length, get_or, take, drop, length-append, length-take, length-drop}
use lib.Dec.{leb, eqb}
use borrow.Author.Tests.{leb-true, ne_eqb}
use Rattle.key_order.specs.Order.{compare_numbers, compare_keys, then_by}
use Rattle.key_order.proofs.Numbers.{numbers_of_says}
use Rattle.key_order.proofs.Laws.{compare_equal}
use Rattle.query_item.specs.declared.KeyAt.{KeyAt}
use Rattle.query_item.specs.Items.{bytes_of}
use Rattle.keyless.specs.Keyless.{next_key}

not_equal : (o : Ordering) → (o ≡ Equal → ⊥) → is_eq o ≡ false
not_equal Less h = refl
not_equal Equal h = absurd (h refl)
not_equal Greater h = refl

next_at : (a : List ℕ) → get_or (next_key a) (length a) 0 ≡ 0
next_at [] = refl
next_at (x ∷ a) = next_at a

-- another length is no next key
pub next_length : (a b : List ℕ) → (length b ≡ length a + 1 → ⊥) → is_eq (compare_keys (next_key a) b) ≡ false
next_length a b h = not_equal (compare_keys (next_key a) b) (λ e. h (sym (ap length ((compare_equal (next_key a) b).0 e)) ∙ length-append a (0 ∷ [])))

-- nor is one that is named as no longer than a key within the pool
pub next_longer : (pool : List ℕ) (a b : KeyAt) → leb b.length a.length && leb (a.offset + a.length) (length pool) ≡ true
    → is_eq (compare_keys (next_key (bytes_of pool a)) (bytes_of pool b)) ≡ false
next_longer pool a b e = go (leb b.length a.length) (leb (a.offset + a.length) (length pool)) refl refl e
  where
    go : (p q : Bool) → leb b.length a.length ≡ p → leb (a.offset + a.length) (length pool) ≡ q → p && q ≡ true
        → is_eq (compare_keys (next_key (bytes_of pool a)) (bytes_of pool b)) ≡ false
    go false q f g e = absurd (false≢true e)
    go true q f g e =
        let short = leb-true b.length a.length f in
        let within = leb-true (a.offset + a.length) (length pool) (g ∙ e) in
        next_length (bytes_of pool a) (bytes_of pool b)
        (λ l. omega (arith, l, short, within, length-take a.length (drop a.offset pool), length-drop a.offset pool, length-take b.length (drop b.offset pool)))

-- nor is another last byte
pub next_last : (a b : List ℕ) → (get_or b (length a) 0 ≡ 0 → ⊥) → is_eq (compare_keys (next_key a) b) ≡ false
next_last a b h = not_equal (compare_keys (next_key a) b) (λ e. h (ap (λ (l : List ℕ). get_or l (length a) 0) (sym ((compare_equal (next_key a) b).0 e)) ∙ next_at a))

-- of the right length and last byte, the bytes before it decide
next_same : (a b : List ℕ) → length b ≡ length a + 1 → get_or b (length a) 0 ≡ 0 → compare_keys (next_key a) b ≡ compare_keys a (take (length a) b)
unfolding compare_keys
next_same [] [] h z = absurd (omega arith)
next_same [] (y ∷ []) h z = rw (numbers_of_says Equal 0 y (sym z))
next_same [] (y ∷ w ∷ l) h z = absurd (omega arith)
next_same (x ∷ a) [] h z = absurd (omega arith)
next_same (x ∷ a) (y ∷ b) h z = ap (then_by (compare_numbers x y)) (next_same a b (omega arith) z)

-- the same of the part of b from 0 on
pub next_part : (a b : List ℕ) → length b ≡ length a + 1 → get_or b (length a) 0 ≡ 0 → compare_keys a (take (length a - 0) b) ≡ compare_keys (next_key a) b
next_part a b h z = rw (sub-zero (length a)) (sym (next_same a b h z))

-- the empty key is told by its length
pub empty_length : (b : List ℕ) → eqb (length b) 0 ≡ is_eq (compare_keys [] b)
unfolding compare_keys
empty_length [] = refl
empty_length (y ∷ l) = ne_eqb (suc (length l)) 0 (λ e. omega arith)
