-- Where a direction is answered no, no key between the boundaries stands there. Assumes nothing.
use Prim.Native.Nat.{ℕ, ◌+◌, ◌≤◌}
use mathlib.Core.Path.{◌≡◌, sym, ◌∙◌}
use mathlib.Core.Bool.{true, false}
use mathlib.Core.List.{List}
use native.Mathlib.Omega.{arith}
use lib.Dec.{ltb}
use borrow.Author.Tests.{leb-true, ltb-false, le-ltb}
use Rattle.key_order.specs.Order.{compare_keys}
use Rattle.key_order.specs.Boundary.{Boundary, unbounded_start, unbounded_end, at_key, between}
use Rattle.key_order.proofs.Bools.{both_true}
use Rattle.key_order.proofs.Numbers.{says_less}
use Rattle.key_order.proofs.Line.{size, place, place_says}
use Rattle.key_order.proofs.Ranks.{extent, rank, key_rank, level_bound, between_rank}
use Rattle.query_item.specs.Items.{below}
use Rattle.range_borrowed.specs.Borrowed.{may_stand_left, may_stand_right}

-- the order of keys is that of their places
below_place : (n : ℕ) (x y : List ℕ) → size x ≤ n → size y ≤ n → below x y ≡ ltb (place n x) (place n y)
below_place n x y h k = says_less (compare_keys x y) (place n x) (place n y) (place_says n x y h k)

module _ (s e : Boundary) (key k : List ℕ) (held : between s e k ≡ true) where
  abbrev n : ℕ
  n = extent s + extent e + size key + size k

  ranks : (rank n s ≤ key_rank n k) × (key_rank n k ≤ rank n e)
  ranks =
      let both = both_true _ _ (sym (between_rank n s e k (omega arith) (omega arith) (omega arith)) ∙ held) in
      (leb-true _ _ both.0, leb-true _ _ both.1)

pub none_left : (s e : Boundary) (key k : List ℕ) → between s e k ≡ true → may_stand_left s key ≡ false → below k key ≡ false
none_left unbounded_start e key k held none = cc
none_left unbounded_end e key k held none = cc
none_left (at_key a i) e key k held none =
    let m = size a + extent e + size key + size k in
    let r = ranks (at_key a i) e key k held in
    let l = ltb-false (place m a) (place m key) (sym (below_place m a key (omega arith) (omega arith)) ∙ none) in
    below_place m k key (omega arith) (omega arith) ∙ le-ltb (place m k) (place m key) (omega arith)

pub none_right : (s e : Boundary) (key k : List ℕ) → between s e k ≡ true → may_stand_right e key ≡ false → below key k ≡ false
none_right s unbounded_start key k held none = cc
none_right s unbounded_end key k held none = cc
none_right s (at_key b i) key k held none =
    let m = extent s + size b + size key + size k in
    let r = ranks s (at_key b i) key k held in
    let l = ltb-false (place m key) (place m b) (sym (below_place m key b (omega arith) (omega arith)) ∙ none) in
    below_place m key k (omega arith) (omega arith) ∙ le-ltb (place m key) (place m k) (omega (arith, level_bound i))
