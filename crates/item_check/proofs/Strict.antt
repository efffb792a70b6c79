-- An accepted list by numbers: its items stand one above another, so that at most one of them holds a key. Assumes nothing.
use Rattle.std.specs.Ordering.{is_lt}
use Prim.Native.Nat.{ℕ, zero, suc, ◌+◌, ◌-◌, ◌≤◌, ◌<◌, ◌/◌}
use mathlib.Core.Path.{◌≡◌, sym, ◌∙◌}
use mathlib.Core.Bool.{true, ◌&&◌}
use mathlib.Core.List.{List}
use native.Mathlib.Decide.{dec_lt}
use native.Mathlib.Omega.{arith}
use lib.ListN.{length}
use lib.Dec.{leb}
use borrow.Author.Tests.{ltb-true, leb-true}
use Rattle.key_order.proofs.Bools.{both_true}
use Rattle.key_order.proofs.Line.{size}
use Rattle.key_order.proofs.Ranks.{key_rank, extent, between_rank}
use Rattle.query_item.specs.declared.RangeSetItem.{RangeSetItem}
use Rattle.query_item.specs.Items.{item_size, item_at, items_from, query_item, holds}
use Rattle.query_item.specs.Boundaries.{boundary_of, compare_in, set_at, upright}
use Rattle.query_item.proofs.Fits.{boundary_fits}
use Rattle.query_item.proofs.Held.{holds_between}
use Rattle.query_item.proofs.Intervals.{rank_in, less_rank, at_most_rank}
use Rattle.item_check.specs.Checks.{upright_fault}
use Rattle.item_check.proofs.Scans.{items_all}
use Rattle.item_check.proofs.Accepted.{AllSound, Following, InOrder, AcceptedList}
use Rattle.item_check.proofs.Faults.{sound_parts}

-- ---- each item of a list, by its index: it is upright, and ends below the start of the next

module _ (pool ws : List ℕ) where
  upright_from : (a n j : ℕ) → AllSound pool (items_from ws a n) → a ≤ j → j < a + n → upright pool (set_at ws j) ≡ true
  upright_from a n j s h l = (sound_parts pool (item_at ws j) (items_all (λ it. upright_fault pool it ≡ 0) ws a n s j h l)).2

  following_from : (a n j : ℕ) → Following pool (set_at ws a).end (items_from ws (suc a) n) → a ≤ j → j < a + n
      → is_lt (compare_in pool (set_at ws j).end (set_at ws (suc j)).start) ≡ true
  unfolding items_from
  following_from a zero j f h l = absurd (omega arith)
  following_from a (suc n) j f h l = elim (dec_lt a j) [
    | yes p ↦ following_from (suc a) n j f.1 (omega arith) (omega arith)
    | no p ↦ let e : j ≡ a = omega arith in rw e f.0
  ]

  order_from : (n j : ℕ) → InOrder pool (items_from ws 0 n) → suc j < n → is_lt (compare_in pool (set_at ws j).end (set_at ws (suc j)).start) ≡ true
  unfolding items_from
  order_from zero j o l = absurd (omega arith)
  order_from (suc n) j o l = following_from 0 n j o (omega arith) (omega arith)

-- ---- starts and ends as numbers: each item starts at or below its end, and above the end of the one before it

pub record Strict (start end : ℕ → ℕ) (count : ℕ) : Type 0 where
  pub straight : (j : ℕ) → j < count → start j ≤ end j
  pub apart : (j : ℕ) → suc j < count → end j < start (suc j)

module _ {start end : ℕ → ℕ} {count : ℕ} (r : Strict start end count) where
  later : (j d : ℕ) → suc j + d < count → end j < start (suc j + d)
  later j zero h = let e : suc j + 0 ≡ suc j = omega arith in rw e (r.apart j (omega arith))
  later j (suc d) h =
      let e : suc j + suc d ≡ suc (suc j + d) = omega arith in
      rw e (omega (arith, later j d (omega arith), r.straight (suc j + d) (omega arith), r.apart (suc j + d) (omega arith)))

  -- of two items the later starts above the end of the earlier, and so ends above it too

  pub later_starts : (j m : ℕ) → j < m → m < count → end j < start m
  later_starts j m h l = let e : m ≡ suc j + (m - suc j) = omega arith in rw e (later j (m - suc j) (omega arith))

  pub later_ends : (j m : ℕ) → j ≤ m → m < count → end j ≤ end m
  later_ends j m h l = elim (dec_lt j m) [
    | yes p ↦ omega (arith, later_starts j m p l, r.straight m l)
    | no p ↦ let e : j ≡ m = omega arith in rw e (omega arith)
  ]

-- ---- an accepted list, at a size that fits the pool and the key

module _ (pool ws k : List ℕ) (n : ℕ) (fits : size pool ≤ n) (held : size k ≤ n) where
  abbrev pub start_at : ℕ → ℕ
  start_at j = rank_in pool n fits (set_at ws j).start

  abbrev pub end_at : ℕ → ℕ
  end_at j = rank_in pool n fits (set_at ws j).end

  pub fit : (x : RangeSetItem) → extent (boundary_of pool x) ≤ n
  fit x = omega (arith, boundary_fits pool x)

  pub accepted_strict : AcceptedList pool ws → Strict start_at end_at (length ws / item_size)
  accepted_strict a = record {
    straight = λ j h. leb-true _ _
        (sym (at_most_rank pool n fits (set_at ws j).start (set_at ws j).end)
        ∙ upright_from pool ws 0 (length ws / item_size) j a.sound (omega arith) (omega arith));
    apart = λ j h. ltb-true _ _
        (sym (less_rank pool n fits (set_at ws j).end (set_at ws (suc j)).start)
        ∙ order_from pool ws (length ws / item_size) j a.in_order h);
  }

  pub holds_rank : (j : ℕ) → holds pool (query_item (item_at ws j)) k ≡ leb (start_at j) (key_rank n k) && leb (key_rank n k) (end_at j)
  holds_rank j =
      holds_between pool (query_item (item_at ws j)) k
      ∙ between_rank n _ _ k (fit (set_at ws j).start) (fit (set_at ws j).end) held

  within : (j : ℕ) → holds pool (query_item (item_at ws j)) k ≡ true → (start_at j ≤ key_rank n k) × (key_rank n k ≤ end_at j)
  within j t =
      let both = both_true (leb (start_at j) (key_rank n k)) (leb (key_rank n k) (end_at j)) (sym (holds_rank j) ∙ t) in
      (leb-true _ _ both.0, leb-true _ _ both.1)

  once : AcceptedList pool ws → (j m : ℕ) → j < m → m < length ws / item_size
      → holds pool (query_item (item_at ws j)) k ≡ true → holds pool (query_item (item_at ws m)) k ≡ true → ⊥
  once a j m h l p q = omega (arith, (within j p).1, (within m q).0, later_starts (accepted_strict a) j m h l)

-- at most one item of an accepted list holds a key: two that hold it are one
pub holds_once : (pool ws k : List ℕ) → AcceptedList pool ws → (j m : ℕ) → j < length ws / item_size → m < length ws / item_size
    → holds pool (query_item (item_at ws j)) k ≡ true → holds pool (query_item (item_at ws m)) k ≡ true → j ≡ m
holds_once pool ws k a j m h l p q = elim (dec_lt j m) [
  | yes x ↦ absurd (once pool ws k (size pool + size k) (omega arith) (omega arith) a j m x l p q)
  | no x ↦ elim (dec_lt m j) [
    | yes y ↦ absurd (once pool ws k (size pool + size k) (omega arith) (omega arith) a m j y h q p)
    | no y ↦ omega arith
  ]
]
