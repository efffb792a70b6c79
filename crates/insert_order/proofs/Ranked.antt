-- Items on the line of ranks: each has the rank of its start, the rank of its end, and one rank of its own by which the order of items is
-- that of numbers. Ranks are taken at an n that is no less than the pool's size, so that every key of the pool fits. Assumes nothing.
use Rattle.std.specs.declared.cmp.Ordering.{Ordering}
use Rattle.std.specs.declared.cmp.Ordering.TheVariants.{Less, Equal, Greater}
use Rattle.std.specs.Ordering.{is_lt}
use Prim.Native.Nat.{ℕ, ◌+◌, ◌*◌, ◌≤◌, ◌<◌}
use mathlib.Core.Path.{◌≡◌, refl, sym, ap, ◌∙◌}
use mathlib.Core.Bool.{Bool, true, false, ◌&&◌}
use mathlib.Core.List.{List}
use native.Mathlib.Omega.{arith}
use native.Mathlib.Decide.{dec_lt}
use native.Mathlib.Nat.{mul-le-mul_right}
use lib.Dec.{eqb, ltb}
use borrow.Author.Tests.{eqb-true, eq-eqb}
use Rattle.key_order.specs.Order.{then_by}
use Rattle.key_order.proofs.Bools.{both_true}
use Rattle.key_order.proofs.Numbers.{Says, says_less}
use Rattle.key_order.proofs.Laws.{compare_same}
use Rattle.key_order.proofs.Line.{size, past}
use Rattle.key_order.proofs.Ranks.{rank}
use Rattle.query_item.specs.declared.ItemWords.{ItemWords}
use Rattle.query_item.specs.declared.RangeSetItem.{RangeSetItem}
use Rattle.query_item.specs.Items.{bytes_of, Shown, shown}
use Rattle.query_item.specs.Boundaries.{boundary_of, compare_in, range_of}
use Rattle.query_item.proofs.Laws.{shown_range, rank_says_in, rank_top}
use Rattle.insert_order.specs.Order.{compare_items, same_item, ends_below}

-- ---- equal items show the same, and those that show the same are equal

and_four : (a b c d : Bool) → a && b && c && d ≡ true → (a ≡ true) × (b ≡ true) × (c ≡ true) × (d ≡ true)
and_four a b c d e =
    let three = both_true (a && b && c) d e in
    let two = both_true (a && b) c three.0 in
    let one = both_true a b two.0 in
    (one.0, one.1, two.1, three.1)

pub same_shown : (pool : List ℕ) (x y : ItemWords) → same_item pool x y ≡ true → shown pool x ≡ shown pool y
unfolding same_item
same_shown pool x y e =
    let p = and_four (eqb x.code y.code) (eqb x.wrapper y.wrapper) _ _ e in
    let codes = eqb-true x.code y.code p.0 in
    let wrappers = eqb-true x.wrapper y.wrapper p.1 in
    let starts = (compare_same (bytes_of pool x.start) (bytes_of pool y.start)).0 p.2 in
    let ends = (compare_same (bytes_of pool x.end) (bytes_of pool y.end)).0 p.3 in
    cc

pub shown_same : (pool : List ℕ) (x y : ItemWords) → shown pool x ≡ shown pool y → same_item pool x y ≡ true
unfolding same_item
shown_same pool x y e = rw (
  eq-eqb x.code y.code (ap (λ (s : Shown). s.0) e),
  eq-eqb x.wrapper y.wrapper (ap (λ (s : Shown). s.1) e),
  (compare_same (bytes_of pool x.start) (bytes_of pool y.start)).1 (ap (λ (s : Shown). s.2) e),
  (compare_same (bytes_of pool x.end) (bytes_of pool y.end)).1 (ap (λ (s : Shown). s.3) e),
)

pub same_sym : (pool : List ℕ) (x y : ItemWords) → same_item pool x y ≡ true → same_item pool y x ≡ true
same_sym pool x y e = shown_same pool y x (sym (same_shown pool x y e))

pub same_comm : (pool : List ℕ) (x y : ItemWords) → same_item pool x y ≡ same_item pool y x
same_comm pool x y = go (same_item pool x y) refl (same_item pool y x) refl
  where
    go : (s : Bool) → same_item pool x y ≡ s → (t : Bool) → same_item pool y x ≡ t → s ≡ t
    go true p true q = refl
    go true p false q = sym (same_sym pool x y p) ∙ q
    go false p true q = sym p ∙ same_sym pool y x q
    go false p false q = refl

pub same_wrapper : (pool : List ℕ) (x y : ItemWords) → same_item pool x y ≡ true → x.wrapper ≡ y.wrapper
same_wrapper pool x y e = ap (λ (s : Shown). s.1) (same_shown pool x y e)

pub same_range : (pool : List ℕ) (x y : ItemWords) → same_item pool x y ≡ true
    → (boundary_of pool (range_of x).start ≡ boundary_of pool (range_of y).start) × (boundary_of pool (range_of x).end ≡ boundary_of pool (range_of y).end)
same_range pool x y e = shown_range pool pool x y (same_shown pool x y e)

-- ---- the order goes by what items show, of one pool or of two

module _ (P Q : List ℕ) (x y a b : ItemWords) (e : shown P x ≡ shown Q y) (f : shown P a ≡ shown Q b) where
  pub order_shown : compare_items P x a ≡ compare_items Q y b
  unfolding compare_items
  order_shown = let r = shown_range P Q x y e in let s = shown_range P Q a b f in rw (r.0, r.1, s.0, s.1)

  pub ends_shown : ends_below P x a ≡ ends_below Q y b
  unfolding ends_below
  ends_shown = rw ((shown_range P Q x y e).1, (shown_range P Q a b f).0)

  pub equal_shown : same_item P x a ≡ same_item Q y b
  unfolding same_item
  equal_shown = rw (
    ap (λ (s : Shown). s.0) e,
    ap (λ (s : Shown). s.1) e,
    ap (λ (s : Shown). s.2) e,
    ap (λ (s : Shown). s.3) e,
    ap (λ (s : Shown). s.0) f,
    ap (λ (s : Shown). s.1) f,
    ap (λ (s : Shown). s.2) f,
    ap (λ (s : Shown). s.3) f,
  )

-- ---- ranks

module _ (n : ℕ) (pool : List ℕ) where
  unfoldable pub rk : RangeSetItem → ℕ
  rk x = rank n (boundary_of pool x)

  abbrev pub lo : ItemWords → ℕ
  lo it = rk (range_of it).start

  abbrev pub hi : ItemWords → ℕ
  hi it = rk (range_of it).end

  -- one more than every rank
  abbrev top : ℕ
  top = 3 * past n + 2

  unfoldable pub item_rank : ItemWords → ℕ
  item_rank it = lo it * top + hi it

  module _ (h : size pool ≤ n) where
    rk_bound : (x : RangeSetItem) → rk x < top
    unfolding rk
    rk_bound x = omega (arith, rank_top pool n h x)

    pub rk_says : (x y : RangeSetItem) → Says (compare_in pool x y) (rk x) (rk y)
    unfolding rk
    rk_says x y = rank_says_in pool n h x y

    pub order_says : (x y : ItemWords) → Says (compare_items pool x y) (item_rank x) (item_rank y)
    unfolding compare_items item_rank
    order_says x y =
        go (compare_in pool (range_of x).start (range_of y).start) (rk_says (range_of x).start (range_of y).start)
        (compare_in pool (range_of x).end (range_of y).end) (rk_says (range_of x).end (range_of y).end)
      where
        go : (o : Ordering) → Says o (lo x) (lo y) → (r : Ordering) → Says r (hi x) (hi y) → Says (then_by o r) (lo x * top + hi x) (lo y * top + hi y)
        go Less l r s = omega (arith, mul-le-mul_right top l, rk_bound (range_of x).end)
        go Equal l Less s = rw l (omega arith)
        go Equal l Equal s = rw l (omega arith)
        go Equal l Greater s = rw l (omega arith)
        go Greater l r s = omega (arith, mul-le-mul_right top l, rk_bound (range_of y).end)

    pub order_less : (x y : ItemWords) → is_lt (compare_items pool x y) ≡ ltb (item_rank x) (item_rank y)
    order_less x y = says_less (compare_items pool x y) (item_rank x) (item_rank y) (order_says x y)

    pub ends_less : (x y : ItemWords) → ends_below pool x y ≡ ltb (hi x) (lo y)
    unfolding ends_below
    ends_less x y = says_less (compare_in pool (range_of x).end (range_of y).start) (hi x) (lo y) (rk_says (range_of x).end (range_of y).start)

    -- a later start is a later item, and of items in order the starts are in order

    pub rank_above : (x y : ItemWords) → lo x < lo y → item_rank x < item_rank y
    unfolding item_rank
    rank_above x y l = omega (arith, mul-le-mul_right top l, rk_bound (range_of x).end)

    pub rank_start : (x y : ItemWords) → item_rank x ≤ item_rank y → lo x ≤ lo y
    rank_start x y l = elim (dec_lt (lo y) (lo x)) [
      | yes m ↦ absurd (omega (arith, rank_above y x m))
      | no m ↦ omega arith
    ]

  pub same_rank : (x y : ItemWords) → same_item pool x y ≡ true → (lo x ≡ lo y) × (hi x ≡ hi y)
  unfolding rk
  same_rank x y e =
      let r = same_range pool x y e in
      (ap (rank n) r.0, ap (rank n) r.1)

  pub same_item_rank : (x y : ItemWords) → same_item pool x y ≡ true → item_rank x ≡ item_rank y
  unfolding item_rank
  same_item_rank x y e = let r = same_rank x y e in rw (r.0, r.1)
