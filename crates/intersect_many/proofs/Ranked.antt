-- Ranges of a pool by their ranks: what two share, a cut and its parts, as the one-pass sweeps ask for them; and accepted lists ascend.
-- Assumes nothing.
use Rattle.std.specs.Ordering.{is_lt, is_le}
use Prim.Native.Nat.{ℕ, ◌+◌, ◌≤◌, ◌<◌}
use mathlib.Core.Path.{◌≡◌, refl, sym, ap, ◌∙◌}
use mathlib.Core.Bool.{Bool, true, false, cond, not}
use mathlib.Core.List.{List, [], ◌∷◌, append-nil, map}
use native.Mathlib.Decide.{dec_lt}
use native.Mathlib.Omega.{arith}
use borrow.Author.Tests.{leb-true, leb-false, ltb-true, ltb-false}
use Rattle.key_order.proofs.Line.{size}
use Rattle.query_item.specs.declared.ItemWords.{ItemWords}
use Rattle.query_item.specs.declared.RangeSetItem.{RangeSetItem}
use Rattle.query_item.specs.declared.RangeSet.{RangeSet}
use Rattle.query_item.specs.Items.{query_item}
use Rattle.query_item.specs.Boundaries.{compare_in, invert_of, from_to, range_of}
use Rattle.query_item.proofs.Laws.{rank_in, less_rank, at_most_rank, upright_whole, whole_upright, invert_start, invert_end, rank_top}
use Rattle.item_check.proofs.Laws.{AllSound, Following, InOrder, sound_parts}
use Rattle.intervals.proofs.Laws.{AboveOf, BelowOf, Spanned, Meeting, Cutting}
use Rattle.intersect.specs.Pair.{before, overlap, meet_sets, left_part, left_over, right_over}
use Rattle.intersect.proofs.Ranked as pair
use Rattle.intersect_many.specs.Lists.{cut_sets}
use Rattle.intersect_many.specs.Sweep.{right_set}

-- n is the pool's size, or more
module _ (pool : List ℕ) (n : ℕ) (fits : size pool ≤ n) where
  abbrev rk : RangeSetItem → ℕ
  rk x = rank_in pool n fits x

  abbrev pub Good : RangeSet → Type 0
  Good a = pair.Good pool n fits a

  abbrev pub low : RangeSet → ℕ
  low a = pair.low pool n fits a

  abbrev pub high : RangeSet → ℕ
  high a = pair.high pool n fits a

  -- a does not end after b
  abbrev pub ends_first : RangeSet → RangeSet → Bool
  ends_first a b = is_le (compare_in pool a.end b.end)

  spanned : Spanned ends_first Good low high
  spanned = record {
    proper = λ a g. omega (arith, g.straight);
    sooner = λ a b g k e. omega (arith, leb-true (rk a.end) (rk b.end) (sym (at_most_rank pool n fits a.end b.end) ∙ e));
    later = λ a b g k e. omega (arith, leb-false (rk a.end) (rk b.end) (sym (at_most_rank pool n fits a.end b.end) ∙ e));
  }

  module _ (a b : RangeSet) (A : Good a) (B : Good b) where
    -- what is past b is the right leftover, where b ends first
    right_set_lem : high b < high a → right_over pool a b ≡ right_set pool a b ∷ []
    unfolding right_set
    right_set_lem l = elim (dec_lt (rk b.end) (rk a.start)) [
      | yes h ↦ pair.right_whole pool n fits a b A B (omega arith) ∙ rw (pair.less_yes pool n fits b.end a.start h)
      | no h ↦ pair.right_some pool n fits a b A B (omega arith) l ∙ rw (pair.less_no pool n fits b.end a.start (omega arith))
    ]

    right_set_good : high b < high a → Good (right_set pool a b)
    unfolding right_set
    right_set_good l = elim (dec_lt (rk b.end) (rk a.start)) [
      | yes h ↦ rw (pair.less_yes pool n fits b.end a.start h) A
      | no h ↦
          let i = invert_end pool n fits b.end B.ends (omega (arith, rank_top pool n fits a.end)) in
          rw (pair.less_no pool n fits b.end a.start (omega arith)) (pair.whole_of pool n fits (invert_of b.end true) a.end i.0 A.ends (omega (arith, i.1)))
    ]

    left_below : BelowOf Good high (low b) (left_over pool a b)
    left_below = elim (dec_lt (rk a.start) (rk b.start)) [
      | no h ↦ rw (pair.left_none pool n fits a b A B (omega arith)) tt
      | yes h ↦ elim (dec_lt (rk a.end) (rk b.start)) [
        | yes k ↦ rw (pair.left_whole pool n fits a b A B (omega arith)) (omega arith, A, tt)
        | no k ↦
            let i = invert_start pool n fits b.start B.starts (omega arith) in
            let whole = pair.whole_of pool n fits a.start (invert_of b.start false) A.starts i.0 (omega (arith, i.1)) in
            rw (pair.left_some pool n fits a b A B h (omega arith)) (omega (arith, i.1), whole, tt)
      ]
    ]

  -- what is left past b starts no lower
  pub right_set_low : (a b : RangeSet) → Good a → Good b → high b < high a → low a ≤ low (right_set pool a b)
  unfolding right_set
  right_set_low a b A B l = elim (dec_lt (rk b.end) (rk a.start)) [
    | yes h ↦ rw (pair.less_yes pool n fits b.end a.start h) (omega arith)
    | no h ↦
        let i = invert_end pool n fits b.end B.ends (omega (arith, rank_top pool n fits a.end)) in
        rw (pair.less_no pool n fits b.end a.start (omega arith)) (omega (arith, i.1))
  ]

  right_set_high : (a b : RangeSet) → high (right_set pool a b) ≡ high a
  unfolding right_set
  right_set_high a b = go (before pool b a)
    where
      go : (t : Bool) → high (cond t a (from_to (invert_of b.end true) a.end)) ≡ high a
      go true = refl
      go false = refl

  pub right_set_end : (a b : RangeSet) → (right_set pool a b).end ≡ a.end
  unfolding right_set
  right_set_end a b = go (before pool b a)
    where
      go : (t : Bool) → (cond t a (from_to (invert_of b.end true) a.end)).end ≡ a.end
      go true = refl
      go false = refl

  -- ---- a turn: x and y are left of a and b, have their ends, and start no lower

  before_says : (a b : RangeSet) → before pool a b ≡ true → rk a.end < rk b.start
  before_says a b e = ltb-true (rk a.end) (rk b.start) (sym (less_rank pool n fits a.end b.start) ∙ e)

  pub meet_met : (a b : RangeSet) → before pool a b ≡ false → before pool b a ≡ false → meet_sets pool a b ≡ overlap pool a b ∷ []
  unfolding meet_sets
  meet_met a b f g = rw (f, g)

  -- what x has below b, where a is not before b: nothing, unless a starts below b
  left_of_lem : (b x : RangeSet) → Good b → before pool x b ≡ false → left_over pool x b ≡ left_part pool x b
  left_of_lem b x B f = sym (pair.left_quick pool x b (whole_upright pool n fits b B)) ∙ rw f

  left_gone : (b x : RangeSet) → rk b.start ≤ rk x.start → left_part pool x b ≡ []
  left_gone b x l = rw (pair.less_no pool n fits x.start b.start l)

  pub left_known : (a b x : RangeSet) → Good a → Good b → Good x → x.end ≡ a.end → rk a.start ≤ rk x.start → before pool a b ≡ false
      → left_over pool x b ≡ cond (is_lt (compare_in pool a.start b.start)) (left_part pool x b) []
  left_known a b x A B X e l f = left_of_lem b x B (rw e f) ∙ go (is_lt (compare_in pool a.start b.start)) refl
    where
      go : (t : Bool) → is_lt (compare_in pool a.start b.start) ≡ t → left_part pool x b ≡ cond t (left_part pool x b) []
      go true p = refl
      go false p = left_gone b x (omega (arith, l, ltb-false (rk a.start) (rk b.start) (sym (less_rank pool n fits a.start b.start) ∙ p)))

  pub left_known_past : (a b y : RangeSet) → Good a → Good b → Good y → y.end ≡ b.end → rk b.start ≤ rk y.start → before pool b a ≡ false
      → left_over pool y a ≡ cond (not (is_le (compare_in pool a.start b.start))) (left_part pool y a) []
  left_known_past a b y A B Y e l f = left_of_lem a y A (rw e f) ∙ go (is_le (compare_in pool a.start b.start)) refl
    where
      go : (t : Bool) → is_le (compare_in pool a.start b.start) ≡ t → left_part pool y a ≡ cond (not t) (left_part pool y a) []
      go true p = left_gone a y (omega (arith, l, leb-true (rk a.start) (rk b.start) (sym (at_most_rank pool n fits a.start b.start) ∙ p)))
      go false p = refl

  -- a stands before b: the two share nothing, x is whole, y has nothing below a and stays
  pub record Ahead (a b x y : RangeSet) : Type 0 where
    pub shared : meet_sets pool a b ≡ []
    pub shared_past : meet_sets pool b a ≡ []
    pub whole : left_over pool x b ≡ x ∷ []
    pub none : left_over pool y a ≡ []
    pub kept : right_set pool y a ≡ y
    pub sooner : rk a.end < rk b.end

  pub ahead : (a b x y : RangeSet) → Good a → Good b → Good x → Good y → x.end ≡ a.end → rk b.start ≤ rk y.start → before pool a b ≡ true
      → Ahead a b x y
  unfolding right_set
  ahead a b x y A B X Y e l f =
      let below = before_says a b f in
      let ends : rk x.end ≡ rk a.end = ap rk e in
      record {
        shared = pair.meet_none_below pool n fits a b A B (omega arith);
        shared_past = pair.meet_none_past pool n fits b a B A (omega arith);
        whole = pair.left_whole pool n fits x b X B (omega arith);
        none = pair.left_none pool n fits y a Y A (omega (arith, A.straight));
        kept = rw (pair.less_yes pool n fits a.end y.start (omega arith));
        sooner = omega (arith, B.straight);
      }

  pub meeting : Meeting (meet_sets pool) ends_first Good low high
  meeting = record { spanned = spanned; none_below = pair.meet_none_below pool n fits; none_past = pair.meet_none_past pool n fits }

  pub cutting : Cutting (cut_sets pool) (left_over pool) (right_set pool) ends_first Good low high
  cutting = record {
    spanned = spanned;
    cut_first = λ a b g k h. rw (pair.right_none pool n fits a b g k h, append-nil);
    cut_second = λ a b g k h. rw (right_set_lem a b g k h);
    whole_below = λ a b g k h. rw (pair.left_whole pool n fits a b g k h, pair.right_none pool n fits a b g k (omega (arith, k.straight)));
    whole_past = λ a b g k h. rw (pair.left_none pool n fits a b g k (omega (arith, k.straight)), pair.right_whole pool n fits a b g k h);
    left_below = left_below;
    right_good = right_set_good;
    right_high = λ a b g k h. right_set_high a b;
  }

  -- ---- accepted lists ascend

  following_above : (e : RangeSetItem) (its : List ItemWords) → AllSound pool its → Following pool e its → AboveOf Good low high (rk e + 1) (map range_of its)
  following_above e [] s f = tt
  following_above e (it ∷ its) s f = (
    omega (arith, ltb-true (rk e) (rk (range_of it).start) (sym (less_rank pool n fits e (range_of it).start) ∙ f.0)),
    upright_whole pool n fits (query_item it) (sound_parts pool it s.0).2,
    following_above (range_of it).end its s.1 f.1,
  )

  pub order_above : (its : List ItemWords) → AllSound pool its → InOrder pool its → AboveOf Good low high 0 (map range_of its)
  order_above [] s o = tt
  order_above (it ∷ its) s o = (
    omega arith,
    upright_whole pool n fits (query_item it) (sound_parts pool it s.0).2,
    following_above (range_of it).end its s.1 o,
  )
