-- The one pass over both lists, a turn at a time: what is left to write of each of the three lists at the two indexes. Assumes nothing.
use Rattle.std.specs.declared.cmp.Ordering.{Ordering}
use Prim.Native.Nat.{ℕ, ◌+◌, ◌/◌, ◌≤◌, ◌<◌}
use mathlib.Core.Path.{◌≡◌, refl, sym, ap, ◌∙◌}
use mathlib.Core.Bool.{Bool, true, false}
use mathlib.Core.List.{List, [], ◌∷◌}
use mathlib.Core.Logic.{◌⊎◌, inl, inr}
use native.Mathlib.Nat.{le_refl}
use native.Mathlib.Omega.{arith}
use lib.ListN.{length}
use borrow.Author.Tests.{le-leb, lt-leb}
use Rattle.key_order.proofs.Numbers.{Says}
use Rattle.key_order.proofs.Line.{size}
use Rattle.query_item.specs.declared.RangeSetItem.{RangeSetItem}
use Rattle.query_item.specs.declared.RangeSet.{RangeSet}
use Rattle.query_item.specs.Items.{item_size}
use Rattle.query_item.specs.Boundaries.{compare_in, set_at}
use Rattle.keyless.specs.Keyless.{piece_item}
use Rattle.query_item.proofs.Laws.{rank_in, at_most_rank, rank_says_in}
use Rattle.item_check.specs.Checks.{most_items, items_of}
use Rattle.item_check.proofs.Laws.{AcceptedList}
use Rattle.intervals.proofs.Laws.{AboveOf, Meeting, Cutting}
use Rattle.intervals.proofs.Laws.{sweep_of, sweep_first, sweep_second, sweep_nil, sweep_is_shared, sweep_skip}
use Rattle.intervals.proofs.Laws.{strip_of, strip_first, strip_second, strip_nil, strip_is_without, strip_skip, above_le}
use Rattle.intersect_many.specs.declared.ManyCounts.{ManyCounts}
use Rattle.item_lists.specs.Written.{as_items, Put}
use Rattle.item_lists.proofs.Written.{Left, left_start, left_put, left_as}
use Rattle.intersect.specs.Pair.{before, meet_sets, left_over}
use Rattle.intersect_many.specs.Lists.{sets_of, keyed_items, shared_items, cut_sets, only_items}
use Rattle.intersect_many.specs.Sweep.{right_set, sets_left, rest_left, Turn, Emits}
use Rattle.intersect_many.proofs.Pieces.{keyed_append, keyed_none, keyed_one, put_none_keyed, meet_few, left_few}
use Rattle.intersect_many.proofs.Ranked as ranked
use Rattle.intersect_many.proofs.Rests.{sets_all, sets_end, sets_more, rest_end, rest_more, rest_whole}

-- ranks are taken at the pool's size
module _ (pool : List ℕ) where
  abbrev pub rk : RangeSetItem → ℕ
  rk x = rank_in pool (size pool) (le_refl (size pool)) x

  abbrev pub Good : RangeSet → Type 0
  Good a = ranked.Good pool (size pool) (le_refl (size pool)) a

  abbrev low : RangeSet → ℕ
  low a = rk a.start

  abbrev high : RangeSet → ℕ
  high a = rk a.end + 1

  abbrev ends_first : RangeSet → RangeSet → Bool
  ends_first a b = ranked.ends_first pool (size pool) (le_refl (size pool)) a b

  abbrev pub Ascends : ℕ → List RangeSet → Type 0
  Ascends lo A = AboveOf Good low high lo A

  meeting : Meeting (meet_sets pool) ends_first Good low high
  meeting = ranked.meeting pool (size pool) (le_refl (size pool))

  cutting : Cutting (cut_sets pool) (left_over pool) (right_set pool) ends_first Good low high
  cutting = ranked.cutting pool (size pool) (le_refl (size pool))

  abbrev sweep : List RangeSet → List RangeSet → List RangeSet
  sweep A B = sweep_of (meet_sets pool) ends_first A B

  abbrev strip : List RangeSet → List RangeSet → List RangeSet
  strip A B = strip_of (left_over pool) (right_set pool) ends_first A B

  ends_yes : (a b : RangeSet) → rk a.end ≤ rk b.end → ends_first a b ≡ true
  ends_yes a b l = at_most_rank pool (size pool) (le_refl (size pool)) a.end b.end ∙ le-leb (rk a.end) (rk b.end) l

  ends_no : (a b : RangeSet) → rk b.end < rk a.end → ends_first a b ≡ false
  ends_no a b l = at_most_rank pool (size pool) (le_refl (size pool)) a.end b.end ∙ lt-leb (rk a.end) (rk b.end) l

  pub ranks_say : (x y : RangeSetItem) {o : Ordering} → compare_in pool x y ≡ o → Says o (rk x) (rk y)
  ranks_say x y e = rw e at (rank_says_in pool (size pool) (le_refl (size pool)) x y)

  -- the list from the next index on
  pub next_ascends : (ws : List ℕ) (i : ℕ) → i < length ws / item_size → Ascends 0 (sets_left ws i) → Ascends (high (set_at ws i)) (sets_left ws (i + 1))
  next_ascends ws i h a = (rw (sets_more ws i h) at a).2

  pub next_ascends_0 : (ws : List ℕ) (i : ℕ) → i < length ws / item_size → Ascends 0 (sets_left ws i) → Ascends 0 (sets_left ws (i + 1))
  next_ascends_0 ws i h a = above_le Good low high 0 (high (set_at ws i)) (sets_left ws (i + 1)) (omega arith) (next_ascends ws i h a)

  -- ---- one side's own list: of the item at its index i, x is left; j is the other side's index

  pub record Only (own other out₀ out : List ℕ) (n i j : ℕ) (x : RangeSet) : Type 0 where
    pub left : Left (only_items pool own other) out₀ 0 out n (keyed_items pool (strip (rest_left own i x) (sets_left other j)))
    pub ascends : Ascends 0 (rest_left own i x)
    pub same_end : x.end ≡ (set_at own i).end
    pub above : rk (set_at own i).start ≤ rk x.start

  pub only_start : (own other out : List ℕ) → Ascends 0 (sets_left own 0) → Ascends 0 (sets_left other 0) → Only own other out out 0 0 0 (set_at own 0)
  unfolding only_items
  only_start own other out a b = record {
    left = left_as (left_start (only_items pool own other) out 0) _
        (ap (keyed_items pool) (rw (rest_whole own 0, sets_all own, sets_all other) (sym (strip_is_without cutting (sets_of own) (sets_of other) (rw sets_all at a) (rw sets_all at b)))));
    ascends = rw (rest_whole own 0) a;
    same_end = refl;
    above = le_refl (rk (set_at own 0).start);
  }

  module _ {own other out₀ out out' : List ℕ} {n n' i j : ℕ} {x : RangeSet} (v : Only own other out₀ out n i j x)
      (hi : i < length own / item_size) (hj : j < length other / item_size)
      (a : Ascends 0 (sets_left own i)) (b : Ascends 0 (sets_left other j))
      (p : Put out n (keyed_items pool (left_over pool x (set_at other j))) out' n') where
    first_left : strip (rest_left own i x) (sets_left other j) ≡ strip (x ∷ sets_left own (i + 1)) (set_at other j ∷ sets_left other (j + 1))
    first_left = rw (rest_more own i x hi, sets_more other j hj)

    -- the side's own item ends first, or with the other
    pub only_next : rk (set_at own i).end ≤ rk (set_at other j).end → Only own other out₀ out' n' (i + 1) j (set_at own (i + 1))
    only_next l = record {
      left = left_put v.left (keyed_items pool (left_over pool x (set_at other j))) _
          (ap (keyed_items pool)
          (first_left ∙ strip_first (left_over pool) (right_set pool) ends_first x (sets_left own (i + 1)) (set_at other j) (sets_left other (j + 1)) (ends_yes x (set_at other j) (rw v.same_end l)))
          ∙ keyed_append pool (left_over pool x (set_at other j)) _
          ∙ rw (rest_whole own (i + 1), ← sets_more other j hj))
          p;
      ascends = rw (rest_whole own (i + 1)) (next_ascends_0 own i hi a);
      same_end = refl;
      above = le_refl (rk (set_at own (i + 1)).start);
    }

    -- the other's item ends first
    pub only_cut : rk (set_at other j).end < rk (set_at own i).end → Only own other out₀ out' n' i (j + 1) (right_set pool x (set_at other j))
    only_cut l =
        let l' : rk (set_at other j).end < rk x.end = rw v.same_end l in
        let rest = rw (rest_more own i x hi) at v.ascends in
        let item = rw (sets_more other j hj) at b in
        record {
          left = left_put v.left (keyed_items pool (left_over pool x (set_at other j))) _
              (ap (keyed_items pool)
              (first_left ∙ strip_second (left_over pool) (right_set pool) ends_first x (sets_left own (i + 1)) (set_at other j) (sets_left other (j + 1)) (ends_no x (set_at other j) l'))
              ∙ keyed_append pool (left_over pool x (set_at other j)) _
              ∙ rw (← rest_more own i (right_set pool x (set_at other j)) hi))
              p;
          ascends = rw (rest_more own i (right_set pool x (set_at other j)) hi) (
            omega arith,
            cutting.right_good x (set_at other j) rest.1 item.1 (omega arith),
            rw (cutting.right_high x (set_at other j) rest.1 item.1 (omega arith)) rest.2,
          );
          same_end = ranked.right_set_end pool (size pool) (le_refl (size pool)) x (set_at other j) ∙ v.same_end;
          above = omega (arith, v.above, ranked.right_set_low pool (size pool) (le_refl (size pool)) x (set_at other j) rest.1 item.1 (omega arith));
        }

    -- both end together
    pub only_both : rk (set_at own i).end ≡ rk (set_at other j).end → Only own other out₀ out' n' (i + 1) (j + 1) (set_at own (i + 1))
    only_both e =
        let next = only_next (omega arith) in
        record {
          left = left_as next.left _ (ap (keyed_items pool) (rw (rest_whole own (i + 1), sets_more other j hj)
              (strip_skip cutting (sets_left own (i + 1)) (set_at other j) (sets_left other (j + 1))
              (above_le Good low high (high (set_at other j)) (high (set_at own i)) (sets_left own (i + 1)) (omega arith) (next_ascends own i hi a))
              (rw (sets_more other j hj) at b))));
          ascends = next.ascends;
          same_end = refl;
          above = next.above;
        }

  -- the other list has ended, or this one
  pub only_end : {own other out₀ out : List ℕ} {n i j : ℕ} {x : RangeSet} → Only own other out₀ out n i j x
      → (length own / item_size ≤ i) ⊎ (length other / item_size ≤ j)
      → Left (only_items pool own other) out₀ 0 out n (keyed_items pool (rest_left own i x))
  unfolding strip_of
  only_end {own} {other} {i = i} {j = j} {x = x} v (inl h) = left_as v.left _ (rw (rest_end own i x h))
  only_end {own} {other} {i = i} {j = j} {x = x} v (inr h) = left_as v.left _ (rw (sets_end other j h, strip_nil (left_over pool) (right_set pool) ends_first (rest_left own i x)))

  -- ---- the shared list

  abbrev pub Shared : (ours theirs out₀ out : List ℕ) (n i j : ℕ) → Type 0
  Shared ours theirs out₀ out n i j = Left (shared_items pool ours theirs) out₀ 0 out n (keyed_items pool (sweep (sets_left ours i) (sets_left theirs j)))

  pub shared_start : (ours theirs out : List ℕ) → Ascends 0 (sets_left ours 0) → Ascends 0 (sets_left theirs 0) → Shared ours theirs out out 0 0 0
  unfolding shared_items
  shared_start ours theirs out a b =
      left_as (left_start (shared_items pool ours theirs) out 0) _
      (ap (keyed_items pool) (rw (sets_all ours, sets_all theirs) (sym (sweep_is_shared meeting (sets_of ours) (sets_of theirs) (rw sets_all at a) (rw sets_all at b)))))

  module _ (ours theirs out₀ : List ℕ) {out out' : List ℕ} {n n' : ℕ} (i j : ℕ) (v : Shared ours theirs out₀ out n i j)
      (hi : i < length ours / item_size) (hj : j < length theirs / item_size)
      (a : Ascends 0 (sets_left ours i)) (b : Ascends 0 (sets_left theirs j))
      (p : Put out n (keyed_items pool (meet_sets pool (set_at ours i) (set_at theirs j))) out' n') where
    heads : sweep (sets_left ours i) (sets_left theirs j) ≡ sweep (set_at ours i ∷ sets_left ours (i + 1)) (set_at theirs j ∷ sets_left theirs (j + 1))
    heads = rw (sets_more ours i hi, sets_more theirs j hj)

    pub shared_next : rk (set_at ours i).end ≤ rk (set_at theirs j).end → Shared ours theirs out₀ out' n' (i + 1) j
    shared_next l =
        left_put v (keyed_items pool (meet_sets pool (set_at ours i) (set_at theirs j))) _
        (ap (keyed_items pool)
        (heads ∙ sweep_first (meet_sets pool) ends_first (set_at ours i) (sets_left ours (i + 1)) (set_at theirs j) (sets_left theirs (j + 1)) (ends_yes (set_at ours i) (set_at theirs j) l))
        ∙ keyed_append pool (meet_sets pool (set_at ours i) (set_at theirs j)) _
        ∙ rw (← sets_more theirs j hj))
        p

    pub shared_cut : rk (set_at theirs j).end < rk (set_at ours i).end → Shared ours theirs out₀ out' n' i (j + 1)
    shared_cut l =
        left_put v (keyed_items pool (meet_sets pool (set_at ours i) (set_at theirs j))) _
        (ap (keyed_items pool)
        (heads ∙ sweep_second (meet_sets pool) ends_first (set_at ours i) (sets_left ours (i + 1)) (set_at theirs j) (sets_left theirs (j + 1)) (ends_no (set_at ours i) (set_at theirs j) l))
        ∙ keyed_append pool (meet_sets pool (set_at ours i) (set_at theirs j)) _
        ∙ rw (← sets_more ours i hi))
        p

    pub shared_both : rk (set_at ours i).end ≡ rk (set_at theirs j).end → Shared ours theirs out₀ out' n' (i + 1) (j + 1)
    shared_both e =
        left_as (shared_next (omega arith)) _ (ap (keyed_items pool) (rw (sets_more theirs j hj)
        (sweep_skip meeting (sets_left ours (i + 1)) (set_at theirs j) (sets_left theirs (j + 1))
        (above_le Good low high (high (set_at theirs j)) (high (set_at ours i)) (sets_left ours (i + 1)) (omega arith) (next_ascends ours i hi a))
        (rw (sets_more theirs j hj) at b))))

  pub shared_end : (ours theirs : List ℕ) {out₀ out : List ℕ} {n : ℕ} (i j : ℕ) → Shared ours theirs out₀ out n i j
      → (length ours / item_size ≤ i) ⊎ (length theirs / item_size ≤ j)
      → Left (shared_items pool ours theirs) out₀ 0 out n []
  unfolding sweep_of
  shared_end ours theirs i j v (inl h) = left_as v [] (rw (sets_end ours i h) (keyed_none pool))
  shared_end ours theirs i j v (inr h) = left_as v [] (rw (sets_end theirs j h, sweep_nil (meet_sets pool) ends_first (sets_left ours i)) (keyed_none pool))

  -- ---- all three

  pub record Swept (ours theirs shared_out₀ ours_out₀ theirs_out₀ shared_out ours_out theirs_out : List ℕ) (n : ManyCounts) (i j : ℕ) (x y : RangeSet) : Type 0 where
    pub our_size : length ours / item_size ≤ most_items
    pub their_size : length theirs / item_size ≤ most_items
    pub our_in : i ≤ length ours / item_size
    pub their_in : j ≤ length theirs / item_size
    pub shared_few : n.shared ≤ i + j
    pub ours_few : n.ours ≤ i + j
    pub theirs_few : n.theirs ≤ i + j
    pub shared : Shared ours theirs shared_out₀ shared_out n.shared i j
    pub ours_only : Only ours theirs ours_out₀ ours_out n.ours i j x
    pub theirs_only : Only theirs ours theirs_out₀ theirs_out n.theirs j i y
    pub our_ascends : Ascends 0 (sets_left ours i)
    pub their_ascends : Ascends 0 (sets_left theirs j)

  accepted_ascends : (ws : List ℕ) → AcceptedList pool ws → Ascends 0 (sets_left ws 0)
  accepted_ascends ws a = rw (sets_all ws) (ranked.order_above pool (size pool) (le_refl (size pool)) (items_of ws) a.sound a.in_order)

  pub swept_start : (ours theirs shared_out ours_out theirs_out : List ℕ) (n : ManyCounts) {x y : RangeSet} → AcceptedList pool ours → AcceptedList pool theirs
      → n.shared ≡ 0 → n.ours ≡ 0 → n.theirs ≡ 0 → x ≡ set_at ours 0 → y ≡ set_at theirs 0
      → Swept ours theirs shared_out ours_out theirs_out shared_out ours_out theirs_out n 0 0 x y
  swept_start ours theirs shared_out ours_out theirs_out n a b p q r f g = record {
    our_size = a.few;
    their_size = b.few;
    our_in = omega arith;
    their_in = omega arith;
    shared_few = omega arith;
    ours_few = omega arith;
    theirs_few = omega arith;
    shared = rw p (shared_start ours theirs shared_out (accepted_ascends ours a) (accepted_ascends theirs b));
    ours_only = rw (q, f) (only_start ours theirs ours_out (accepted_ascends ours a) (accepted_ascends theirs b));
    theirs_only = rw (r, g) (only_start theirs ours theirs_out (accepted_ascends theirs b) (accepted_ascends ours a));
    our_ascends = accepted_ascends ours a;
    their_ascends = accepted_ascends theirs b;
  }

  module _ {ours theirs shared_out₀ ours_out₀ theirs_out₀ shared_out ours_out theirs_out : List ℕ} {n : ManyCounts} {i j : ℕ} {x y : RangeSet}
      (v : Swept ours theirs shared_out₀ ours_out₀ theirs_out₀ shared_out ours_out theirs_out n i j x y)
      (hi : i < length ours / item_size) (hj : j < length theirs / item_size)
      {a b : RangeSet} (at_a : a ≡ set_at ours i) (at_b : b ≡ set_at theirs j) where
    good_a : Good a
    good_a = rw at_a (rw (sets_more ours i hi) at v.our_ascends).1

    good_b : Good b
    good_b = rw at_b (rw (sets_more theirs j hj) at v.their_ascends).1

    good_x : Good x
    good_x = (rw (rest_more ours i x hi) at v.ours_only.ascends).1

    good_y : Good y
    good_y = (rw (rest_more theirs j y hj) at v.theirs_only.ascends).1

    above_x : rk a.start ≤ rk x.start
    above_x = rw at_a v.ours_only.above

    above_y : rk b.start ≤ rk y.start
    above_y = rw at_b v.theirs_only.above

    end_x : x.end ≡ a.end
    end_x = v.ours_only.same_end ∙ rw at_a

    end_y : y.end ≡ b.end
    end_y = v.theirs_only.same_end ∙ rw at_b

    -- the two meet
    pub swept_turn : {ends : Ordering} → ends ≡ compare_in pool a.end b.end → before pool a b ≡ false → before pool b a ≡ false → Turn pool ends a b x y n
    swept_turn e f g = record {
      ends_are = e;
      shared = ranked.meet_met pool (size pool) (le_refl (size pool)) a b f g;
      our_left = ranked.left_known pool (size pool) (le_refl (size pool)) a b x good_a good_b good_x end_x above_x f;
      their_left = ranked.left_known_past pool (size pool) (le_refl (size pool)) a b y good_a good_b good_y end_y above_y g;
      shared_few = omega (arith, v);
      ours_few = omega (arith, v);
      theirs_few = omega (arith, v);
    }

    module _ {shared_out' ours_out' theirs_out' : List ℕ} {n' : ManyCounts}
        (e : Emits pool a b x y n shared_out ours_out theirs_out n' shared_out' ours_out' theirs_out') where
      p' : Put shared_out n.shared (keyed_items pool (meet_sets pool (set_at ours i) (set_at theirs j))) shared_out' n'.shared
      p' = rw (← at_a, ← at_b) e.shared

      q' : Put ours_out n.ours (keyed_items pool (left_over pool x (set_at theirs j))) ours_out' n'.ours
      q' = rw (← at_b) e.our_left

      r' : Put theirs_out n.theirs (keyed_items pool (left_over pool y (set_at ours i))) theirs_out' n'.theirs
      r' = rw (← at_a) e.their_left

      -- ours ends first
      pub swept_less : {x' y' : RangeSet} → rk a.end < rk b.end → x' ≡ set_at ours (i + 1) → y' ≡ right_set pool y a
          → Swept ours theirs shared_out₀ ours_out₀ theirs_out₀ shared_out' ours_out' theirs_out' n' (i + 1) j x' y'
      swept_less l f g =
          let l' : rk (set_at ours i).end < rk (set_at theirs j).end = rw (← at_a, ← at_b) l in
          record {
            our_size = v.our_size;
            their_size = v.their_size;
            our_in = omega arith;
            their_in = v.their_in;
            shared_few = omega (arith, v.shared_few, e.shared.count, meet_few pool a b);
            ours_few = omega (arith, v.ours_few, e.our_left.count, left_few pool x b);
            theirs_few = omega (arith, v.theirs_few, e.their_left.count, left_few pool y a);
            shared = shared_next ours theirs shared_out₀ i j v.shared hi hj v.our_ascends v.their_ascends p' (omega arith);
            ours_only = rw f (only_next v.ours_only hi hj v.our_ascends v.their_ascends q' (omega arith));
            theirs_only = rw (g, at_a) (only_cut v.theirs_only hj hi v.their_ascends v.our_ascends r' l');
            our_ascends = next_ascends_0 ours i hi v.our_ascends;
            their_ascends = v.their_ascends;
          }

      -- theirs ends first
      pub swept_greater : {x' y' : RangeSet} → rk b.end < rk a.end → x' ≡ right_set pool x b → y' ≡ set_at theirs (j + 1)
          → Swept ours theirs shared_out₀ ours_out₀ theirs_out₀ shared_out' ours_out' theirs_out' n' i (j + 1) x' y'
      swept_greater l f g =
          let l' : rk (set_at theirs j).end < rk (set_at ours i).end = rw (← at_a, ← at_b) l in
          record {
            our_size = v.our_size;
            their_size = v.their_size;
            our_in = v.our_in;
            their_in = omega arith;
            shared_few = omega (arith, v.shared_few, e.shared.count, meet_few pool a b);
            ours_few = omega (arith, v.ours_few, e.our_left.count, left_few pool x b);
            theirs_few = omega (arith, v.theirs_few, e.their_left.count, left_few pool y a);
            shared = shared_cut ours theirs shared_out₀ i j v.shared hi hj v.our_ascends v.their_ascends p' l';
            ours_only = rw (f, at_b) (only_cut v.ours_only hi hj v.our_ascends v.their_ascends q' l');
            theirs_only = rw g (only_next v.theirs_only hj hi v.their_ascends v.our_ascends r' (omega arith));
            our_ascends = v.our_ascends;
            their_ascends = next_ascends_0 theirs j hj v.their_ascends;
          }

      -- both end together
      pub swept_equal : {x' y' : RangeSet} → rk a.end ≡ rk b.end → x' ≡ set_at ours (i + 1) → y' ≡ set_at theirs (j + 1)
          → Swept ours theirs shared_out₀ ours_out₀ theirs_out₀ shared_out' ours_out' theirs_out' n' (i + 1) (j + 1) x' y'
      swept_equal t f g =
          let t' : rk (set_at ours i).end ≡ rk (set_at theirs j).end = rw (← at_a, ← at_b) t in
          record {
            our_size = v.our_size;
            their_size = v.their_size;
            our_in = omega arith;
            their_in = omega arith;
            shared_few = omega (arith, v.shared_few, e.shared.count, meet_few pool a b);
            ours_few = omega (arith, v.ours_few, e.our_left.count, left_few pool x b);
            theirs_few = omega (arith, v.theirs_few, e.their_left.count, left_few pool y a);
            shared = shared_both ours theirs shared_out₀ i j v.shared hi hj v.our_ascends v.their_ascends p' t';
            ours_only = rw f (only_both v.ours_only hi hj v.our_ascends v.their_ascends q' t');
            theirs_only = rw g (only_both v.theirs_only hj hi v.their_ascends v.our_ascends r' (sym t'));
            our_ascends = next_ascends_0 ours i hi v.our_ascends;
            their_ascends = next_ascends_0 theirs j hj v.their_ascends;
          }

    -- ours stands before theirs: what is left of it is ours alone
    pub swept_before : {ours_out' : List ℕ} {n' : ManyCounts} {x' : RangeSet} → before pool a b ≡ true → n'.shared ≡ n.shared → n'.theirs ≡ n.theirs
        → Put ours_out n.ours (as_items (piece_item pool x)) ours_out' n'.ours → x' ≡ set_at ours (i + 1)
        → Swept ours theirs shared_out₀ ours_out₀ theirs_out₀ shared_out ours_out' theirs_out n' (i + 1) j x' y
    swept_before {ours_out'} {n'} f p q r g =
        let k = ranked.ahead pool (size pool) (le_refl (size pool)) a b x y good_a good_b good_x good_y end_x above_y f in
        let emits : Emits pool a b x y n shared_out ours_out theirs_out n' shared_out ours_out' theirs_out = record {
          shared = rw (p, k.shared) (put_none_keyed pool shared_out n.shared);
          our_left = rw k.whole (rw (← keyed_one pool x) at r);
          their_left = rw (q, k.none) (put_none_keyed pool theirs_out n.theirs);
        } in
        swept_less emits k.sooner g (sym k.kept)

    -- and theirs before ours
    pub swept_after : {theirs_out' : List ℕ} {n' : ManyCounts} {y' : RangeSet} → before pool b a ≡ true → n'.shared ≡ n.shared → n'.ours ≡ n.ours
        → Put theirs_out n.theirs (as_items (piece_item pool y)) theirs_out' n'.theirs → y' ≡ set_at theirs (j + 1)
        → Swept ours theirs shared_out₀ ours_out₀ theirs_out₀ shared_out ours_out theirs_out' n' i (j + 1) x y'
    swept_after {theirs_out'} {n'} f p q r g =
        let k = ranked.ahead pool (size pool) (le_refl (size pool)) b a y x good_b good_a good_y good_x end_y above_x f in
        let emits : Emits pool a b x y n shared_out ours_out theirs_out n' shared_out ours_out theirs_out' = record {
          shared = rw (p, k.shared_past) (put_none_keyed pool shared_out n.shared);
          our_left = rw (q, k.none) (put_none_keyed pool ours_out n.ours);
          their_left = rw k.whole (rw (← keyed_one pool y) at r);
        } in
        swept_greater emits k.sooner (sym k.kept) g
