-- The check of the order, a turn at a time: in a prefix that is in order the quick test of an item is the test with all earlier ones. Of
-- the earlier ones the last has the largest rank, items before the run have smaller ranks, and the last plain one starts above the ends of
-- the other plain ones. Assumes nothing.
use Rattle.std.specs.declared.cmp.Ordering.{Ordering}
use Rattle.std.specs.declared.cmp.Ordering.TheVariants.{Less, Equal, Greater}
use Rattle.std.specs.Ordering.{is_lt, is_gt}
use Prim.Native.Nat.{ℕ, zero, suc, ◌+◌, ◌-◌, ◌≤◌, ◌<◌}
use mathlib.Core.Path.{◌≡◌, refl, sym, ◌∙◌}
use mathlib.Core.Bool.{Bool, true, false, cond, not, ◌||◌, ◌&&◌, or-true}
use mathlib.Core.List.{List, [], ◌∷◌}
use native.Mathlib.Omega.{arith}
use native.Mathlib.Nat.{le_refl, sub-zero}
use native.Mathlib.Numerals.{add-one}
use native.Mathlib.Decide.{dec_lt}
use lib.Dec.{eqb}
use borrow.Author.Tests.{ltb-true, lt-ltb, le-ltb, not-false, eqb-true}
use Rattle.key_order.proofs.Impossible.{impossible}
use Rattle.key_order.proofs.Bools.{both_false}
use Rattle.key_order.proofs.Numbers.{Says}
use Rattle.key_order.proofs.Line.{size}
use Rattle.query_item.specs.declared.ItemWords.{ItemWords}
use Rattle.query_item.specs.Items.{item_at, items_from}
use Rattle.item_check.specs.Checks.{Verdict, accepted, refused}
use Rattle.item_check.proofs.Scans.{items_end, items_more}
use Rattle.insert_order.specs.Order.{compare_items, plain, same_item, ends_below, clash, clashes}
use Rattle.insert_order.specs.Refusals.{first_clash, order_verdict}
use Rattle.insert_order.specs.Passes.{follows_plain, last_order, run_start, meets_plain, last_plain, repeats, quick_clash}
use Rattle.insert_order.proofs.Ranked.{lo, hi, item_rank, order_says, order_less, ends_less, rank_above, rank_start, same_item_rank}

-- ---- three tests joined by or

some_of_three : (a b c : Bool) {G : Type 0} → a || b || c ≡ true → (a ≡ true → G) → (b ≡ true → G) → (c ≡ true → G) → G
some_of_three true b c e f g h = f refl
some_of_three false true c e f g h = g refl
some_of_three false false c e f g h = h e

pub none_of_three : (a b c : Bool) → a || b || c ≡ false → (a ≡ false) × (b ≡ false) × (c ≡ false)
none_of_three a b c e =
    let last = (both_false (a || b) c).0 e in
    let first = (both_false a b).0 last.0 in
    (first.0, first.1, last.1)

true_false : {G : Type 0} (a : Bool) → a ≡ true → a ≡ false → G
true_false a p q = impossible cc

-- ---- the rules between an earlier item and a later one, in ranks

module _ (pool : List ℕ) where
  abbrev K : ItemWords → ℕ
  K it = item_rank (size pool) pool it

  abbrev S : ItemWords → ℕ
  S it = lo (size pool) pool it

  abbrev E : ItemWords → ℕ
  E it = hi (size pool) pool it

  pub clash_none : (e it : ItemWords) → K e ≤ K it → (plain e ≡ true → plain it ≡ true → E e < S it) → same_item pool e it ≡ false
      → clash pool e it ≡ false
  clash_none e it h k l = rw (order_less (size pool) pool (le_refl (size pool)) it e, le-ltb (K it) (K e) h, l) (go (plain e) (plain it) refl refl)
    where
      go : (s t : Bool) → plain e ≡ s → plain it ≡ t → false || (s && t && not (ends_below pool e it)) || false ≡ false
      go true true p q = rw (ends_less (size pool) pool (le_refl (size pool)) e it, lt-ltb (E e) (S it) (k p q))
      go true false p q = refl
      go false t p q = refl

  pub clash_order : (e it : ItemWords) → K it < K e → clash pool e it ≡ true
  clash_order e it h = rw (order_less (size pool) pool (le_refl (size pool)) it e, lt-ltb (K it) (K e) h)

  pub clash_same : (e it : ItemWords) → same_item pool e it ≡ true → clash pool e it ≡ true
  clash_same e it h = rw h (or-true (is_lt (compare_items pool it e) || (plain e && plain it && not (ends_below pool e it))))

  pub clash_plain : (e it : ItemWords) → plain e ≡ true → plain it && not (ends_below pool e it) ≡ true → clash pool e it ≡ true
  clash_plain e it h k = rw (h, k, or-true (is_lt (compare_items pool it e)))

module _ (pool ws : List ℕ) where
  -- the items before an index, the last first
  unfoldable pub earlier : ℕ → List ItemWords
  earlier zero = []
  earlier (suc i) = item_at ws i ∷ earlier i

  abbrev at : ℕ → ItemWords
  at j = item_at ws j

  module _ (it : ItemWords) where
    pub clash_some : (i j : ℕ) → j < i → clash pool (at j) it ≡ true → clashes pool (earlier i) it ≡ true
    unfolding earlier clashes
    clash_some zero j h e = absurd (omega arith)
    clash_some (suc i) j h e = elim (dec_lt j i) [
      | yes l ↦ rw (clash_some i j l e) (or-true (clash pool (at i) it))
      | no l ↦ let s : j ≡ i = omega arith in rw (← s, e)
    ]

    pub clash_no : (i : ℕ) → ((j : ℕ) → j < i → clash pool (at j) it ≡ false) → clashes pool (earlier i) it ≡ false
    unfolding earlier clashes
    clash_no zero f = refl
    clash_no (suc i) f = rw (f i (omega arith), clash_no i (λ j h. f j (omega arith)))

    repeats_some : (i a k : ℕ) → a + k ≤ i → repeats pool (items_from ws a k) it ≡ true → clashes pool (earlier i) it ≡ true
    unfolding repeats items_from
    repeats_some i a zero h e = true_false false e refl
    repeats_some i a (suc k) h e = go (same_item pool (at a) it) refl e (repeats_some i (suc a) k (omega arith))
      where
        go : (t : Bool) → same_item pool (at a) it ≡ t → t || repeats pool (items_from ws (suc a) k) it ≡ true
            → (repeats pool (items_from ws (suc a) k) it ≡ true → clashes pool (earlier i) it ≡ true) → clashes pool (earlier i) it ≡ true
        go true p q r = clash_some i a (omega arith) (clash_same pool (at a) it p)
        go false p q r = r q

    repeats_none : (a k : ℕ) → repeats pool (items_from ws a k) it ≡ false → (j : ℕ) → a ≤ j → j < a + k → same_item pool (at j) it ≡ false
    unfolding repeats items_from
    repeats_none a zero e j h l = absurd (omega arith)
    repeats_none a (suc k) e j h l =
        let both = (both_false (same_item pool (at a) it) (repeats pool (items_from ws (suc a) k) it)).0 e in
        elim (dec_lt a j) [
          | yes s ↦ repeats_none (suc a) k both.1 j (omega arith) (omega arith)
          | no s ↦ let f : j ≡ a = omega arith in rw f both.0
        ]

  -- what is known of the first i items: run is where the run of the last one's range starts, p is past the last plain one
  pub record Seen (i run p : ℕ) : Type 0 where
    pub sorted : (j : ℕ) → j < i → K pool (at j) ≤ K pool (at (i - 1))
    pub run_in : run ≤ i
    pub before_run : (j : ℕ) → j < run → K pool (at j) < K pool (at (i - 1))
    pub plain_in : p ≤ i
    pub plain_last : 0 < p → plain (at (p - 1)) ≡ true
    pub plain_none : (j : ℕ) → p ≤ j → j < i → plain (at j) ≡ false
    pub plain_apart : (j : ℕ) → j + 1 < p → plain (at j) ≡ true → E pool (at j) < S pool (at (p - 1))

  pub seen_start : Seen 0 0 0
  seen_start =
      record {
        sorted = λ j h. absurd (omega arith);
        run_in = omega arith;
        before_run = λ j h. absurd (omega arith);
        plain_in = omega arith;
        plain_last = λ h. absurd (omega arith);
        plain_none = λ j h l. absurd (omega arith);
        plain_apart = λ j h e. absurd (omega arith);
      }

  last_says : (i : ℕ) (it : ItemWords) {o : Ordering} → o ≡ last_order pool ws i it → 0 < i → Says o (K pool (at (i - 1))) (K pool it)
  unfolding last_order
  last_says zero it e h = absurd (omega arith)
  last_says (suc i) it e h = let s : suc i - 1 ≡ i = omega arith in rw (e, s) (order_says (size pool) pool (le_refl (size pool)) (at i) it)

  no_greater : (i : ℕ) (it : ItemWords) {o : Ordering} → o ≡ last_order pool ws i it → is_gt o ≡ true → 0 < i
  unfolding last_order
  no_greater zero it e h = true_false false (rw e at h) refl
  no_greater (suc i) it e h = omega arith

  module _ (i run p : ℕ) (v : Seen i run p) (it : ItemWords) (o : Ordering) (e : o ≡ last_order pool ws i it) (run' : ℕ) (r : run' ≡ run_start o i run) where
    run_bound : run' ≤ i
    run_bound = rw r (go o)
      where
        go : (x : Ordering) → run_start x i run ≤ i
        go Less = omega arith
        go Equal = v.run_in
        go Greater = v.run_in

    -- the quick test finds an earlier item
    pub quick_some : quick_clash pool ws o run' p i it ≡ true → clashes pool (earlier i) it ≡ true
    unfolding meets_plain
    quick_some t =
        some_of_three (is_gt o) (meets_plain pool ws p it) (repeats pool (items_from ws run' (i - run')) it) t falls (meets p refl)
        (repeats_some it i run' (i - run') (omega (arith, run_bound)))
      where
        falls : is_gt o ≡ true → clashes pool (earlier i) it ≡ true
        falls g =
            let more = no_greater i it e g in
            clash_some it i (i - 1) (omega arith) (clash_order pool (at (i - 1)) it (go o g (last_says i it e more)))
          where
            go : (x : Ordering) → is_gt x ≡ true → Says x (K pool (at (i - 1))) (K pool it) → K pool it < K pool (at (i - 1))
            go Less h s = true_false false h refl
            go Equal h s = true_false false h refl
            go Greater h s = s

        meets : (q : ℕ) → q ≡ p → meets_plain pool ws q it ≡ true → clashes pool (earlier i) it ≡ true
        meets zero s m = true_false false m refl
        meets (suc q) s m =
            let f : p - 1 ≡ q = omega arith in
            clash_some it i q (omega (arith, v.plain_in)) (clash_plain pool (at q) it (rw f at (v.plain_last (omega arith))) m)

    -- what the item meets where the quick test finds none
    pub record Clear : Type 0 where
      pub above : (j : ℕ) → j < i → K pool (at j) ≤ K pool it
      pub above_run : (j : ℕ) → j < run' → K pool (at j) < K pool it
      pub apart : (j : ℕ) → j < i → plain (at j) ≡ true → plain it ≡ true → E pool (at j) < S pool it
      pub other : (j : ℕ) → j < i → same_item pool (at j) it ≡ false

    pub quick_none : quick_clash pool ws o run' p i it ≡ false → Clear
    unfolding meets_plain
    quick_none t =
        let q = none_of_three (is_gt o) (meets_plain pool ws p it) (repeats pool (items_from ws run' (i - run')) it) t in
        record {
          above = above q;
          above_run = above_run q;
          apart = λ j h. apart q j h (above q);
          other = λ j h. other q j h (above_run q);
        }
      where
        Parts : Type 0
        Parts = (is_gt o ≡ false) × (meets_plain pool ws p it ≡ false) × (repeats pool (items_from ws run' (i - run')) it ≡ false)

        above : Parts → (j : ℕ) → j < i → K pool (at j) ≤ K pool it
        above q j h = omega (arith, v.sorted j h, go o q.0 (last_says i it e (omega arith)))
          where
            go : (x : Ordering) → is_gt x ≡ false → Says x (K pool (at (i - 1))) (K pool it) → K pool (at (i - 1)) ≤ K pool it
            go Less g s = omega arith
            go Equal g s = omega arith
            go Greater g s = true_false true refl g

        above_run : Parts → (j : ℕ) → j < run' → K pool (at j) < K pool it
        above_run q j h = go o refl q.0
          where
            go : (x : Ordering) → o ≡ x → is_gt x ≡ false → K pool (at j) < K pool it
            go Less f g =
                let less : j < i = omega (arith, run_bound) in
                omega (arith, v.sorted j less, rw f at (last_says i it e (omega arith)))
            go Equal f g =
                let in_run : j < run = rw (r, f) at h in
                omega (arith, v.before_run j in_run, rw f at (last_says i it e (omega (arith, v.run_in))))
            go Greater f g = true_false true refl g

        apart : Parts → (j : ℕ) → j < i → ((k : ℕ) → k < i → K pool (at k) ≤ K pool it) → plain (at j) ≡ true → plain it ≡ true → E pool (at j) < S pool it
        apart q j h up s u = go p refl q.1
          where
            none : p ≤ j → ⊥
            none l = true_false (plain (at j)) s (v.plain_none j l h)

            go : (x : ℕ) → p ≡ x → meets_plain pool ws x it ≡ false → E pool (at j) < S pool it
            go zero f g = absurd (none (omega arith))
            go (suc x) f g =
                let f' : p - 1 ≡ x = omega arith in
                let low : x < i = omega (arith, v.plain_in) in
                let m = rw u at g in
                let ends = sym (ends_less (size pool) pool (le_refl (size pool)) (at x) it) in
                let last : E pool (at x) < S pool it = ltb-true (E pool (at x)) (S pool it) (ends ∙ not-false (ends_below pool (at x) it) m) in
                elim (dec_lt (j + 1) p) [
                  | yes l ↦
                      let far : E pool (at j) < S pool (at x) = rw f' at (v.plain_apart j l s) in
                      omega (arith, rank_start (size pool) pool (le_refl (size pool)) (at x) it (up x low))
                  | no l ↦
                      let same : j ≡ x = omega (arith, none) in
                      rw same last
                ]

        other : Parts → (j : ℕ) → j < i → ((k : ℕ) → k < run' → K pool (at k) < K pool it) → same_item pool (at j) it ≡ false
        other q j h low = elim (dec_lt j run') [
          | yes l ↦ go (same_item pool (at j) it) refl (low j l)
          | no l ↦ repeats_none it run' (i - run') q.2 j (omega arith) (omega (arith, run_bound))
        ]
          where
            go : (b : Bool) → same_item pool (at j) it ≡ b → K pool (at j) < K pool it → b ≡ false
            go true s k = absurd (omega (arith, same_item_rank (size pool) pool (at j) it s))
            go false s k = refl

    pub clear_none : Clear → clashes pool (earlier i) it ≡ false
    clear_none w = clash_no it i (λ j h. clash_none pool (at j) it (w.above j h) (λ s u. w.apart j h s u) (w.other j h))

  -- the item joins those that are seen
  pub seen_more : (i run p : ℕ) (v : Seen i run p) (o : Ordering) (e : o ≡ last_order pool ws i (at i)) (run' : ℕ) (r : run' ≡ run_start o i run) (p' : ℕ)
      → Clear i run p v (at i) o e run' r → p' ≡ last_plain (at i) (i + 1) p → Seen (i + 1) run' p'
  seen_more i run p v o e run' r p' w s = go (plain (at i)) refl
    where
      f : i + 1 - 1 ≡ i
      f = omega arith

      sorted : (j : ℕ) → j < i + 1 → K pool (at j) ≤ K pool (at (i + 1 - 1))
      sorted j h = rw f (elim (dec_lt j i) [
        | yes l ↦ w.above j l
        | no l ↦ let t : j ≡ i = omega arith in rw t (le_refl (K pool (at i)))
      ])

      before : (j : ℕ) → j < run' → K pool (at j) < K pool (at (i + 1 - 1))
      before j h = rw f (w.above_run j h)

      go : (b : Bool) → plain (at i) ≡ b → Seen (i + 1) run' p'
      go true u =
          let t : p' ≡ i + 1 = s ∙ rw u in
          record {
            sorted = sorted;
            run_in = omega (arith, run_bound i run p v (at i) o e run' r);
            before_run = before;
            plain_in = omega arith;
            plain_last = λ h. rw (t, f) u;
            plain_none = λ j h l. absurd (omega arith);
            plain_apart = λ j h m. rw (t, f) (w.apart j (omega arith) m u);
          }
      go false u =
          let t : p' ≡ p = s ∙ rw u in
          rw t
          record {
            sorted = sorted;
            run_in = omega (arith, run_bound i run p v (at i) o e run' r);
            before_run = before;
            plain_in = omega (arith, v.plain_in);
            plain_last = v.plain_last;
            plain_none = λ j h l. elim (dec_lt j i) [
              | yes m ↦ v.plain_none j h m
              | no m ↦ let x : j ≡ i = omega arith in rw x u
            ];
            plain_apart = v.plain_apart;
          }

  -- a plain item that starts above the end of the last one, plain and upright, is above that, and the quick test finds nothing
  record Next (i run p : ℕ) (it : ItemWords) : Type 0 where
    pub order : Less ≡ last_order pool ws i it
    pub quick : quick_clash pool ws Less i p i it ≡ false
    pub is_plain : plain it ≡ true

  next : (i run p : ℕ) (it : ItemWords) → (0 < i → S pool (at (i - 1)) ≤ E pool (at (i - 1))) → follows_plain pool ws p i it ≡ true → Next i run p it
  unfolding last_order meets_plain repeats items_from
  next zero run p it up e = true_false false e refl
  next (suc i) run p it up e = go (eqb p (suc i)) refl (plain it) refl (ends_below pool (at i) it) refl (rw (f, le-ltb (suc i) 1 (omega arith)) at e)
    where
      f : suc i - 1 ≡ i
      f = omega arith

      order : E pool (at i) < S pool it → (o : Ordering) → Says o (K pool (at i)) (K pool it) → Less ≡ o
      order h Less s = refl
      order h Equal s = absurd (omega (arith, rank_above (size pool) pool (le_refl (size pool)) (at i) it (omega (arith, rw f at (up (omega arith))))))
      order h Greater s = absurd (omega (arith, rank_above (size pool) pool (le_refl (size pool)) (at i) it (omega (arith, rw f at (up (omega arith))))))

      go : (a : Bool) → eqb p (suc i) ≡ a → (b : Bool) → plain it ≡ b → (c : Bool) → ends_below pool (at i) it ≡ c
          → cond (false || not a || not b) false c ≡ true → Next (suc i) run p it
      go true g true h true k l =
          let q : p ≡ suc i = eqb-true p (suc i) g in
          let n : suc i - suc i ≡ 0 = omega arith in
          record {
            order =
                order (ltb-true (E pool (at i)) (S pool it) (sym (ends_less (size pool) pool (le_refl (size pool)) (at i) it) ∙ k)) (compare_items pool (at i) it)
                (order_says (size pool) pool (le_refl (size pool)) (at i) it);
            quick = rw (q, n, h, k);
            is_plain = h;
          }
      go true g true h false k l = true_false false l refl
      go true g false h c k l = true_false false l refl
      go false g b h c k l = true_false false l refl

  pub seen_next : (i run p : ℕ) → Seen i run p → {it : ItemWords} → it ≡ at i → (0 < i → S pool (at (i - 1)) ≤ E pool (at (i - 1)))
      → follows_plain pool ws p i it ≡ true → (clashes pool (earlier i) (at i) ≡ false) × Seen (i + 1) i (i + 1)
  seen_next i run p v s up e =
      let n = next i run p (at i) up (rw s at e) in
      let clear = quick_none i run p v (at i) Less n.order i refl n.quick in
      (clear_none i run p v (at i) Less n.order i refl clear, seen_more i run p v Less n.order i refl (i + 1) clear (rw n.is_plain))

-- ---- the verdict on what is left of the list at an index

module _ (pool ws : List ℕ) (i count : ℕ) where
  abbrev pub order_left : ℕ → Verdict
  order_left j = first_clash pool j (earlier pool ws j) (items_from ws j (count - j))

  pub order_end : count ≤ i → order_left i ≡ accepted
  unfolding first_clash
  order_end h = rw (items_end ws i count h)

  pub order_here : i < count → clashes pool (earlier pool ws i) (item_at ws i) ≡ true → order_left i ≡ refused 4 0 i
  unfolding first_clash
  order_here h e = rw (items_more ws i count h, e)

  pub order_next : i < count → clashes pool (earlier pool ws i) (item_at ws i) ≡ false → order_left i ≡ order_left (i + 1)
  unfolding first_clash earlier
  order_next h e = rw (items_more ws i count h, e, add-one i)

pub order_start : (pool ws : List ℕ) (count : ℕ) → order_verdict pool (items_from ws 0 count) ≡ order_left pool ws 0 count 0
unfolding earlier
order_start pool ws count = rw sub-zero
