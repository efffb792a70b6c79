-- The items of an accepted list that are known to stay, by the order of the list: of those below the new item all but the last plain one,
-- and all that start above its end. What the list comes to is what the others come to. Assumes nothing.
use Rattle.std.specs.Ordering.{is_lt}
use Prim.Native.Nat.{ℕ, zero, suc, ◌+◌, ◌-◌, ◌≤◌, ◌<◌}
use mathlib.Core.Path.{◌≡◌, refl, sym, ap, ◌∙◌}
use mathlib.Core.Bool.{true, false, not}
use mathlib.Core.Logic.{◌⊎◌, inl, inr}
use mathlib.Core.List.{List, [], ◌∷◌, ◌++◌}
use native.Mathlib.Omega.{arith}
use native.Mathlib.Nat.{le_refl}
use native.Mathlib.Decide.{dec_lt}
use lib.ListN.{length, length-append}
use borrow.Author.Tests.{ltb-true, ltb-false, lt-ltb, le-ltb, not-true, not-false}
use Rattle.std.specs.Option.{MatchOption, unwrap_or}
use Rattle.std.specs.declared.option.Option.{Option}
use Rattle.std.specs.declared.option.Option.TheVariants.{None, Some}
use Rattle.std.specs.declared.ops.Range.{Range}
use Rattle.key_order.proofs.Impossible.{impossible}
use Rattle.key_order.proofs.Line.{size}
use Rattle.query_item.specs.declared.ItemWords.{ItemWords}
use Rattle.query_item.specs.Items.{item_at, items_from}
use Rattle.item_check.specs.Checks.{accepted}
use Rattle.insert_order.specs.Order.{compare_items, plain, ends_below}
use Rattle.insert_order.specs.Refusals.{input_verdict}
use Rattle.insert_order.proofs.Ranked.{lo, hi, item_rank, order_less, rank_start, same_rank, same_item_rank}
use Rattle.insert_order.proofs.Ordered.{Among, accepted_ordered, clash_says, ordered_at}
use Rattle.insert_order.proofs.Accepted.{accepted_order, upright_ranks, input_list, input_new}
use Rattle.insert_order.proofs.Chains.{First}
use Rattle.insert_merge.specs.declared.Fate.{Fate}
use Rattle.insert_merge.specs.declared.Fate.TheVariants.{Replaced, Stays, Merges}
use Rattle.insert_merge.specs.Merge.{fate_of, keep_by, staying, merge_by, merged_with, is_staying}
use Rattle.insert_merge.proofs.Merged.{merged_none, ends_ranks, ranks_stay}
use Rattle.insert_merge.proofs.Staying.{merges_gone, staying_all}
use Rattle.insert.specs.Passes.{Ascending, Below, Stay, Asked, keeps_place, first_changed, stays_at}
use Rattle.insert.proofs.Reading.{first_here, first_end}
use Rattle.item_lists.proofs.Words.{length_items}

abbrev range : ℕ → ℕ → Range ℕ
range a b = record { start = a; end = b }

module _ (pool : List ℕ) where
  abbrev K : ItemWords → ℕ
  K x = item_rank (size pool) pool x

  abbrev S : ItemWords → ℕ
  S x = lo (size pool) pool x

  abbrev E : ItemWords → ℕ
  E x = hi (size pool) pool x

  fits : size pool ≤ size pool
  fits = le_refl (size pool)

  less_ranks : (x y : ItemWords) → is_lt (compare_items pool x y) ≡ true → K x < K y
  less_ranks x y e = ltb-true (K x) (K y) (sym (order_less (size pool) pool fits x y) ∙ e)

  other_ranks : (x y : ItemWords) → is_lt (compare_items pool x y) ≡ false → K y ≤ K x
  other_ranks x y e = ltb-false (K x) (K y) (sym (order_less (size pool) pool fits x y) ∙ e)

  ranks_less : (x y : ItemWords) → K x < K y → is_lt (compare_items pool x y) ≡ true
  ranks_less x y h = order_less (size pool) pool fits x y ∙ lt-ltb (K x) (K y) h

  ranks_other : (x y : ItemWords) → K y ≤ K x → is_lt (compare_items pool x y) ≡ false
  ranks_other x y h = order_less (size pool) pool fits x y ∙ le-ltb (K x) (K y) h

-- ---- what is below an item

module _ (pool ws : List ℕ) (count : ℕ) (it : ItemWords) where
  abbrev at : ℕ → ItemWords
  at j = item_at ws j

  -- those before low are below the item, those from high on are not
  pub record Halved (low high : ℕ) : Type 0 where
    pub meets : low ≤ high
    pub within : high ≤ count
    pub below : (j : ℕ) → j < low → is_lt (compare_items pool (at j) it) ≡ true
    pub others : (j : ℕ) → high ≤ j → j < count → is_lt (compare_items pool (at j) it) ≡ false

  pub halved_start : Halved 0 count
  halved_start =
      record {
        meets = omega arith;
        within = omega arith;
        below = λ j h. absurd (omega arith);
        others = λ j h l. absurd (omega arith);
      }

  module _ (low high mid : ℕ) (up : Ascending pool ws count) (v : Halved low high) (h : low ≤ mid) (l : mid < high) {x : ItemWords} (p : x ≡ at mid) where
    pub halved_above : is_lt (compare_items pool x it) ≡ true → Halved (mid + 1) high
    halved_above e =
        record {
          meets = omega arith;
          within = v.within;
          below = λ j k. elim (dec_lt j mid) [
            | yes m ↦ ranks_less pool (at j) it (omega (arith, other_ranks pool (at mid) (at j) (up j mid m (omega (arith, v.within))), less_ranks pool (at mid) it (rw p at e)))
            | no m ↦ let s : j ≡ mid = omega arith in rw (s, ← p) e
          ];
          others = v.others;
        }

    pub halved_below : is_lt (compare_items pool x it) ≡ false → Halved low mid
    halved_below e =
        record {
          meets = h;
          within = omega (arith, v.within);
          below = v.below;
          others = λ j k n. elim (dec_lt mid j) [
            | yes m ↦ ranks_other pool (at j) it (omega (arith, other_ranks pool (at j) (at mid) (up mid j m n), other_ranks pool (at mid) it (rw p at e)))
            | no m ↦ let s : j ≡ mid = omega arith in rw (s, ← p) e
          ];
        }

  pub halved_end : (low high : ℕ) → Halved low high → high ≤ low → Below pool ws count it low
  halved_end low high v h =
      record { within = omega (arith, v.meets, v.within); below = v.below; others = λ j k l. v.others j (omega (arith, v.meets)) l }

-- ---- what stays of an accepted list

module _ (pool ws : List ℕ) (count : ℕ) (new : ItemWords) (ok : input_verdict pool ws count new ≡ accepted) where
  -- the first of two is no larger, and where both are plain it ends below the second
  apart : (j k : ℕ) → j < k → k < count
      → (K pool (item_at ws j) ≤ K pool (item_at ws k)) × (plain (item_at ws j) ≡ true → plain (item_at ws k) ≡ true → E pool (item_at ws j) < S pool (item_at ws k))
  apart j k h l =
      let its = items_from ws 0 count in
      let o = (accepted_ordered pool 0 [] its (accepted_order pool its (input_list pool ws count new ok))).1 in
      clash_says pool (item_at ws j) (item_at ws k) (ordered_at pool ws 0 count o j k (omega arith) h (omega arith))

  new_upright : S pool new ≤ E pool new
  new_upright = upright_ranks pool new (input_new pool ws count new ok)

  pub ascending : Ascending pool ws count
  ascending j k h l = ranks_other pool (item_at ws k) (item_at ws j) (apart j k h l).0

  -- those that start above the end of the new item
  pub stay_back : (i : ℕ) {x : ItemWords} → x ≡ item_at ws i → ends_below pool new x ≡ true → Stay pool ws new i count
  stay_back i p e j h l = ranks_stay (size pool) pool (fits pool) new (item_at ws j) (λ s. omega (arith, (same_rank (size pool) pool new (item_at ws j) s).0, far, new_upright)) (λ a b. inl far)
    where
      far : E pool new < S pool (item_at ws j)
      far = elim (dec_lt i j) [
        | yes m ↦ omega (arith, ends_ranks (size pool) pool (fits pool) new (item_at ws i) (rw p at e), rank_start (size pool) pool (fits pool) (item_at ws i) (item_at ws j) (apart i j m l).0)
        | no m ↦ let s : j ≡ i = omega arith in rw s (ends_ranks (size pool) pool (fits pool) new (item_at ws i) (rw p at e))
      ]

  pub back_by : (place : ℕ) → place ≤ count → (r : Option ℕ) → MatchOption r ((j : ℕ) → place ≤ j → j < count → ends_below pool new (item_at ws j) ≡ false) (First (range place count) (λ j. ends_below pool new (item_at ws j)))
      → {n : ℕ} → n ≡ unwrap_or r count → (place ≤ n) × (n ≤ count) × Stay pool ws new n count
  back_by place h None f e = rw e (h, omega arith, λ j k l. absurd (omega arith))
  back_by place h (Some i) f e = rw e (f.from, omega (arith, f.below), stay_back i refl f.passes)

  module _ (place : ℕ) (v : Below pool ws count new place) where
    low : (j : ℕ) → j < place → K pool (item_at ws j) < K pool new
    low j h = less_ranks pool (item_at ws j) new (v.below j h)

    -- one below the new item is not equal to it
    below_stays : (j : ℕ) → j < place → (plain new ≡ true → plain (item_at ws j) ≡ true → E pool (item_at ws j) < S pool new) → fate_of pool new (item_at ws j) ≡ Stays
    below_stays j h f =
        ranks_stay (size pool) pool (fits pool) new (item_at ws j) (λ s. omega (arith, same_item_rank (size pool) pool new (item_at ws j) s, low j h)) (λ a b. inr (f a b))

    pub stay_wrapped : plain new ≡ false → Stay pool ws new 0 place
    stay_wrapped e j h l = below_stays j l (λ a b. impossible cc)

    pub stay_none : ((j : ℕ) → 0 ≤ j → j < place → plain (item_at ws j) ≡ false) → Stay pool ws new 0 place
    stay_none w j h l = below_stays j l (λ a b. absurd (let f = w j h l in impossible cc))

    -- the last plain one
    module _ (i : ℕ) (h : i < place) (e : plain (item_at ws i) ≡ true) where
      pub stay_plain : Stay pool ws new 0 i
      stay_plain j k l =
          below_stays j (omega arith)
          (λ a b. omega (
            arith,
            (apart j i l (omega (arith, v.within))).1 b e,
            rank_start (size pool) pool (fits pool) (item_at ws i) new (omega (arith, low i h)),
          ))

      pub stay_below : ((j : ℕ) → i < j → j < place → plain (item_at ws j) ≡ false) → ends_below pool (item_at ws i) new ≡ true → Stay pool ws new 0 place
      stay_below w f j k l = elim (dec_lt j i) [
        | yes m ↦ stay_plain j k m
        | no m ↦ below_stays j l (λ a b. elim (dec_lt i j) [
          | yes n ↦ absurd (let g = w j n l in impossible cc)
          | no n ↦ let s : j ≡ i = omega arith in rw s (ends_ranks (size pool) pool (fits pool) (item_at ws i) new f)
        ])
      ]

-- ---- what the list comes to

items_split : (ws : List ℕ) (i a b : ℕ) → items_from ws i (a + b) ≡ items_from ws i a ++ items_from ws (i + a) b
unfolding items_from
items_split ws i zero b = let e : i + 0 ≡ i = omega arith in let f : 0 + b ≡ b = omega arith in rw (e, f)
items_split ws i (suc a) b =
    let e : suc a + b ≡ suc (a + b) = omega arith in
    let f : i + suc a ≡ suc i + a = omega arith in
    rw (e, f) (ap (λ (l : List ItemWords). item_at ws i ∷ l) (items_split ws (suc i) a b))

module _ (pool : List ℕ) (new : ItemWords) where
  staying_append : (xs ys : List ItemWords) → staying pool new (xs ++ ys) ≡ staying pool new xs ++ staying pool new ys
  unfolding staying
  staying_append [] ys = refl
  staying_append (x ∷ xs) ys = rw (staying_append xs ys) (go (fate_of pool new x))
    where
      go : (f : Fate) → keep_by f x (staying pool new xs ++ staying pool new ys) ≡ keep_by f x (staying pool new xs) ++ staying pool new ys
      go Replaced = refl
      go Stays = refl
      go Merges = refl

  merged_append : (cur : ItemWords) (xs ys : List ItemWords) → merged_with pool new cur (xs ++ ys) ≡ merged_with pool new (merged_with pool new cur xs) ys
  unfolding merged_with
  merged_append cur [] ys = refl
  merged_append cur (x ∷ xs) ys = merged_append (merge_by pool (fate_of pool new x) cur x) xs ys

  module _ (ws : List ℕ) where
    stay_among : (i n : ℕ) → Stay pool ws new i (i + n) → (x : ItemWords) → Among x (items_from ws i n) → fate_of pool new x ≡ Stays
    unfolding items_from
    stay_among i zero f x m = absurd m
    stay_among i (suc n) f x m = go m (stay_among (suc i) n (λ j h l. f j (omega arith) (omega arith)) x)
      where
        go : (x ≡ item_at ws i) ⊎ Among x (items_from ws (suc i) n) → (Among x (items_from ws (suc i) n) → fate_of pool new x ≡ Stays) → fate_of pool new x ≡ Stays
        go (inl s) r = rw s (f i (omega arith) (omega arith))
        go (inr k) r = r k

    pub stay_whole : (i n : ℕ) → Stay pool ws new i (i + n) → staying pool new (items_from ws i n) ≡ items_from ws i n
    stay_whole i n f = staying_all pool new (items_from ws i n) (stay_among i n f)

    stay_alone : (cur : ItemWords) (i n : ℕ) → Stay pool ws new i (i + n) → merged_with pool new cur (items_from ws i n) ≡ cur
    stay_alone cur i n f = merged_none pool new cur (items_from ws i n) (λ x m e. merges_gone pool new x e (stay_among i n f x m))

    module _ (count from to : ℕ) (v : Asked pool ws count new from to) where
      parts : items_from ws 0 count ≡ items_from ws 0 from ++ (items_from ws from (to - from) ++ items_from ws to (count - to))
      parts =
          let e : from + (to - from + (count - to)) ≡ count = omega (arith, v.ascends, v.within) in
          let f : from + (to - from) ≡ to = omega (arith, v.ascends) in
          let z : 0 + from ≡ from = omega arith in
          let whole = items_split ws 0 from (to - from + (count - to)) in
          let rest = items_split ws from (to - from) (count - to) in
          rw (e, z, rest, f) at whole

      front : Stay pool ws new 0 (0 + from)
      front j h l = v.front j h (omega arith)

      back : Stay pool ws new to (to + (count - to))
      back j h l = v.back j h (omega (arith, v.within))

      pub asked_merged : {result : ItemWords} → result ≡ merged_with pool new new (items_from ws from (to - from)) → result ≡ merged_with pool new new (items_from ws 0 count)
      asked_merged p =
          let mid = items_from ws from (to - from) in
          let end = items_from ws to (count - to) in
          sym
          (ap (merged_with pool new new) parts
          ∙ merged_append new (items_from ws 0 from) (mid ++ end)
          ∙ ap (λ (it : ItemWords). merged_with pool new it (mid ++ end)) (stay_alone new 0 from front)
          ∙ merged_append new mid end
          ∙ stay_alone (merged_with pool new new mid) to (count - to) back
          ∙ sym p)

      pub asked_stay : {stay : ℕ} → stay ≡ length (staying pool new (items_from ws from (to - from)))
          → from + stay + (count - to) ≡ length (staying pool new (items_from ws 0 count))
      asked_stay p =
          let mid = items_from ws from (to - from) in
          let end = items_from ws to (count - to) in
          sym
          (ap (λ (l : List ItemWords). length (staying pool new l)) parts
          ∙ rw (
            staying_append (items_from ws 0 from) (mid ++ end),
            staying_append mid end,
            stay_whole 0 from front,
            stay_whole to (count - to) back,
            length-append,
            length-append,
            length_items ws 0 from,
            length_items ws to (count - to),
          )
          (omega arith))

-- ---- the first change

pub first_skip : (pool ws : List ℕ) (new result : ItemWords) (i a n : ℕ) → ((j : ℕ) → i ≤ j → j < i + a → keeps_place pool new result (item_at ws j) ≡ true)
    → first_changed pool new result (items_from ws i (a + n)) ≡ a + first_changed pool new result (items_from ws (i + a) n)
unfolding first_changed items_from
first_skip pool ws new result i zero n f = let e : i + 0 ≡ i = omega arith in let g : 0 + n ≡ n = omega arith in rw (e, g) (omega arith)
first_skip pool ws new result i (suc a) n f =
    let e : suc a + n ≡ suc (a + n) = omega arith in
    let g : i + suc a ≡ suc i + a = omega arith in
    rw (e, g, f i (omega arith) (omega arith)) (omega (arith, first_skip pool ws new result (suc i) a n (λ j h l. f j (omega arith) (omega arith))))

-- those below the result and before `from` keep their places; then the first of those left that does not is known, or that none is
module _ (pool ws : List ℕ) (count from : ℕ) (new result : ItemWords) (a : ℕ) (h : from ≤ count) (s : Stay pool ws new 0 from) (v : Below pool ws from result a) where
  abbrev Keeps : ℕ → Type 0
  Keeps j = keeps_place pool new result (item_at ws j) ≡ true

  kept : (m : ℕ) → ((j : ℕ) → a ≤ j → j < m → not (keeps_place pool new result (item_at ws j)) ≡ false) → (j : ℕ) → 0 ≤ j → j < 0 + m → Keeps j
  kept m f j k l = elim (dec_lt j a) [
    | yes p ↦ rw (s j k (omega (arith, v.within)), v.below j p)
    | no p ↦ not-false (keeps_place pool new result (item_at ws j)) (f j (omega arith) (omega arith))
  ]

  stops : (m : ℕ) → m ≤ count → ((j : ℕ) → 0 ≤ j → j < 0 + m → Keeps j) → first_changed pool new result (items_from ws m (count - m)) ≡ 0
      → m ≡ first_changed pool new result (items_from ws 0 count)
  stops m l f z =
      let e : m + (count - m) ≡ count = omega arith in
      let o : 0 + m ≡ m = omega arith in
      omega (arith, z, rw (e, o) at (first_skip pool ws new result 0 m (count - m) f))

  pub first_by : (r : Option ℕ)
      → MatchOption r ((j : ℕ) → a ≤ j → j < count → not (keeps_place pool new result (item_at ws j)) ≡ false) (First (range a count) (λ j. not (keeps_place pool new result (item_at ws j))))
      → {n : ℕ} → n ≡ unwrap_or r count → n ≡ first_changed pool new result (items_from ws 0 count)
  first_by None f e = rw e (stops count (omega arith) (kept count f) (first_end pool ws count count new result (omega arith)))
  first_by (Some i) f e =
      rw e
      (stops i (omega (arith, f.below)) (kept i f.others)
      (first_here pool ws i count new result f.below refl (not-true (keeps_place pool new result (item_at ws i)) f.passes)))

-- ---- the tail

pub stays_is : (pool : List ℕ) (i asked : ℕ) (new it : ItemWords) → (asked ≤ i → fate_of pool new it ≡ Stays) → stays_at pool i asked new it ≡ is_staying (fate_of pool new it)
stays_is pool i asked new it f = elim (dec_lt i asked) [
  | yes h ↦ rw (lt-ltb i asked h)
  | no h ↦ rw (le-ltb i asked (omega arith), f (omega arith))
]
