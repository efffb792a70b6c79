-- Each law that a caller cites, in the order of specs/: which positions an item holds, that there is one answer, that no list of pairs that covers
-- the same has fewer, and what the answer is. No contract cites this file. Assumes nothing.
use Rattle.std.specs.Prelude.{Ok, Err}
use Prim.Native.Nat.{ℕ, ◌/◌, ◌≤◌, ◌<◌}
use mathlib.Core.Path.{◌≡◌, refl, sym, ap, ◌∙◌}
use mathlib.Core.Bool.{false}
use mathlib.Core.List.{List}
use native.Mathlib.Omega.{arith}
use lib.ListN.{length}
use borrow.Author.Tests.{le-ltb}
use Rattle.key_order.proofs.Impossible.{impossible}
use Rattle.intervals.specs.Intervals.{Interval}
use Rattle.intervals.specs.Intervals as interval
use Rattle.intervals.proofs.Laws.{canonical_unique, canonical_fewest_below, cover_all_unique}
use Rattle.key_order.proofs.Words.{Bytes}
use Rattle.query_item.specs.declared.ItemWords.{ItemWords}
use Rattle.item_check.specs.declared.Refusal.{Refusal}
use Rattle.item_check.specs.Checks.{Answer, accepted, and_then, pool_verdict, shape_verdict, first_bad, items_of}
use Rattle.item_check.proofs.Laws.{refused_apart, accepts}
use Rattle.pairs_sort.specs.Pairs.{pairs}
use Rattle.pairs_sort.proofs.Laws.{pairs_length}
use Rattle.position_given.specs.Inner.{last_word}
use Rattle.position_given.specs.Positions.{rows_of}
use Rattle.position_given.proofs.Fronts.{pairs_unique, number_unique, words_unique}
use Rattle.position_query.specs.Covered.{covered, position_fault, ranges_needed, room_verdict, query_verdict, build_verdict, as_verdict, FromQueryItems}
use Rattle.position_query.specs.Ranges.{ranges, covered_pairs}
use Rattle.position_query.proofs.Ranges.{ranges_covered, ranges_needed_lem}
pub use Rattle.position_query.proofs.Ranges.{item_held}

-- ---- one answer of `from_query_items`

-- 01 m6.3: what is not below the count is never covered, and so u64::MAX, which is below none, is not
pub past_never : (pool : List ℕ) (its : List ItemWords) (count p : ℕ) → count ≤ p → covered pool its count p ≡ false
unfolding covered
past_never pool its count p h = rw (le-ltb p count h)

never : {X : Type 0} {a : Unit {0}} {r : Refusal} → Ok a ≡ Err r → X
never e = impossible cc

module _ (pool ws : List ℕ) (count : ℕ) (old new new' : List ℕ) (l : length new ≡ length old) (l' : length new' ≡ length old) where
  -- any two answers that the promise of `from_query_items` allows are equal, and so are the words
  pub from_query_items_unique : (r r' : Answer (ℕ × ℕ)) → FromQueryItems pool ws count old new r
      → FromQueryItems pool ws count old new' r' → (r ≡ r') × (new ≡ new')
  from_query_items_unique (Ok a) (Ok b) F G =
      let C = F.written a.0 a.1 refl in
      let D = G.written b.0 b.1 refl in
      let number = number_unique C.list D.list in
      let total = C.total ∙ ap rows_of (pairs_unique C.list D.list) ∙ sym D.total in
      ((λ i. Ok (number i, total i)), words_unique C.list D.list (l ∙ sym l'))
  from_query_items_unique (Ok m) (Err r) F G = never (F.verdict ∙ sym G.verdict)
  from_query_items_unique (Err r) (Ok m) F G = never (G.verdict ∙ sym F.verdict)
  from_query_items_unique (Err r) (Err t) F G =
      (ap Err (refused_apart r t (F.verdict ∙ sym G.verdict)), F.kept r refl ∙ sym (G.kept t refl))

-- ---- the fewest pairs

-- of an answer: m pairs, which cover t rows, stand at the front of the new words
module _ (pool ws : List ℕ) (count : ℕ) (old new : List ℕ) (r : Answer (ℕ × ℕ)) (F : FromQueryItems pool ws count old new r)
    (m t : ℕ) (is : r ≡ Ok (m, t)) where
  -- 02 §14.1, reading B25: no list of half-open pairs that covers the same of the rows below the count, whatever it covers past them, has fewer
  -- pairs: in any order, overlapping or not, empty ones among them
  pub written_fewest : (B : List Interval) → ((p : ℕ) → p < count → interval.holds B p ≡ covered pool (items_of ws) count p) → m ≤ length B
  written_fewest B same =
      let C = F.written m t is in
      omega (
        arith,
        pairs_length new m 0,
        canonical_fewest_below count (pairs new m) B C.list.canonical
            (λ p h. C.list.holding p ∙ past_never pool (items_of ws) count p h) (λ p h. same p h ∙ sym (C.list.holding p)),
      )

  -- 02 §14.2: a canonical list that covers the same positions is the list that is written
  pub written_unique : (A : List Interval) → interval.Canonical A → ((p : ℕ) → interval.holds A p ≡ covered pool (items_of ws) count p)
      → pairs new m ≡ A
  written_unique A h_a same =
      let C = F.written m t is in
      canonical_unique (pairs new m) A C.list.canonical h_a (λ p. C.list.holding p ∙ sym (same p))

-- ---- the answer of `from_query_items`, computed

no_fault : (pool ws : List ℕ) → query_verdict pool ws ≡ accepted → first_bad (position_fault pool) 0 0 (items_of ws) ≡ accepted
no_fault pool ws good =
    let items = and_then (shape_verdict ws 0) (first_bad (position_fault pool) 0 0 (items_of ws)) in
    ((accepts (shape_verdict ws 0) (first_bad (position_fault pool) 0 0 (items_of ws))).0 ((accepts (pool_verdict pool) items).0 good).1).1

module _ (pool ws : List ℕ) (count : ℕ) (B : Bytes pool) (few : count ≤ last_word) where
  -- pairs that are canonical and hold the positions that accepted items cover are the computed ones
  pub covers_pairs : query_verdict pool ws ≡ accepted → (A : List Interval) → interval.Canonical A
      → ((p : ℕ) → interval.holds A p ≡ covered pool (items_of ws) count p) → A ≡ covered_pairs pool count (items_of ws)
  covers_pairs good A C same =
      cover_all_unique (ranges pool count (items_of ws)) A C (λ p. same p ∙ sym (ranges_covered pool B count few 0 (items_of ws) (no_fault pool ws good) p))

  module _ (old new : List ℕ) (r : Answer (ℕ × ℕ)) (F : FromQueryItems pool ws count old new r) where
    -- the pairs that are written are the computed ones, and the answer is how many, and how many rows they cover
    pub written_pairs : (m t : ℕ) → r ≡ Ok (m, t)
        → (m ≡ length (covered_pairs pool count (items_of ws))) × (pairs new m ≡ covered_pairs pool count (items_of ws))
        × (t ≡ rows_of (covered_pairs pool count (items_of ws)))
    written_pairs m t e =
        let C = F.written m t e in
        let good = ((accepts (query_verdict pool ws) (room_verdict (ranges_needed pool count (items_of ws)) (length old))).0 (sym F.verdict ∙ rw e)).0 in
        let same = covers_pairs good (pairs new m) C.list.canonical C.list.holding in
        (sym (pairs_length new m 0) ∙ ap length same, same, C.total ∙ ap rows_of same)

    -- with a pair of room for each nonempty range, accepted items are answered
    pub pairs_answered : query_verdict pool ws ≡ accepted → length (ranges pool count (items_of ws)) ≤ length old / 2
        → r ≡ Ok (length (covered_pairs pool count (items_of ws)), rows_of (covered_pairs pool count (items_of ws)))
    pairs_answered good room = go r refl
      where
        go : (u : Answer (ℕ × ℕ)) → r ≡ u
            → u ≡ Ok (length (covered_pairs pool count (items_of ws)), rows_of (covered_pairs pool count (items_of ws)))
        go (Ok a) e = let all = written_pairs a.0 a.1 e in λ i. Ok (all.0 i, all.2 i)
        go (Err r) e =
            let needed = ranges_needed_lem pool B count few 0 (items_of ws) (no_fault pool ws good) in
            let fits : build_verdict pool ws count (length old) ≡ accepted =
            rw (good, ← needed, le-ltb (length old / 2) (length (ranges pool count (items_of ws))) room) in
            never {r = r} (sym fits ∙ sym F.verdict ∙ ap as_verdict e)
