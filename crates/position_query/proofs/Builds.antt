-- The passes over items: the check of each, how many ranges there are, and the ranges written; a turn of each. Assumes nothing.
use Rattle.std.specs.Prelude.{Ok, Err}
use Prim.Native.Nat.{ℕ, zero, suc, ◌+◌, ◌-◌, ◌*◌, ◌/◌, ◌≤◌, ◌<◌, min}
use mathlib.Core.Path.{◌≡◌, refl, sym, ap, ◌∙◌}
use mathlib.Core.Bool.{cond}
use mathlib.Core.List.{List, [], ◌++◌, append_assoc, append-nil}
use native.Mathlib.Omega.{arith}
use lib.ListN.{length, drop, length-append}
use borrow.Author.Tests.{lt-ltb, le-ltb}
use Rattle.key_order.proofs.Impossible.{impossible}
use Rattle.intervals.specs.Intervals.{Interval, piece}
use Rattle.intervals.specs.Intervals as interval
use Rattle.intervals.proofs.Laws.{piece_some, piece_none, piece_one}
use Rattle.query_item.specs.Items.{item_at, items_from}
use Rattle.item_check.specs.declared.Refusal.{Refusal}
use Rattle.item_check.specs.Checks.{Answer, refused, accepted, and_then, pool_verdict, shape_verdict, first_bad, items_of}
use Rattle.item_check.proofs.Laws.{accepts, answers, items_end, items_more}
use Rattle.pairs_sort.specs.Pairs.{pairs_from, pairs, put, pushes, Merged}
use Rattle.pairs_sort.proofs.Laws.{pairs_length, push_length, push_pairs, push_kept}
use Rattle.position_query.specs.Covered.{position_fault, query_verdict, FromQueryItems}
use Rattle.position_given.specs.Inner.{last_word}
use Rattle.position_given.specs.Given.{canonical_verdict}
use Rattle.position_given.specs.Positions.{rows_of}
use Rattle.position_given.specs.Answers.{rows_answer}
use Rattle.position_given.proofs.Laws.{canonical_exactly}
use Rattle.position_given.proofs.Fronts.{pairs_as}
use Rattle.position_query.specs.Ranges.{clipped, ranges}
use Rattle.position_query.specs.Inner.{Wrote, Writes, Building}
use Rattle.key_order.proofs.Words.{Bytes}
use Rattle.position_query.proofs.Ranges.{ranges_covered, ranges_needed_lem}

-- ---- how many ranges

module _ (pool : List ℕ) (count : ℕ) (ws : List ℕ) (n i : ℕ) where
  abbrev ranges_left : ℕ → List Interval
  ranges_left j = ranges pool count (items_from ws j (n - j))

  ranges_end : n ≤ i → ranges_left i ≡ []
  unfolding ranges
  ranges_end h = rw (items_end ws i n h)

  module _ (s e : ℕ) (is : (s, e) ≡ clipped pool count (item_at ws i)) where
    ranges_more : i < n → ranges_left i ≡ piece s e ++ ranges_left (i + 1)
    unfolding ranges
    ranges_more h = rw (items_more ws i n h, ← is)

    ranges_some : i < n → s < e → length (ranges_left i) ≡ suc (length (ranges_left (i + 1)))
    ranges_some h l = rw (ranges_more h, piece_some s e l)

    ranges_none : i < n → e ≤ s → length (ranges_left i) ≡ length (ranges_left (i + 1))
    ranges_none h l = rw (ranges_more h, piece_none s e l)

-- no more than there are items
pub ranges_few : (pool : List ℕ) (count : ℕ) (ws : List ℕ) (n i : ℕ) → length (ranges pool count (items_from ws i n)) ≤ n
unfolding ranges items_from
ranges_few pool count ws zero i = omega arith
ranges_few pool count ws (suc n) i =
    let a = clipped pool count (item_at ws i) in
    omega (arith, length-append (piece a.0 a.1) (ranges pool count (items_from ws (suc i) n)), piece_one a.0 a.1, ranges_few pool count ws n (suc i))

-- ---- the ranges written

-- k of the ranges stand as the first pairs, and the others are still to come
pub record Writing (pool : List ℕ) (count : ℕ) (ws old new : List ℕ) (n k i : ℕ) : Type 0 where
  pub within : i ≤ n
  pub size : length new ≡ length old
  pub room : 2 * length (ranges pool count (items_from ws 0 n)) ≤ length old
  pub whole : ranges pool count (items_from ws 0 n) ≡ pairs new k ++ ranges pool count (items_from ws i (n - i))
  pub later : drop (2 * length (ranges pool count (items_from ws 0 n))) new ≡ drop (2 * length (ranges pool count (items_from ws 0 n))) old

writing_start : (pool : List ℕ) (count : ℕ) (ws old : List ℕ) (n : ℕ) → 2 * length (ranges pool count (items_from ws 0 n)) ≤ length old
    → Writing pool count ws old old n 0 0
unfolding pairs_from
writing_start pool count ws old n h = record {
  within = omega arith;
  size = refl;
  room = h;
  whole = let z : n - 0 ≡ n = omega arith in rw z;
  later = refl;
}

module _ {pool : List ℕ} {count : ℕ} {ws old new : List ℕ} {n k i : ℕ} (W : Writing pool count ws old new n k i) where
  abbrev all : List Interval
  all = ranges pool count (items_from ws 0 n)

  writing_more : (s e : ℕ) → (s, e) ≡ clipped pool count (item_at ws i) → (v : List ℕ) (r : ℕ) → r ≡ cond (pushes new k s e) (k + 1) k
      → v ≡ cond (pushes new k s e) (put new k s e) new → i < n → Writing pool count ws old v n r (i + 1)
  writing_more s e is v r is-r is-v h =
      let sizes : length all ≡ k + length (ranges pool count (items_from ws i (n - i))) =
      ap length W.whole ∙ length-append (pairs new k) (ranges pool count (items_from ws i (n - i))) ∙ rw (pairs_length new k 0) in
      let fits : s < e → 2 * k + 2 ≤ 2 * length all = (λ l. omega (arith, ranges_some pool count ws n i s e is h l, sizes)) in record {
        within = omega arith;
        size = push_length new k s e v r is-r is-v ∙ W.size;
        room = W.room;
        whole = W.whole
            ∙ rw (ranges_more pool count ws n i s e is h, push_pairs new k s e v r is-r is-v (λ l. omega (arith, fits l, W.room, W.size)), append_assoc);
        later = push_kept new k s e v r is-r is-v (2 * length all) fits ∙ W.later;
      }

  -- a nonempty range is pushed, and an empty one is passed over
  module _ (s e : ℕ) (is : (s, e) ≡ clipped pool count (item_at ws i)) (h : i < n) where
    writing_some : s < e → (v : List ℕ) → v ≡ cond (pushes new k s e) (put new k s e) new → Writing pool count ws old v n (k + 1) (i + 1)
    writing_some l v is-v =
        let sizes : length all ≡ k + length (ranges pool count (items_from ws i (n - i))) =
        ap length W.whole ∙ length-append (pairs new k) (ranges pool count (items_from ws i (n - i))) ∙ rw (pairs_length new k 0) in
        let fits : k < length new / 2 = omega (arith, ranges_some pool count ws n i s e is h l, sizes, W.room, W.size) in
        writing_more s e is v (k + 1) (rw (lt-ltb s e l, lt-ltb k (length new / 2) fits)) is-v h

    writing_none : e ≤ s → Writing pool count ws old new n k (i + 1)
    writing_none l = writing_more s e is new k (rw (le-ltb s e l)) (rw (le-ltb s e l)) h

  module _ (h : n ≤ i) where
    written : all ≡ pairs new k
    written = W.whole ∙ rw (ranges_end pool count ws n i h, append-nil)

    writing_count : k ≡ length all
    writing_count = sym (ap length written ∙ pairs_length new k 0)

    writing_end : Wrote all old new
    writing_end = record { front = ap (λ (m : ℕ). pairs new m) (sym writing_count) ∙ sym written; later = W.later }

-- k ranges are counted, and where there is room for all they are written
pub record Counted (pool : List ℕ) (count : ℕ) (ws old new : List ℕ) (n k i : ℕ) : Type 0 where
  pub within : i ≤ n
  pub few : k ≤ i
  pub size : length new ≡ length old
  pub whole : length (ranges pool count (items_from ws 0 n)) ≡ k + length (ranges pool count (items_from ws i (n - i)))
  pub writing : 2 * length (ranges pool count (items_from ws 0 n)) ≤ length old → Writing pool count ws old new n k i

pub counted_start : (pool : List ℕ) (count : ℕ) (ws old : List ℕ) (n : ℕ) → Counted pool count ws old old n 0 0
counted_start pool count ws old n = record {
  within = omega arith;
  few = omega arith;
  size = refl;
  whole = let z : n - 0 ≡ n = omega arith in rw z (omega arith);
  writing = writing_start pool count ws old n;
}

module _ {pool : List ℕ} {count : ℕ} {ws old new : List ℕ} {n k i : ℕ} (C : Counted pool count ws old new n k i) where
  module _ (s e : ℕ) (is : (s, e) ≡ clipped pool count (item_at ws i)) (h : i < n) where
    pub counted_some : s < e → (v : List ℕ) (r : ℕ) → r ≡ cond (pushes new k s e) (k + 1) k → v ≡ cond (pushes new k s e) (put new k s e) new
        → Counted pool count ws old v n (k + 1) (i + 1)
    counted_some l v r is-r is-v = record {
      within = omega arith;
      few = omega (arith, C.few);
      size = push_length new k s e v r is-r is-v ∙ C.size;
      whole = omega (arith, C.whole, ranges_some pool count ws n i s e is h l);
      writing = λ room. writing_some (C.writing room) s e is h l v is-v;
    }

    pub counted_none : e ≤ s → Counted pool count ws old new n k (i + 1)
    counted_none l = record {
      within = omega arith;
      few = omega (arith, C.few);
      size = C.size;
      whole = omega (arith, C.whole, ranges_none pool count ws n i s e is h l);
      writing = λ room. writing_none (C.writing room) s e is h l;
    }

  module _ (h : n ≤ i) where
    pub counted_all : k ≡ length (ranges pool count (items_from ws 0 n))
    counted_all = let none = ranges_end pool count ws n i h in omega (arith, rw none at C.whole)

    pub counted_written : Writes (ranges pool count (items_from ws 0 n)) old new
    counted_written room = writing_end (C.writing room) h

-- ---- what is built

-- pairs that are counted are canonical
rows_canonical : (A : List Interval) (t : ℕ) → rows_answer A ≡ Ok t → interval.Canonical A × (rows_of A ≡ t)
rows_canonical A t e =
    let both = answers (canonical_verdict A) (Ok (rows_of A)) t e in
    let is = both.1 in
    ((canonical_exactly A).0 both.0, cc)

module _ (pool ws : List ℕ) (count : ℕ) (old : List ℕ) where
  abbrev whole : List Interval
  whole = ranges pool count (items_of ws)

  pub build_short : length old / 2 < length whole → Building pool ws count old old (refused 6 0 0)
  build_short h = record {
    verdict = rw (lt-ltb (length old / 2) (length whole) h);
    written = λ m t e. impossible cc;
    kept = λ no e. refl;
  }

  pub build_whole : (k : ℕ) (mid new : List ℕ) (m : ℕ) (r : Answer (ℕ × ℕ)) → length whole ≤ length old / 2 → k ≡ length whole → length mid ≡ length old → Wrote whole old mid
      → Merged (min k (length mid / 2)) mid new m → r ≡ Ok (m, rows_of (pairs new m)) → Building pool ws count old new r
  build_whole k mid new m r h is-k size W M is-r =
      let n : min k (length mid / 2) ≡ length whole = omega arith in
      let R : Merged (length whole) mid new m = rw n at M in record {
        verdict = rw (is-r, le-ltb (length old / 2) (length whole) (omega arith));
        written = λ m' t e. let both : ◌≡◌ {A = ℕ × ℕ} (m, rows_of (pairs new m)) (m', t) = cc in
            let same : m ≡ m' = ap (λ (u : ℕ × ℕ). u.0) both in
            let rows : rows_of (pairs new m) ≡ t = ap (λ (u : ℕ × ℕ). u.1) both in rw (← same) (record {
              list = pairs_as R (λ p. ap (λ (A : List Interval). interval.holds A p) W.front) refl W.later;
              total = sym rows;
            });
        kept = λ no e. impossible cc;
      }

  -- pairs that are canonical as they are written stay
  pub build_counted : (k : ℕ) (mid : List ℕ) (t : ℕ) → length whole ≤ length old / 2 → k ≡ length whole → length mid ≡ length old → Wrote whole old mid
      → rows_answer (pairs mid k) ≡ Ok t → Building pool ws count old mid (Ok (k, t))
  build_counted k mid t h is-k size W told =
      let n : min k (length mid / 2) ≡ k = omega arith in
      let C = rows_canonical (pairs mid k) t told in
      build_whole k mid mid k (Ok (k, t)) h is-k size W (rw n (record {
        canonical = C.0;
        holding = λ x. refl;
        freed = λ i l m. absurd (omega arith);
        later = refl;
      })) (ap (λ (u : ℕ). Ok (k, u)) (sym C.1))

-- ---- the whole call

pub from_refused : (pool ws : List ℕ) (count : ℕ) (old : List ℕ) (r : Refusal) → query_verdict pool ws ≡ Err r
    → FromQueryItems pool ws count old old (Err r)
from_refused pool ws count old r e = record {
  verdict = rw e;
  written = λ m t h. impossible cc;
  kept = λ no h. refl;
}

pub from_built : (pool ws : List ℕ) (count : ℕ) (old new : List ℕ) (r : Answer (ℕ × ℕ)) → Bytes pool → count ≤ last_word → query_verdict pool ws ≡ accepted
    → Building pool ws count old new r → FromQueryItems pool ws count old new r
from_built pool ws count old new r B few e M =
    let rest = (accepts (pool_verdict pool) (and_then (shape_verdict ws 0) (first_bad (position_fault pool) 0 0 (items_of ws)))).0 e in
    let good = (accepts (shape_verdict ws 0) (first_bad (position_fault pool) 0 0 (items_of ws))).0 rest.1 in
    let needed = ranges_needed_lem pool B count few 0 (items_of ws) good.1 in record {
      verdict = rw (e, ← needed) M.verdict;
      written = λ m t h. let w = M.written m t h in record {
        list = pairs_as w.list (ranges_covered pool B count few 0 (items_of ws) good.1) needed refl;
        total = w.total;
      };
      kept = M.kept;
    }
