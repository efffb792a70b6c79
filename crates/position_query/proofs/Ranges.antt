-- The ranges of position items: which positions an item with good keys holds, which items have a bad key, and what the nonempty clipped
-- ranges of accepted items are. Assumes nothing.
use Rattle.std.specs.Prelude.{Ok, Err}
use Rattle.std.specs.Ordering.{is_eq}
use Rattle.std.specs.declared.cmp.Ordering.TheVariants.{Less, Equal, Greater}
use Rattle.std.specs.declared.cmp.Ordering.{Ordering}
use Prim.Native.Nat.{ℕ, zero, suc, ◌+◌, ◌≤◌, ◌<◌, min}
use mathlib.Core.Path.{◌≡◌, refl, sym, ◌∙◌}
use mathlib.Core.Bool.{Bool, true, false, cond, not, ◌&&◌, ◌||◌, and-true, false≢true, and-or_distrib_left, and-false}
use mathlib.Core.List.{List, [], ◌∷◌, ◌++◌}
use native.Mathlib.Decide.{dec_lt, ℕ_discrete}
use native.Mathlib.Omega.{arith}
use lib.ListN.{length, drop, get_or-eq_default, length-take}
use lib.Seq.{get_or-take, get_or-drop}
use lib.Dec.{leb, ltb, eqb}
use borrow.Author.Tests.{lt-ltb, le-ltb, le-leb, lt-leb, eq-eqb, ne_eqb, eqb-true}
use Rattle.key_order.proofs.Impossible.{impossible}
use Rattle.key_order.specs.Order.{compare_keys}
use Rattle.key_order.proofs.Numbers.{Says, says_less, says_at_most}
use Rattle.intervals.specs.Intervals.{Interval, inside, piece}
use Rattle.intervals.specs.Intervals as interval
use Rattle.intervals.proofs.Members.{where_is, below, in_it, past, inside_below, inside_yes, inside_past}
use Rattle.intervals.proofs.Laws.{piece_some, piece_none, holds_append, holds_piece}
use Rattle.query_item.specs.declared.RangeSet.{RangeSet}
use Rattle.query_item.specs.declared.KeyAt.{KeyAt}
use Rattle.query_item.specs.declared.ItemWords.{ItemWords}
use Rattle.query_item.specs.declared.QueryItem.{QueryItem}
use Rattle.query_item.specs.declared.QueryItem.TheVariants as item
use Rattle.query_item.specs.Items.{bytes_of, same, at_most, holds, item_of, query_item}
use Rattle.query_item.specs.Items as table
use Rattle.query_item.specs.Boundaries.{to_range_set, range_of}
use Rattle.item_check.specs.Checks.{Answer, refused, accepted, has_start, has_end, malformed, wrapped, item_fault, fault_at, first_bad}
use Rattle.query_item.proofs.Laws.{each_code}
use Rattle.item_check.proofs.Laws.{accepts, fault_passes, first_none, fault_parts, formed_parts}
use Rattle.key_order.specs.Words.{be}
use Rattle.position_key.specs.Keys.{key_size, position_key, position_answer}
use Rattle.position_query.specs.Covered.{holds_position, some_holds, covered, no_position, bad_key, position_fault, any_below, ranges_needed}
use Rattle.position_given.specs.Inner.{last_word}
use Rattle.position_query.specs.Ranges.{after_of, first_of, past_of, both_of, range_answer, clip_to, clipped, ranges}
use Rattle.key_order.proofs.Words.{Bytes, be_says}
use Rattle.position_key.proofs.Keys.{bytes_length, bytes_small, be_position}

-- ---- keys of a pool

pub bytes_part : (pool : List ℕ) (k : KeyAt) → Bytes pool → Bytes (bytes_of pool k)
bytes_part pool k b = record {
  small = λ i. elim (dec_lt i k.length) [
    | yes h ↦ rw (get_or-take k.length (drop k.offset pool) i 0 h, get_or-drop k.offset pool i 0) (b.small (k.offset + i))
    | no h ↦ rw (get_or-eq_default (bytes_of pool k) 0 {n = i} (omega (arith, length-take k.length (drop k.offset pool)))) (omega arith)
  ];
}

-- what an answer says of a key
position_is : (k : List ℕ) (s : ℕ) → position_answer k ≡ Ok s → (length k ≡ key_size) × (be k ≡ s)
position_is k s e = go (eqb (length k) key_size) refl e
  where
    go : (t : Bool) → eqb (length k) key_size ≡ t → cond t (Ok (be k)) (refused 7 0 0) ≡ Ok s → (length k ≡ key_size) × (be k ≡ s)
    go true p q = (eqb-true (length k) key_size p, cc)
    go false p q = impossible cc

after_is : (a : Answer ℕ) (s : ℕ) → after_of a ≡ Ok s → (p : ℕ) → a ≡ Ok p → s ≡ min (p + 1) last_word
after_is (Ok q) s e p h = let u : min (q + 1) last_word ≡ s = cc in let v : q ≡ p = cc in omega arith
after_is (Err r) s e p h = impossible cc

after_some : (a : Answer ℕ) (s : ℕ) → after_of a ≡ Ok s → (p : ℕ) × (a ≡ Ok p)
after_some (Ok q) s e = (q, refl)
after_some (Err r) s e = impossible cc

-- ---- a key and the key of a position stand as their numbers do

says_equal : (o : Ordering) (m n : ℕ) → Says o m n → is_eq o ≡ eqb m n
says_equal Less m n h = sym (ne_eqb m n (λ e. omega arith))
says_equal Equal m n h = sym (eq-eqb m n h)
says_equal Greater m n h = sym (ne_eqb m n (λ e. omega arith))

module _ (k : List ℕ) (b : Bytes k) (p : ℕ) (l : p < last_word) where
  position_says : (s : ℕ) → position_answer k ≡ Ok s → Says (compare_keys k (position_key p)) s p
  position_says s e =
      let is = position_is k s e in
      rw (is.1, be_position p (omega arith)) at (be_says k (position_key p) (is.0 ∙ sym (bytes_length key_size p)) b (bytes_small key_size p))

  says_position : (s : ℕ) → position_answer k ≡ Ok s → Says (compare_keys (position_key p) k) p s
  says_position s e =
      let is = position_is k s e in
      rw (is.1, be_position p (omega arith)) at (be_says (position_key p) k (bytes_length key_size p ∙ sym is.0) (bytes_small key_size p) b)

  from_key : (s : ℕ) → position_answer k ≡ Ok s → at_most k (position_key p) ≡ leb s p
  from_key s e = says_at_most (compare_keys k (position_key p)) s p (position_says s e)

  after_key_lem : (s : ℕ) → after_of (position_answer k) ≡ Ok s → table.below k (position_key p) ≡ leb s p
  after_key_lem s e =
      let q = after_some (position_answer k) s e in
      let is = after_is (position_answer k) s e q.0 q.1 in
      says_less (compare_keys k (position_key p)) q.0 p (position_says q.0 q.1) ∙ elim (dec_lt q.0 p) [
        | yes h ↦ lt-ltb q.0 p h ∙ sym (le-leb s p (omega arith))
        | no h ↦ le-ltb q.0 p (omega arith) ∙ sym (lt-leb s p (omega arith))
      ]

  to_key : (e : ℕ) → position_answer k ≡ Ok e → table.below (position_key p) k ≡ ltb p e
  to_key e h = says_less (compare_keys (position_key p) k) p e (says_position e h)

  through_key : (e : ℕ) → after_of (position_answer k) ≡ Ok e → at_most (position_key p) k ≡ ltb p e
  through_key e h =
      let q = after_some (position_answer k) e h in
      let is = after_is (position_answer k) e h q.0 q.1 in
      says_at_most (compare_keys (position_key p) k) p q.0 (says_position q.0 q.1) ∙ elim (dec_lt q.0 p) [
        | yes u ↦ lt-leb p q.0 u ∙ sym (le-ltb p e (omega arith))
        | no u ↦ le-leb p q.0 (omega arith) ∙ sym (lt-ltb p e (omega arith))
      ]

  at_key : (s e : ℕ) → position_answer k ≡ Ok s → after_of (position_answer k) ≡ Ok e → same (position_key p) k ≡ leb s p && ltb p e
  at_key s e g h =
      let is = after_is (position_answer k) e h s g in
      says_equal (compare_keys (position_key p) k) p s (says_position s g) ∙ elim (ℕ_discrete p s) [
        | yes u ↦ eq-eqb p s u ∙ sym (rw (le-leb s p (omega arith), lt-ltb p e (omega arith)))
        | no u ↦ ne_eqb p s u ∙ sym (elim (dec_lt p s) [
          | yes v ↦ rw (lt-leb s p v)
          | no v ↦
              let above : s + 1 ≤ p = elim (dec_lt s p) [ yes w ↦ omega arith | no w ↦ absurd (u (omega arith)) ] in
              rw (le-ltb p e (omega arith), and-false)
        ])
      ]

-- an item with good keys holds the positions of its range
pub item_held : (pool : List ℕ) → Bytes pool → (q : QueryItem) (s e p : ℕ) → first_of pool (to_range_set q).start ≡ Ok s
    → past_of pool (to_range_set q).end ≡ Ok e → p < last_word → holds pool q (position_key p) ≡ inside s e p
unfolding inside
item_held pool B (item.Key a) s e p f t l = at_key (bytes_of pool a) (bytes_part pool a B) p l s e f t
item_held pool B (item.Range a b) s e p f t l =
    rw (from_key (bytes_of pool a) (bytes_part pool a B) p l s f, to_key (bytes_of pool b) (bytes_part pool b B) p l e t)
item_held pool B (item.RangeInclusive a b) s e p f t l =
    rw (from_key (bytes_of pool a) (bytes_part pool a B) p l s f, through_key (bytes_of pool b) (bytes_part pool b B) p l e t)
item_held pool B item.RangeFull s e p f t l =
    let u : 0 ≡ s = cc in let v : last_word ≡ e = cc in sym (rw (le-leb s p (omega arith), lt-ltb p e (omega arith)))
item_held pool B (item.RangeFrom a) s e p f t l =
    let v : last_word ≡ e = cc in from_key (bytes_of pool a) (bytes_part pool a B) p l s f ∙ sym (rw (lt-ltb p e (omega arith), and-true))
item_held pool B (item.RangeTo b) s e p f t l =
    let u : 0 ≡ s = cc in rw (le-leb s p (omega arith)) (to_key (bytes_of pool b) (bytes_part pool b B) p l e t)
item_held pool B (item.RangeToInclusive b) s e p f t l =
    let u : 0 ≡ s = cc in rw (le-leb s p (omega arith)) (through_key (bytes_of pool b) (bytes_part pool b B) p l e t)
item_held pool B (item.RangeAfter a) s e p f t l =
    let v : last_word ≡ e = cc in after_key_lem (bytes_of pool a) (bytes_part pool a B) p l s f ∙ sym (rw (lt-ltb p e (omega arith), and-true))
item_held pool B (item.RangeAfterTo a b) s e p f t l =
    rw (after_key_lem (bytes_of pool a) (bytes_part pool a B) p l s f, to_key (bytes_of pool b) (bytes_part pool b B) p l e t)
item_held pool B (item.RangeAfterToInclusive a b) s e p f t l =
    rw (after_key_lem (bytes_of pool a) (bytes_part pool a B) p l s f, through_key (bytes_of pool b) (bytes_part pool b B) p l e t)

-- ---- bad keys

abbrev is_refused : {A : Type 0} → Answer A → Bool
is_refused (Ok a) = false
is_refused (Err r) = true

refused_both : (x y : Answer ℕ) → is_refused (both_of x y) ≡ is_refused x || is_refused y
refused_both (Ok s) (Ok e) = refl
refused_both (Ok s) (Err r) = refl
refused_both (Err r) y = refl

refused_after : (x : Answer ℕ) → is_refused (after_of x) ≡ is_refused x
refused_after (Ok s) = refl
refused_after (Err r) = refl

refused_key : (k : List ℕ) → is_refused (position_answer k) ≡ not (eqb (length k) key_size)
refused_key k = go (eqb (length k) key_size)
  where
    go : (t : Bool) → is_refused (cond t (Ok (be k)) (refused 7 0 0)) ≡ not t
    go true = refl
    go false = refl

module _ (pool : List ℕ) (a b : KeyAt) where
  abbrev Bad : ℕ → Type 0
  Bad c = (has_start c && no_position pool a) || (has_end c && no_position pool b) ≡ is_refused (range_answer pool (to_range_set (item_of c a b)))

  or_self : (t : Bool) → t || false ≡ t || t
  or_self true = refl
  or_self false = refl

  bad_code : (c : ℕ) → c ≤ 9 → Bad c
  bad_code =
      let x = position_answer (bytes_of pool a) in
      let y = position_answer (bytes_of pool b) in
      let A = refused_key (bytes_of pool a) in
      let B = refused_key (bytes_of pool b) in
      each_code Bad
      (sym (refused_both x (after_of x) ∙ rw (refused_after x, A) (sym (or_self (no_position pool a)))))
      (sym (refused_both x y ∙ rw (A, B)))
      (sym (refused_both x (after_of y) ∙ rw (refused_after y, A, B)))
      refl
      (sym (refused_both x (Ok last_word) ∙ rw A))
      (sym (refused_both (Ok 0) y ∙ rw B))
      (sym (refused_both (Ok 0) (after_of y) ∙ rw (refused_after y, B)))
      (sym (refused_both (after_of x) (Ok last_word) ∙ rw (refused_after x, A)))
      (sym (refused_both (after_of x) y ∙ rw (refused_after x, A, B)))
      (sym (refused_both (after_of x) (after_of y) ∙ rw (refused_after x, refused_after y, A, B)))

-- a known item has a bad key exactly where its range is refused
bad_range : (pool : List ℕ) (it : ItemWords) → malformed it ≡ false → bad_key pool it ≡ is_refused (range_answer pool (range_of it))
bad_range pool it h = bad_code pool it.start it.end it.code (formed_parts it h).known

-- nothing is wrong with an item whose fault is 0
clean : (pool : List ℕ) (it : ItemWords) → position_fault pool it ≡ 0 → (malformed it ≡ false) × (bad_key pool it ≡ false)
clean pool it h =
    let both = (first_none (item_fault pool it) (cond (wrapped it) 5 (cond (bad_key pool it) 7 0))).0 h in
    ((fault_parts pool it both.0).0, go (wrapped it) (bad_key pool it) both.1)
  where
    go : (w b : Bool) → ◌≡◌ {A = ℕ} (cond w 5 (cond b 7 0)) 0 → b ≡ false
    go true b e = absurd (omega arith)
    go false true e = absurd (omega arith)
    go false false e = refl

-- ---- an item's range

pub clipped_of : (pool : List ℕ) (count : ℕ) (it : ItemWords) (set : RangeSet) (x y : Answer ℕ) → set ≡ range_of it → x ≡ first_of pool set.start → y ≡ past_of pool set.end
    → clipped pool count it ≡ clip_to count (both_of x y)
clipped_of pool count it set x y is p q = rw (← is, p, q)

-- ---- an item's clipped range

parts : (x y : Answer ℕ) → is_refused (both_of x y) ≡ false → (s : ℕ) × (e : ℕ) × (x ≡ Ok s) × (y ≡ Ok e)
parts (Ok s) (Ok e) h = (s, e, refl, refl)
parts (Ok s) (Err r) h = absurd (false≢true (sym h))
parts (Err r) y h = absurd (false≢true (sym h))

any_inside : (f : ℕ → Bool) (s e n : ℕ) → ((p : ℕ) → p < n → f p ≡ inside s e p) → any_below f n ≡ ltb s (min e n)
unfolding any_below
any_inside f s e zero h = sym (le-ltb s (min e 0) (omega arith))
any_inside f s e (suc n) h = rw (h n (omega arith), any_inside f s e n (λ p l. h p (omega arith))) (elim (where_is s e n) [
  | below k ↦ rw (inside_below s e n k) (le-ltb s (min e n) (omega arith) ∙ sym (le-ltb s (min e (suc n)) (omega arith)))
  | in_it j k ↦ rw (inside_yes s e n j k) (sym (lt-ltb s (min e (suc n)) (omega arith)))
  | past k ↦ rw (inside_past s e n k) (let q : min e (suc n) ≡ min e n = omega arith in rw q)
])

module _ (pool : List ℕ) (B : Bytes pool) (count : ℕ) (few : count ≤ last_word) where
  clip_both : (x y : Answer ℕ) (s e : ℕ) → x ≡ Ok s → y ≡ Ok e → clip_to count (both_of x y) ≡ (s, min e count)
  clip_both x y s e p q = rw (p, q)

  module _ (it : ItemWords) (good : position_fault pool it ≡ 0) where
    found : (s : ℕ) × (e : ℕ) × (first_of pool (range_of it).start ≡ Ok s) × (past_of pool (range_of it).end ≡ Ok e)
    found = parts (first_of pool (range_of it).start) (past_of pool (range_of it).end) (sym (bad_range pool it (clean pool it good).0) ∙ (clean pool it good).1)

    clipped_is : clipped pool count it ≡ (found.0, min found.1 count)
    clipped_is = clip_both (first_of pool (range_of it).start) (past_of pool (range_of it).end) found.0 found.1 found.2 found.3

    held : (p : ℕ) → p < count → holds_position pool it p ≡ inside found.0 found.1 p
    unfolding holds_position
    held p l = item_held pool B (query_item it) found.0 found.1 p found.2 found.3 (omega arith)

    -- the clipped range has the positions below the count that the item holds
    clipped_held : (p : ℕ) → inside (clipped pool count it).0 (clipped pool count it).1 p ≡ ltb p count && holds_position pool it p
    clipped_held p = rw clipped_is (elim (dec_lt p count) [
      | yes h ↦ rw (lt-ltb p count h, held p h) (cut found.0 found.1 p h)
      | no h ↦ rw (le-ltb p count (omega arith)) (inside_past found.0 (min found.1 count) p (omega arith))
    ])
      where
        cut : (s e p : ℕ) → p < count → inside s (min e count) p ≡ inside s e p
        cut s e p h = elim (where_is s e p) [
          | below k ↦ inside_below s (min e count) p k ∙ sym (inside_below s e p k)
          | in_it j k ↦ inside_yes s (min e count) p j (omega arith) ∙ sym (inside_yes s e p j k)
          | past k ↦ inside_past s (min e count) p (omega arith) ∙ sym (inside_past s e p k)
        ]

    -- it is nonempty exactly where the item holds some position below the count
    clipped_some : any_below (holds_position pool it) count ≡ ltb (clipped pool count it).0 (clipped pool count it).1
    clipped_some = any_inside (holds_position pool it) found.0 found.1 count held ∙ sym (rw clipped_is)

  -- ---- the ranges of accepted items

  pub ranges_covered : (i : ℕ) (its : List ItemWords) → first_bad (position_fault pool) 0 i its ≡ accepted
      → (p : ℕ) → interval.holds (ranges pool count its) p ≡ covered pool its count p
  unfolding first_bad ranges covered some_holds interval.holds
  ranges_covered i [] h p = rw and-false
  ranges_covered i (it ∷ its) h p =
      let both = (accepts (fault_at (position_fault pool it) 0 i) (first_bad (position_fault pool) 0 (suc i) its)).0 h in
      let good = (fault_passes (position_fault pool it) 0 i).0 both.0 in
      rw (
        holds_append (piece (clipped pool count it).0 (clipped pool count it).1) (ranges pool count its) p,
        holds_piece (clipped pool count it).0 (clipped pool count it).1 p,
        clipped_held it good p,
        ranges_covered (suc i) its both.1 p,
      ) (sym (and-or_distrib_left (ltb p count) (holds_position pool it p) (some_holds pool its p)))

  pub ranges_needed_lem : (i : ℕ) (its : List ItemWords) → first_bad (position_fault pool) 0 i its ≡ accepted → length (ranges pool count its) ≡ ranges_needed pool count its
  unfolding first_bad ranges ranges_needed
  ranges_needed_lem i [] h = refl
  ranges_needed_lem i (it ∷ its) h =
      let both = (accepts (fault_at (position_fault pool it) 0 i) (first_bad (position_fault pool) 0 (suc i) its)).0 h in
      let good = (fault_passes (position_fault pool it) 0 i).0 both.0 in
      rw (clipped_some it good, ← ranges_needed_lem (suc i) its both.1) (one (clipped pool count it).0 (clipped pool count it).1 (ranges pool count its))
    where
      one : (s e : ℕ) (A : List Interval) → length (piece s e ++ A) ≡ cond (ltb s e) (suc (length A)) (length A)
      one s e A = elim (dec_lt s e) [
        | yes h ↦ rw (piece_some s e h, lt-ltb s e h)
        | no h ↦ rw (piece_none s e (omega arith), le-ltb s e (omega arith))
      ]
