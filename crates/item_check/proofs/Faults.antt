-- What is wrong with an item: nothing exactly where none of the tests holds, and what an item has with which nothing is. Assumes nothing.
use Prim.Native.Nat.{ℕ, zero, suc, ◌≤◌}
use mathlib.Core.Path.{◌≡◌, refl, sym, ◌∙◌}
use mathlib.Core.Bool.{Bool, true, false, cond, not, ◌&&◌, ◌||◌, or_self, or-false}
use mathlib.Core.List.{List}
use mathlib.Core.Logic.{◌↔◌}
use native.Mathlib.Nat.{le_refl}
use native.Mathlib.Omega.{arith}
use lib.ListN.{length}
use lib.Dec.{eqb, ltb}
use borrow.Author.Tests.{ltb-false, le-ltb, le-leb, eqb-true, not-false}
use Rattle.key_order.proofs.Bools.{both_false}
use Rattle.key_order.proofs.Line.{size}
use Rattle.query_item.specs.declared.KeyAt.{KeyAt}
use Rattle.query_item.specs.declared.ItemWords.{ItemWords}
use Rattle.query_item.specs.declared.QueryItem.{QueryItem}
use Rattle.query_item.specs.declared.QueryItem.TheVariants.{
  Key,
  Range,
  RangeInclusive,
  RangeFull,
  RangeFrom,
  RangeTo,
  RangeToInclusive,
  RangeAfter,
  RangeAfterTo,
  RangeAfterToInclusive,
}
use Rattle.query_item.specs.declared.RangeSetItem.{RangeSetItem}
use Rattle.query_item.specs.declared.RangeSetItem.TheVariants.{Inclusive}
use Rattle.query_item.specs.Items.{item_of, key_at, absent, words_of}
use Rattle.query_item.specs.Boundaries.{key_of, to_range_set, range_of, upright}
use Rattle.query_item.proofs.Laws.{each_code, rank_in, at_most_rank}
use Rattle.item_check.specs.Checks.{has_start, has_end, nonzero, malformed, key_out, keys_out, outside, first_fault, item_fault, upright_fault}

-- ---- one fault before another

pub first_none : (f g : ℕ) → first_fault f g ≡ 0 ↔ ((f ≡ 0) × (g ≡ 0))
first_none zero g = (λ e. (refl, e), λ e. e.1)
first_none (suc f) g = (λ e. absurd (omega arith), λ e. e.0)

pub first_some : (f g : ℕ) → (f ≡ 0 → ⊥) → f ≡ first_fault f g
first_some zero g some = absurd (some refl)
first_some (suc f) g some = refl

-- an item that nothing of 1, 2 is wrong with
pub fault_parts : (pool : List ℕ) (it : ItemWords) → item_fault pool it ≡ 0 → (malformed it ≡ false) × (outside pool it ≡ false)
fault_parts pool it e = go (malformed it) (outside pool it) e
  where
    go : (m o : Bool) → ◌≡◌ {A = ℕ} (cond m 1 (cond o 2 0)) 0 → (m ≡ false) × (o ≡ false)
    go true o e = absurd (omega arith)
    go false true e = absurd (omega arith)
    go false false e = (refl, refl)

-- an item that nothing of 1, 2, 3 is wrong with
pub sound_parts : (pool : List ℕ) (it : ItemWords) → upright_fault pool it ≡ 0
    → (malformed it ≡ false) × (outside pool it ≡ false) × (upright pool (range_of it) ≡ true)
sound_parts pool it e =
    let both = (first_none (item_fault pool it) (cond (upright pool (range_of it)) 0 3)).0 e in
    let parts = fault_parts pool it both.0 in
    (parts.0, parts.1, go (upright pool (range_of it)) both.1)
  where
    go : (u : Bool) → ◌≡◌ {A = ℕ} (cond u 0 3) 0 → u ≡ true
    go true e = refl
    go false e = absurd (omega arith)

-- of the three tests
pub fault_none : (m o u : Bool) → eqb (first_fault (cond m 1 (cond o 2 0)) (cond u 0 3)) 0 ≡ not (m || o) && u
fault_none true o u = refl
fault_none false true u = refl
fault_none false false true = refl
fault_none false false false = refl

-- a key starts where it ends
pub key_upright : (pool : List ℕ) (it : ItemWords) → it.code ≡ 0 → upright pool (range_of it) ≡ true
key_upright pool it e =
    let n = size pool in
    let x = Inclusive it.start in
    rw e (at_most_rank pool n (le_refl n) x x ∙ le-leb _ _ (le_refl (rank_in pool n (le_refl n) x)))

-- ---- what an item has that is not malformed: a known code and wrapper, and the absent key for a key that it does not have

pub record Formed (it : ItemWords) : Type 0 where
  pub known : it.code ≤ 9
  pub known_wrapper : it.wrapper ≤ 3
  pub no_start : has_start it.code ≡ false → it.start ≡ absent
  pub no_end : has_end it.code ≡ false → it.end ≡ absent

pub zero_absent : (k : KeyAt) → nonzero k ≡ false → k ≡ absent
zero_absent k w =
    let b = (both_false (not (eqb k.offset 0)) (not (eqb k.length 0))).0 w in
    let o = eqb-true k.offset 0 (not-false (eqb k.offset 0) b.0) in
    let l = eqb-true k.length 0 (not-false (eqb k.length 0) b.1) in
    λ j. key_at (o j) (l j)

pub formed_parts : (it : ItemWords) → malformed it ≡ false → Formed it
formed_parts it h =
    let codes = ltb 9 it.code || ltb 3 it.wrapper in
    let start = not (has_start it.code) && nonzero it.start in
    let last = (both_false (codes || start) (not (has_end it.code) && nonzero it.end)).0 h in
    let third = (both_false codes start).0 last.0 in
    let first = (both_false (ltb 9 it.code) (ltb 3 it.wrapper)).0 third.0 in
    record {
      known = ltb-false 9 it.code first.0;
      known_wrapper = ltb-false 3 it.wrapper first.1;
      no_start = λ e. zero_absent it.start (rw e at third.1);
      no_end = λ e. zero_absent it.end (rw e at last.1);
    }

pub formed_by : (it : ItemWords) → Formed it → malformed it ≡ false
formed_by it f = rw (
  le-ltb 9 it.code f.known,
  le-ltb 3 it.wrapper f.known_wrapper,
  side (has_start it.code) it.start f.no_start,
  side (has_end it.code) it.end f.no_end,
)
  where
    side : (has : Bool) (k : KeyAt) → (has ≡ false → k ≡ absent) → not has && nonzero k ≡ false
    side true k h = refl
    side false k h = rw (h refl)

-- the words of an item are well formed
pub words_formed : (q : QueryItem) → malformed (words_of 0 q) ≡ false
words_formed (Key a) = refl
words_formed (Range a b) = refl
words_formed (RangeInclusive a b) = refl
words_formed RangeFull = refl
words_formed (RangeFrom a) = refl
words_formed (RangeTo b) = refl
words_formed (RangeToInclusive b) = refl
words_formed (RangeAfter a) = refl
words_formed (RangeAfterTo a b) = refl
words_formed (RangeAfterToInclusive a b) = refl

-- ---- the keys of an item that is not malformed lie in the pool exactly where those of its boundaries do

-- the key of a boundary lies in the pool
abbrev pub KeyIn : List ℕ → RangeSetItem → Type 0
KeyIn pool x = key_out pool (key_of x) ≡ false

module _ (pool : List ℕ) where
  pub absent_in : key_out pool absent ≡ false
  absent_in = rw (le-ltb (length pool) 0 (omega arith))

  module _ (a b : KeyAt) where
    abbrev ByWords : ℕ → Type 0
    ByWords c =
        (has_start c ≡ false → a ≡ absent) → (has_end c ≡ false → b ≡ absent)
        → keys_out pool (to_range_set (item_of c a b)) ≡ key_out pool a || key_out pool b

    by_words : (c : ℕ) → c ≤ 9 → ByWords c
    by_words =
        let x = key_out pool a in
        let in_pool : (k : KeyAt) → k ≡ absent → key_out pool k ≡ false = (λ k e. rw e absent_in) in
        each_code ByWords
        (λ s e. or_self x ∙ sym (rw (in_pool b (e refl)) (or-false x)))
        (λ s e. refl)
        (λ s e. refl)
        (λ s e. rw (in_pool a (s refl), in_pool b (e refl), absent_in))
        (λ s e. rw (in_pool b (e refl), absent_in))
        (λ s e. rw (in_pool a (s refl), absent_in))
        (λ s e. rw (in_pool a (s refl), absent_in))
        (λ s e. rw (in_pool b (e refl), absent_in))
        (λ s e. refl)
        (λ s e. refl)

  module _ (it : ItemWords) where
    pub inside_keys : outside pool it ≡ false → KeyIn pool (range_of it).start × KeyIn pool (range_of it).end
    inside_keys o = (both_false (key_out pool (key_of (range_of it).start)) (key_out pool (key_of (range_of it).end))).0 o

    pub outside_words : malformed it ≡ false → outside pool it ≡ key_out pool it.start || key_out pool it.end
    outside_words h = let f = formed_parts it h in by_words it.start it.end it.code f.known f.no_start f.no_end

    -- whether an item is refused with 1 or 2 may be asked of its words
    pub bad_words : malformed it || (key_out pool it.start || key_out pool it.end) ≡ malformed it || outside pool it
    bad_words = go (malformed it) refl
      where
        go : (m : Bool) → malformed it ≡ m → m || (key_out pool it.start || key_out pool it.end) ≡ m || outside pool it
        go true e = refl
        go false e = sym (outside_words e)

    -- nothing of 1, 2 is wrong with an item exactly where it is well formed and both keys lie in the pool

    pub fault_by : Formed it → key_out pool it.start ≡ false → key_out pool it.end ≡ false → item_fault pool it ≡ 0
    fault_by f s e = let h = formed_by it f in rw (h, outside_words h, s, e)

    pub keys_in : item_fault pool it ≡ 0 → (key_out pool it.start ≡ false) × (key_out pool it.end ≡ false)
    keys_in e =
        let parts = fault_parts pool it e in
        (both_false (key_out pool it.start) (key_out pool it.end)).0 (sym (outside_words parts.0) ∙ parts.1)
