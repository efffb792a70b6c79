-- What the check of a list accepts: whole items, not too many, each of which is sound, in order. Assumes nothing.
use Rattle.std.specs.Prelude.{Ok, Err}
use Rattle.std.specs.Ordering.{is_lt}
use Prim.Native.Nat.{ℕ, suc, ◌/◌, ◌%◌, ◌≤◌}
use mathlib.Core.Path.{◌≡◌, refl, sym}
use mathlib.Core.Bool.{Bool, true, false, not, cond, ◌||◌, true≢false}
use mathlib.Core.List.{List, [], ◌∷◌}
use mathlib.Core.Logic.{◌↔◌}
use lib.ListN.{length}
use lib.Dec.{eqb, ltb}
use borrow.Author.Tests.{ltb-false, le-ltb, eqb-true, eq-eqb, not-false}
use Rattle.key_order.proofs.Impossible.{impossible}
use Rattle.key_order.proofs.Bools.{both_false}
use Rattle.query_item.specs.declared.ItemWords.{ItemWords}
use Rattle.query_item.specs.declared.RangeSetItem.{RangeSetItem}
use Rattle.query_item.specs.Items.{item_size}
use Rattle.query_item.specs.Boundaries.{compare_in, range_of}
use Rattle.intervals.proofs.Laws.{All}
use Rattle.item_check.proofs.Scans.{fault_passes}
use Rattle.item_check.specs.declared.Refusal.{Refusal}
use Rattle.item_check.specs.Checks.{Answer, Verdict, refusal, accepted, and_then, words_by, most_items, most_pool, upright_fault, fault_at}
use Rattle.item_check.specs.Checks.{pool_verdict, shape_verdict, first_bad, first_break, strict_verdict, items_of, whole_verdict, list_verdict}

-- each item is sound: nothing of 1, 2, 3 is wrong with it
abbrev pub AllSound : List ℕ → List ItemWords → Type 0
AllSound pool its = All (λ it. upright_fault pool it ≡ 0) its

-- each item starts above the end of the one before it, the first above e
abbrev pub Following : List ℕ → RangeSetItem → List ItemWords → Type 0
Following pool e [] = Unit {0}
Following pool e (it ∷ its) = (is_lt (compare_in pool e (range_of it).start) ≡ true) × Following pool (range_of it).end its

abbrev pub InOrder : List ℕ → List ItemWords → Type 0
InOrder pool [] = Unit {0}
InOrder pool (it ∷ its) = Following pool (range_of it).end its

-- what a user of an accepted list has
pub record AcceptedList (pool ws : List ℕ) : Type 0 where
  pub whole : length ws % item_size ≡ 0
  pub few : length ws / item_size ≤ most_items
  pub sound : AllSound pool (items_of ws)
  pub in_order : InOrder pool (items_of ws)

-- ---- both checks pass exactly where both do

pub accepts : (v w : Verdict) → and_then v w ≡ accepted ↔ ((v ≡ accepted) × (w ≡ accepted))
accepts (Ok u) w = (λ e. (refl, e), λ e. e.1)
accepts (Err r) w = (λ e. (e, cc), λ e. e.0)

-- a call that answers has passed its first check, and what comes after it answers
pub answers : {A : Type 0} (v : Verdict) (a : Answer A) (p : A) → and_then v a ≡ Ok p → (v ≡ accepted) × (a ≡ Ok p)
answers (Ok u) a p e = (refl, e)
answers (Err r) a p e = impossible cc

-- what a call leaves in words lent to it, where it refuses and where it answers

pub words_refused : {A : Type 0} {a : Answer A} {r : Refusal} → a ≡ Err r → (before after : List ℕ) → words_by a before after ≡ before
words_refused e before after = rw e

pub words_answered : {A : Type 0} {r : Answer A} {a : A} → r ≡ Ok a → (before after : List ℕ) → words_by r before after ≡ after
words_answered e before after = rw e

tested : (t : Bool) (v : Verdict) (r : Refusal) → cond t v (Err r) ≡ accepted ↔ ((t ≡ true) × (v ≡ accepted))
tested true v r = (λ e. (refl, e), λ e. e.1)
tested false v r = (λ e. (cc, cc), λ e. absurd (true≢false (sym e.0)))

pub refuses : (t : Bool) (r : Refusal) → cond t (Err r) accepted ≡ accepted ↔ t ≡ false
refuses true r = (λ e. cc, λ e. cc)
refuses false r = (λ e. refl, λ e. refl)

-- ---- a list

pub items_pass : (fault : ItemWords → ℕ) (side i : ℕ) (its : List ItemWords)
    → first_bad fault side i its ≡ accepted ↔ All (λ it. fault it ≡ 0) its
unfolding first_bad
items_pass fault side i [] = (λ e. tt, λ e. refl)
items_pass fault side i (it ∷ its) =
    let both = accepts (fault_at (fault it) side i) (first_bad fault side (suc i) its) in
    let one = fault_passes (fault it) side i in
    let rest = items_pass fault side (suc i) its in
    (λ e. let b = both.0 e in (one.0 b.0, rest.0 b.1), λ e. both.1 (one.1 e.0, rest.1 e.1))

pub shape_passes : (ws : List ℕ) (side : ℕ)
    → shape_verdict ws side ≡ accepted ↔ ((length ws % item_size ≡ 0) × (length ws / item_size ≤ most_items))
shape_passes ws side =
    let one = refuses (not (eqb (length ws % item_size) 0) || ltb most_items (length ws / item_size)) (refusal 1 side 0) in
    let both = both_false (not (eqb (length ws % item_size) 0)) (ltb most_items (length ws / item_size)) in (
      λ e. let b = both.0 (one.0 e) in (eqb-true _ 0 (not-false _ b.0), ltb-false _ _ b.1),
      λ p. one.1 (both.1 (rw (eq-eqb _ 0 p.0), le-ltb _ _ p.1)),
    )

module _ (pool : List ℕ) (side : ℕ) where
  following_pass : (i : ℕ) (e : RangeSetItem) (its : List ItemWords) → first_break pool side i e its ≡ accepted ↔ Following pool e its
  unfolding first_break
  following_pass i e [] = (λ p. tt, λ p. refl)
  following_pass i e (it ∷ its) =
      let both = tested (is_lt (compare_in pool e (range_of it).start)) (first_break pool side (suc i) (range_of it).end its) (refusal 4 side i) in
      let rest = following_pass (suc i) (range_of it).end its in
      (λ p. let b = both.0 p in (b.0, rest.0 b.1), λ p. both.1 (p.0, rest.1 p.1))

  order_passes : (its : List ItemWords) → strict_verdict pool side its ≡ accepted ↔ InOrder pool its
  unfolding strict_verdict
  order_passes [] = (λ p. tt, λ p. refl)
  order_passes (it ∷ its) = following_pass 1 (range_of it).end its

  module _ (ws : List ℕ) where
    pub accepted_list : list_verdict pool ws side ≡ accepted ↔ AcceptedList pool ws
    accepted_list =
        let shape = accepts (shape_verdict ws side) (whole_verdict pool ws side) in
        let sound = items_pass (upright_fault pool) side 0 (items_of ws) in
        let whole = shape_passes ws side in
        let body = accepts (first_bad (upright_fault pool) side 0 (items_of ws)) (strict_verdict pool side (items_of ws)) in (
          λ e.
              let s = shape.0 e in
              let b = body.0 s.1 in
              record {
                whole = (whole.0 s.0).0;
                few = (whole.0 s.0).1;
                sound = sound.0 b.0;
                in_order = (order_passes (items_of ws)).0 b.1;
              },
          λ a. shape.1 (whole.1 (a.whole, a.few), body.1 (sound.1 a.sound, (order_passes (items_of ws)).1 a.in_order)),
        )

pub pool_passes : (pool : List ℕ) → pool_verdict pool ≡ accepted ↔ length pool ≤ most_pool
pool_passes pool =
    let one = refuses (ltb most_pool (length pool)) (refusal 1 0 0) in
    (λ e. ltb-false _ _ (one.0 e), λ h. one.1 (le-ltb _ _ h))
