-- A number of the C interface stands for one answer alone, and what is written is read back. Assumes nothing.
use Rattle.std.specs.declared.cmp.Ordering.{Ordering}
use Prim.Native.Nat.{ℕ, zero, suc, ◌≤◌, ◌<◌}
use mathlib.Core.Path.{◌≡◌, refl, sym, ap, ◌∙◌}
use mathlib.Core.Bool.{true, false, ◌&&◌}
use native.Mathlib.Omega.{arith}
use borrow.Author.Tests.{leb-true}
use Rattle.query_item.specs.declared.RangeSetItem.{RangeSetItem}
use Rattle.query_item.specs.declared.RangeSetItem.TheVariants.{UnboundedStart, UnboundedEnd, Inclusive, ExclusiveStart, ExclusiveEnd}
use Rattle.query_item.specs.declared.RangeSet.{RangeSet}
use Rattle.query_item.specs.Boundaries.{kind_of, key_of, with_key}
use Rattle.query_item.proofs.Laws.{with_own_key}
use Rattle.range_borrowed.specs.Kinds.{kind_number, kind_numbered}
use Rattle.item_check.specs.declared.Refusal.{Refusal}
use Rattle.item_check.specs.Checks.{accepted, nonzero}
-- the kind of a kind's number is that kind
pub use Rattle.range_borrowed.proofs.Laws.{kind_of_number}
use Rattle.key_order.specs.Order.{order_number, number_order}
use Rattle.key_order.proofs.Numbers.{order_number_lem}
use Rattle.fernsponge.specs.Answers.{is_kind, is_unbounded, set_words, set_of_words, set_numbers, set_words_in, most_index, refusal_number}
use Rattle.fernsponge.specs.Calls.{set_words_verdict}

pub order_number_apart : (o p : Ordering) → order_number o ≡ order_number p → o ≡ p
order_number_apart o p e = sym (order_number_lem o) ∙ ap number_order e ∙ order_number_lem p

-- the number of a number's kind is that number
pub number_of_kind : (n : ℕ) → is_kind n ≡ true → kind_number (kind_numbered n) ≡ n
number_of_kind zero e = refl
number_of_kind (suc zero) e = refl
number_of_kind (suc (suc zero)) e = refl
number_of_kind (suc (suc (suc zero))) e = refl
number_of_kind (suc (suc (suc (suc zero)))) e = refl
number_of_kind (suc (suc (suc (suc (suc n))))) e = absurd (omega (arith, leb-true (suc (suc (suc (suc (suc n))))) 4 e))

with_own_number : (x : RangeSetItem) → with_key (kind_numbered (kind_number (kind_of x))) (key_of x) ≡ x
with_own_number x = rw (kind_of_number (kind_of x)) (with_own_key x)

-- two boundaries are read from their words as they are, and the words from their numbers

pub words_of_own_numbers : (s : RangeSet) → set_words_in (set_numbers s) ≡ set_words s
unfolding set_words_in set_words
words_of_own_numbers s = refl

pub set_of_own_words : (s : RangeSet) → set_of_words (set_words s) ≡ s
unfolding set_of_words set_words
set_of_own_words s = rw (with_own_number s.start, with_own_number s.end)

kind_own : (x : RangeSetItem) → is_kind (kind_number (kind_of x)) ≡ true
kind_own UnboundedStart = refl
kind_own UnboundedEnd = refl
kind_own (Inclusive k) = refl
kind_own (ExclusiveStart k) = refl
kind_own (ExclusiveEnd k) = refl

key_own : (x : RangeSetItem) → is_unbounded (kind_number (kind_of x)) && nonzero (key_of x) ≡ false
key_own UnboundedStart = refl
key_own UnboundedEnd = refl
key_own (Inclusive k) = refl
key_own (ExclusiveStart k) = refl
key_own (ExclusiveEnd k) = refl

-- and their words are not refused
pub own_words_taken : (s : RangeSet) → set_words_verdict (set_words s) ≡ accepted
unfolding set_words
own_words_taken s = rw (kind_own s.start, kind_own s.end, key_own s.start, key_own s.end)

-- two refusals have two numbers, and none has that of acceptance
module _ (r t : Refusal) where
  pub refusal_number_apart : r.number < 256 → r.side < 256 → r.index ≤ most_index → t.number < 256 → t.side < 256 → t.index ≤ most_index
      → refusal_number r ≡ refusal_number t → (r.number ≡ t.number) × (r.side ≡ t.side) × (r.index ≡ t.index)
  refusal_number_apart a b c a' b' c' e = omega arith

pub refusal_number_positive : (r : Refusal) → 0 < r.number → 0 < refusal_number r
refusal_number_positive r h = omega arith
