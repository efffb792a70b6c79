-- Where a direction is answered no, no key that the item holds stands there; yes may be a false hope. Assumes nothing.
use Rattle.std.specs.Prelude.{Ok}
use Rattle.std.specs.declared.cmp.Ordering.{Ordering}
use Rattle.std.specs.declared.cmp.Ordering.TheVariants.{Less, Equal, Greater}
use Rattle.std.specs.Ordering.{is_lt}
use Prim.Native.Nat.{ℕ}
use mathlib.Core.Path.{◌≡◌, refl, sym, ◌∙◌}
use mathlib.Core.Bool.{true, false, false≢true}
use mathlib.Core.List.{List, [], ◌∷◌}
use Rattle.key_order.specs.Order.{compare_numbers, compare_keys}
use Rattle.key_order.proofs.Laws.{compare_next}
use Rattle.query_item.specs.declared.ItemWords.{ItemWords}
use Rattle.query_item.specs.declared.QueryItem.{QueryItem}
use Rattle.query_item.specs.Items.{key_at, absent, item_words, query_item, below, holds}
use Rattle.query_item.proofs.Held.{holds_between}
use Rattle.range_borrowed.specs.declared.Direction.TheVariants.{LeftOf, RightOf}
use Rattle.range_borrowed.proofs.Laws.{none_left, none_right}
use Rattle.item_ask.specs.Asked.{in_direction}
use Rattle.item_ask.specs.Calls.{direction_answer}

module _ (pool : List ℕ) (q : QueryItem) (key k : List ℕ) (held : holds pool q k ≡ true) where
  pub no_left : in_direction pool q key LeftOf ≡ false → below k key ≡ false
  no_left none = none_left _ _ key k (sym (holds_between pool q k) ∙ held) none

  pub no_right : in_direction pool q key RightOf ≡ false → below key k ≡ false
  no_right none = none_right _ _ key k (sym (holds_between pool q k) ∙ held) none

-- ---- yes may be a false hope: document 01's example

-- RangeAfter 05, over the pool 05
abbrev after_five : ItemWords
after_five = item_words 7 0 (key_at 0 1) absent

-- asked left of 05 00 it is answered yes
pub hope_answered : direction_answer (5 ∷ []) after_five (5 ∷ 0 ∷ []) LeftOf ≡ Ok true
unfolding compare_keys compare_numbers
hope_answered = refl

-- and no key that it holds stands there
pub hope_false : (k : List ℕ) → holds (5 ∷ []) (query_item after_five) k ≡ true → below k (5 ∷ 0 ∷ []) ≡ false
hope_false k held = compare_next (5 ∷ []) k (go (compare_keys (5 ∷ []) k) held)
  where
    go : (o : Ordering) → is_lt o ≡ true → o ≡ Less
    go Less e = refl
    go Equal e = absurd (false≢true e)
    go Greater e = absurd (false≢true e)
