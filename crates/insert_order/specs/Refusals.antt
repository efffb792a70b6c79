-- What is refused before an insertion, in order: the pool, the list, the new item. Definitions only. Assumes nothing.
use Rattle.std.specs.Prelude.{ℕ, suc, ◌/◌, List, [], ◌∷◌, cond, ◌||◌, length, ltb}
use Rattle.query_item.specs.declared.ItemWords.{ItemWords}
use Rattle.query_item.specs.Items.{item_size, items_from}
use Rattle.item_check.specs.Checks.{refused, Verdict, accepted, and_then, most_items, pool_verdict, first_bad, fault_at, upright_fault}
use Rattle.insert_order.specs.Order.{clashes}

-- 01 no.1, refusal.5, reading A10: the old count beyond its buffer, or over 2,048; reading A3: spare words are never refused
abbrev pub buffer_verdict : List ℕ → ℕ → Verdict
buffer_verdict ws count = cond (ltb (length ws / item_size) count || ltb most_items count) (refused 1 0 0) accepted

-- 01 no.4, refusal.4: the first index that breaks a rule, alone or with an earlier one
unfoldable pub first_clash : List ℕ → ℕ → List ItemWords → List ItemWords → Verdict
first_clash pool i earlier [] = accepted
first_clash pool i earlier (it ∷ its) = cond (clashes pool earlier it) (refused 4 0 i) (first_clash pool (suc i) (it ∷ earlier) its)

abbrev pub order_verdict : List ℕ → List ItemWords → Verdict
order_verdict pool its = first_clash pool 0 [] its

-- 01 refusal.6, refusal.7: the pool, the list's shape, its items one by one, 4, then the new item, which is side 1 and index 0

abbrev pub ordered_verdict : List ℕ → List ItemWords → Verdict
ordered_verdict pool its = and_then (first_bad (upright_fault pool) 0 0 its) (order_verdict pool its)

abbrev pub input_verdict : List ℕ → List ℕ → ℕ → ItemWords → Verdict
input_verdict pool ws count new =
    and_then (pool_verdict pool)
    (and_then (buffer_verdict ws count)
    (and_then (ordered_verdict pool (items_from ws 0 count)) (fault_at (upright_fault pool new) 1 0)))
