-- Insertion into a list of items: where the result goes. What stays and what merges is defined in `insert_merge`. Definitions only. Assumes
-- nothing.
use Rattle.std.specs.Ordering.{is_lt}
use Rattle.std.specs.Prelude.{ℕ, List, [], ◌∷◌, cond}
use Rattle.query_item.specs.declared.ItemWords.{ItemWords}
use Rattle.insert_order.specs.Order.{compare_items}
use Rattle.insert_merge.specs.Merge.{staying, merged_with}

-- 01 m5.6: the result goes before the first item not below it
unfoldable pub placed : List ℕ → ItemWords → List ItemWords → List ItemWords
placed pool result [] = result ∷ []
placed pool result (it ∷ its) = cond (is_lt (compare_items pool it result)) (it ∷ placed pool result its) (result ∷ it ∷ its)

-- 01 m5.2, m5.4, reading A7: what is replaced or merged is taken out, then the result is put anew
unfoldable pub inserted : List ℕ → ItemWords → List ItemWords → List ItemWords
inserted pool new its = placed pool (merged_with pool new new its) (staying pool new its)
