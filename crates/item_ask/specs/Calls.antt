-- The calls on a single item: what each answers, refusals included. Definitions only. Assumes nothing.
use Rattle.query_item.specs.declared.QueryItem.{QueryItem}
use Rattle.std.specs.Prelude.{ℕ, List, Bool, Option, Ok}
use Rattle.query_item.specs.declared.ItemWords.{ItemWords}
use Rattle.query_item.specs.declared.RangeSet.{RangeSet}
use Rattle.query_item.specs.Items.{query_item}
use Rattle.query_item.specs.Boundaries.{range_of, to_query_item}
use Rattle.item_check.specs.Checks.{Answer, and_then, single_verdict, set_verdict}
use Rattle.range_borrowed.specs.declared.Direction.{Direction}
use Rattle.range_borrowed.specs.declared.KeyContainmentResult.{KeyContainmentResult}
use Rattle.item_ask.specs.Asked as asked

-- ---- the calls; reading A22: the pool, then 1 and 2 of the item (01 refusal.3, refusal.6, m2.6)

abbrev pub to_range_set_answer : List ℕ → ItemWords → Answer RangeSet
to_range_set_answer pool it = and_then (single_verdict pool it) (Ok (range_of it))

abbrev pub containment_answer : List ℕ → ItemWords → List ℕ → Answer KeyContainmentResult
containment_answer pool it k = and_then (single_verdict pool it) (Ok (asked.containment pool (query_item it) k))

abbrev pub direction_answer : List ℕ → ItemWords → List ℕ → Direction → Answer Bool
direction_answer pool it k d = and_then (single_verdict pool it) (Ok (asked.in_direction pool (query_item it) k d))

-- 01 keys.12, reading A23: the pool, then the keys of both boundaries, and "no item" only after these
abbrev pub to_query_item_answer : List ℕ → RangeSet → Answer (Option QueryItem)
to_query_item_answer pool s = and_then (set_verdict pool s) (Ok (to_query_item pool s))
