-- What the pass over a list goes by, an item at a time: the quick test of the order. proofs/Seen.antt says that it finds what Order.antt and
-- Refusals.antt define. It serves 01 m5.1. Assumes nothing.
use Rattle.std.specs.declared.cmp.Ordering.{Ordering}
use Rattle.std.specs.declared.cmp.Ordering.TheVariants.{Less, Equal, Greater}
use Rattle.std.specs.Ordering.{is_gt}
use Rattle.std.specs.Prelude.{ℕ, zero, suc, ◌-◌, List, [], ◌∷◌, Bool, false, cond, not, ◌||◌, ◌&&◌, ltb, eqb}
use Rattle.query_item.specs.declared.ItemWords.{ItemWords}
use Rattle.query_item.specs.Items.{item_at, items_from}
use Rattle.insert_order.specs.Order.{compare_items, plain, same_item, ends_below}

-- the last of the first i items is plain, and a plain item starts above its end; p as below
abbrev pub follows_plain : List ℕ → List ℕ → ℕ → ℕ → ItemWords → Bool
follows_plain pool ws p i it = cond (ltb i 1 || not (eqb p i) || not (plain it)) false (ends_below pool (item_at ws (i - 1)) it)

-- how the last of the first i items stands to an item; where there is none it counts as below
unfoldable pub last_order : List ℕ → List ℕ → ℕ → ItemWords → Ordering
last_order pool ws zero it = Less
last_order pool ws (suc i) it = compare_items pool (item_at ws i) it

-- where the run of items of one range starts that the item at i ends
abbrev pub run_start : Ordering → ℕ → ℕ → ℕ
run_start Less i run = i
run_start Equal i run = run
run_start Greater i run = run

-- the last plain item stands before the index p, and there is none where p is 0

unfoldable pub meets_plain : List ℕ → List ℕ → ℕ → ItemWords → Bool
meets_plain pool ws zero it = false
meets_plain pool ws (suc p) it = plain it && not (ends_below pool (item_at ws p) it)

abbrev pub last_plain : ItemWords → ℕ → ℕ → ℕ
last_plain it i p = cond (plain it) i p

-- an item is equal to one of some
unfoldable pub repeats : List ℕ → List ItemWords → ItemWords → Bool
repeats pool [] it = false
repeats pool (e ∷ es) it = same_item pool e it || repeats pool es it

abbrev pub quick_clash : List ℕ → List ℕ → Ordering → ℕ → ℕ → ℕ → ItemWords → Bool
quick_clash pool ws o run p i it = is_gt o || meets_plain pool ws p it || repeats pool (items_from ws run (i - run)) it
