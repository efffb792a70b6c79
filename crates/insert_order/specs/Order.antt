-- The order of a list of items: when an item breaks it with an earlier one. Definitions only. Assumes nothing.
use Rattle.std.specs.declared.cmp.Ordering.{Ordering}
use Rattle.std.specs.Ordering.{is_lt}
use Rattle.std.specs.Prelude.{ℕ, List, [], ◌∷◌, Bool, false, not, ◌||◌, ◌&&◌, eqb}
use Rattle.key_order.specs.Order.{then_by}
use Rattle.query_item.specs.declared.ItemWords.{ItemWords}
use Rattle.query_item.specs.Items.{bytes_of, same}
use Rattle.query_item.specs.Boundaries.{compare_in, range_of}

-- 01 m5.1: items are ordered by start, then end
unfoldable pub compare_items : List ℕ → ItemWords → ItemWords → Ordering
compare_items pool x y = then_by (compare_in pool (range_of x).start (range_of y).start) (compare_in pool (range_of x).end (range_of y).end)

-- 01 keys.6: 0 plain
abbrev pub plain : ItemWords → Bool
plain it = eqb it.wrapper 0

-- 01 m5.1: equal in code, wrapper and key bytes
unfoldable pub same_item : List ℕ → ItemWords → ItemWords → Bool
same_item pool x y =
    eqb x.code y.code
    && eqb x.wrapper y.wrapper
    && same (bytes_of pool x.start) (bytes_of pool y.start)
    && same (bytes_of pool x.end) (bytes_of pool y.end)

-- 01 m5.1: one item ends below the start of another
unfoldable pub ends_below : List ℕ → ItemWords → ItemWords → Bool
ends_below pool x y = is_lt (compare_in pool (range_of x).end (range_of y).start)

-- 01 m5.1, reading A6: an item breaks the order with an earlier one that it sorts below, with an earlier plain one that does not end below
-- its start where it is plain too, and with an earlier one that is equal
abbrev pub clash : List ℕ → ItemWords → ItemWords → Bool
clash pool earlier it =
    is_lt (compare_items pool it earlier)
    || (plain earlier && plain it && not (ends_below pool earlier it))
    || same_item pool earlier it

-- 01 m5.1: with any of the earlier ones
unfoldable pub clashes : List ℕ → List ItemWords → ItemWords → Bool
clashes pool [] it = false
clashes pool (e ∷ es) it = clash pool e it || clashes pool es it
