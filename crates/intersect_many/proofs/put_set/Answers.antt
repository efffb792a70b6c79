-- `intersect_many::put_set` meets its contract: nothing, or one item. Assumes nothing.
use native.Mathlib.Omega.{arith}
use Rattle.item_lists.proofs.Written.{at_most_one}
use Rattle.intersect_many.proofs.put_set.Goals as goal

pub overflow_add-result : goal.overflow_add-result
overflow_add-result c = omega (arith, c.put_item.ensures.0, at_most_one c.piece_item.result, c.requires)

pub returns : goal.returns
returns c = rw (← c.piece_item.ensures)
    (record { count = omega (arith, c.put_item.ensures.0); words = c.put_item.ensures.1 })
