-- `insert::insert_checked` meets its contract: there is no room and nothing is written, or the tail from the first change on is lent on and
-- comes back rewritten. The test of the room is stated before the answer is rewritten by it. Assumes nothing.
use Prim.Native.Nat.{◌+◌, ◌/◌}
use mathlib.Core.Path.{◌≡◌, ◌∙◌}
use mathlib.Core.Bool.{true, ◌||◌}
use native.Mathlib.Omega.{arith}
use lib.ListN.{length}
use lib.Dec.{ltb}
use Rattle.query_item.specs.Items.{item_size, items_from}
use Rattle.item_check.specs.Checks.{most_items}
use Rattle.item_lists.proofs.Words.{length_items}
use Rattle.insert.proofs.Windows.{ascending}
use Rattle.insert_merge.proofs.Staying.{length_staying}
use Rattle.insert.proofs.Tails.{first_in, tail_room, tail_stay, tail_laid, after_is, after_placed, room_is}
use Rattle.insert.proofs.insert_checked.Goals as goal

pub find_window-window-requires : goal.find_window-window-requires
find_window-window-requires c = c.requires.1

pub find_result-found-requires : goal.find_result-found-requires
find_result-found-requires c = c.find_window-window.ensures

pub overflow_add-after : goal.overflow_add-after
overflow_add-after c = let its = items_from c.args.words.now 0 c.args.count in
    let stay = length_staying c.args.pool.now c.args.item its in
    omega (arith, c.find_result-found.ensures.stay, stay, length_items c.args.words.now 0 c.args.count, c.requires.0)

pub returns-then-words-after : goal.returns-then-words-after
returns-then-words-after c = let count = c.find_result-found.result.stay + 1 in
    let no_room : ltb (length c.args.words.now / item_size) count || ltb most_items count ≡ true = c.if-words-after.true in
    let after = after_is _ _ _ c.find_result-found.ensures.stay in
    record { result_value = c.refuse.ensures ∙ rw (← after, no_room); words_after = rw (← after, no_room) }

pub first_changed-first-requires : goal.first_changed-first-requires
first_changed-first-requires c = (omega (arith, c.find_window-window.ensures.ascends, c.find_window-window.ensures.within), ascending c.args.pool.now c.args.words.now c.args.count c.args.item c.requires.1, c.find_window-window.ensures.front)

pub overflow_mul-at : goal.overflow_mul-at
overflow_mul-at c = omega (arith, first_in _ _ _ _ _ c.first_changed-first.ensures, c.requires.0)

pub offset_bounds-words-at : goal.offset_bounds-words-at
offset_bounds-words-at c = omega (arith, first_in _ _ _ _ _ c.first_changed-first.ensures, c.requires.0)

pub slice_bounds-rewrite-count : goal.slice_bounds-rewrite-count
slice_bounds-rewrite-count c = omega (arith, first_in _ _ _ _ _ c.first_changed-first.ensures, c.requires.0)

pub slice_bounds-rewrite-start : goal.slice_bounds-rewrite-start
slice_bounds-rewrite-start c = omega (arith, first_in _ _ _ _ _ c.first_changed-first.ensures, c.requires.0)

pub overflow_sub-count : goal.overflow_sub-count
overflow_sub-count c = omega (arith, first_in _ _ _ _ _ c.first_changed-first.ensures)

pub rewrite-requires : goal.rewrite-requires
rewrite-requires c = let fits =
    tail_room _ _ _ _ _ c.first_changed-first.ensures c.requires.0
    (rw (← after_placed _ _ _ _ c.find_result-found.ensures.stay) (room_is _ _ _ c.if-words-after.false)) in
    (fits.0, fits.1, tail_stay _ _ _ _ _ c.first_changed-first.ensures _ c.saturating_sub.ensures c.find_window-window.ensures.back)

pub returns : goal.returns
returns c = let after = after_is _ _ _ c.find_result-found.ensures.stay in record {
  result_value = rw (← after, c.if-words-after.false);
  words_after = rw (← after, c.if-words-after.false)
      (tail_laid _ _ _ _ _ c.first_changed-first.ensures c.requires.0 c.find_result-found.ensures.result c.rewrite.ensures);
}
