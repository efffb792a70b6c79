use native.Mathlib.Omega.{arith}
use Rattle.insert.proofs.Moves.{moving_start, moving_fate, moving_skip, moving_more, moving_end, moving_shift, rest_room}
use Rattle.insert.proofs.tail.move_items.Goals as goal
use Rattle.insert.proofs.tail.move_items.Goals.{then-stays_at, else-stays_at}

pub loop-i-init : goal.loop-i-init
loop-i-init c = moving_start _ _ _ _ _

pub shift_up-requires : goal.shift_up-requires
shift_up-requires c =
    let room = rest_room _ _ _ _ _ _ _ _ _ _ c.loop-i.invariant _ c.requires.2 c.if-is_placed-asked.true c.loop-i-test.true c.requires.0 c.requires.1 in
    (omega arith, room)

pub overflow_add-result : goal.overflow_add-result
overflow_add-result c =
    let room = rest_room _ _ _ _ _ _ _ _ _ _ c.loop-i.invariant _ c.requires.2 c.if-is_placed-asked.true c.loop-i-test.true c.requires.0 c.requires.1 in
    omega (arith, c.loop-i.invariant.size)

pub returns-then-is_placed-asked : goal.returns-then-is_placed-asked
returns-then-is_placed-asked c =
    moving_shift _ _ _ _ _ _ _ _ _ _ c.loop-i.invariant _ c.requires.2 c.if-is_placed-asked.true c.loop-i-test.true c.requires.0 c.requires.1
    c.shift_up.ensures c.write_item.ensures

pub overflow_add-to : goal.overflow_add-to
overflow_add-to c = omega (arith, c.loop-i.invariant.behind, c.ranges.count)

pub loop-i-preserved : goal.loop-i-preserved
loop-i-preserved c =
    let fate = moving_fate _ _ _ _ _ _ _ _ _ _ c.loop-i.invariant _ c.requires.2 c.loop-i-test.true c.item_at-old.ensures c.stays_at.ensures in
    elim c.if-stays_at.branch [
      | then-stays_at w ↦
          rw (w.tail-is, w.hand-is, w.is_placed-is, w.to-is)
          (moving_more _ _ _ _ _ _ _ _ _ _ c.loop-i.invariant c.loop-i-test.true c.requires.0 c.item_at-old.ensures fate
          w.if-stays_at.true w.goes_first-first.ensures w.pick_item.ensures w.write_item-then-stays_at.ensures w.pick_item-hand.ensures)
      | else-stays_at w ↦
          rw (w.tail-is, w.hand-is, w.is_placed-is, w.to-is)
          (moving_skip _ _ _ _ _ _ _ _ _ _ c.loop-i.invariant c.loop-i-test.true c.item_at-old.ensures fate w.if-stays_at.false)
    ]

pub overflow_add-result-2 : goal.overflow_add-result-2
overflow_add-result-2 c = omega (arith, c.loop-i.invariant.behind, c.loop-i.invariant.read)

pub returns : goal.returns
returns c = moving_end _ _ _ _ _ _ _ _ _ _ c.loop-i.invariant c.loop-i-test.false c.requires.0 c.requires.1 c.write_item-2.ensures
