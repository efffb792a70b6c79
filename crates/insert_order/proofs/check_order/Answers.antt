use mathlib.Core.Path.{sym, ◌∙◌}
use native.Mathlib.Omega.{arith}
use Rattle.insert_order.proofs.Seen.{seen_start, seen_more, seen_next, quick_some, quick_none, clear_none, order_start, order_here, order_next, order_end}
use Rattle.insert_order.proofs.Accepted.{upright_at}
use Rattle.insert_order.proofs.check_order.Goals as goal
use Rattle.insert_order.proofs.check_order.Goals.{then-follows_plain, else-follows_plain+else-is_gt-meets_plain}

pub loop-i-init : goal.loop-i-init
loop-i-init c = (order_start _ _ _, seen_start _ _)

pub returns-then-is_gt-meets_plain : goal.returns-then-is_gt-meets_plain
returns-then-is_gt-meets_plain c = let order = rw c.item_at-item.ensures at c.last_order-order.ensures in
    let found = rw c.item_at-item.ensures at (rw (c.is_gt.ensures, c.meets_plain.ensures, c.is_repeated.ensures) at c.if-is_gt-meets_plain.true) in
    c.refuse.ensures
    ∙ sym (c.loop-i.invariant.0
    ∙ order_here _ _ _ _ c.loop-i-test.true (quick_some _ _ _ _ _ c.loop-i.invariant.1 _ _ order _ c.run_start-run.ensures found))

pub loop-i-preserved : goal.loop-i-preserved
loop-i-preserved c = elim c.if-follows_plain.branch [
  | then-follows_plain w ↦
      let next =
      seen_next _ _ _ _ _ c.loop-i.invariant.1 c.item_at-item.ensures (λ h. upright_at _ _ _ c.requires _ (omega (arith, c.loop-i-test.true)))
      (sym c.follows_plain.ensures ∙ w.if-follows_plain.true) in
      rw (w.run-is, w.plain_end-is) (c.loop-i.invariant.0 ∙ order_next _ _ _ _ c.loop-i-test.true next.0, next.1)
  | else-follows_plain+else-is_gt-meets_plain w ↦
      let order = rw c.item_at-item.ensures at w.last_order-order.ensures in
      let none = rw c.item_at-item.ensures at (rw (w.is_gt.ensures, w.meets_plain.ensures, w.is_repeated.ensures) at w.if-is_gt-meets_plain.false) in
      let clear = quick_none _ _ _ _ _ c.loop-i.invariant.1 _ _ order _ w.run_start-run.ensures none in
      rw (w.run-is, w.plain_end-is) (
        c.loop-i.invariant.0 ∙ order_next _ _ _ _ c.loop-i-test.true (clear_none _ _ _ _ _ _ _ _ _ _ _ clear),
        seen_more _ _ _ _ _ _ _ _ _ _ _ clear (rw c.item_at-item.ensures at w.last_plain-plain_end.ensures),
      )
]

pub returns : goal.returns
returns c = sym (c.loop-i.invariant.0 ∙ order_end _ _ _ _ c.loop-i-test.false)
