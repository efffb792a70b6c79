use Prim.Native.Nat.{◌+◌, ◌-◌, ◌/◌}
use mathlib.Core.Path.{sym, ◌∙◌}
use native.Mathlib.Omega.{arith}
use Rattle.insert.proofs.Windows.{halved_start, halved_above, halved_below, halved_end}
use Rattle.insert.proofs.window.count_below.Goals as goal

pub loop-low-init : goal.loop-low-init
loop-low-init c = halved_start _ _ _ _

pub loop-low-preserved-then-is_lt : goal.loop-low-preserved-then-is_lt
loop-low-preserved-then-is_lt c = let mid = c.loop-low.low + (c.loop-low.high - c.loop-low.low) / 2 in
    halved_above _ _ _ _ _ _ mid c.requires c.loop-low.invariant (omega arith) (omega arith) c.item_at.ensures
    (rw c.compare_items.ensures at (sym c.is_lt.ensures ∙ c.if-is_lt.true))

pub loop-low-preserved : goal.loop-low-preserved
loop-low-preserved c = let mid = c.loop-low.low + (c.loop-low.high - c.loop-low.low) / 2 in
    halved_below _ _ _ _ _ _ mid c.requires c.loop-low.invariant (omega arith) (omega arith) c.item_at.ensures
    (rw c.compare_items.ensures at (sym c.is_lt.ensures ∙ c.if-is_lt.false))

pub returns : goal.returns
returns c = halved_end _ _ _ _ _ _ c.loop-low.invariant c.loop-low-test.false
