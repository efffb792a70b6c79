-- `insert_order::meets_plain` meets its contract: there is no plain item, or the last one is asked. Assumes nothing.
use mathlib.Core.Path.{sym}
use Rattle.insert_order.specs.Passes.{meets_plain}
use Rattle.insert_order.proofs.Reading.{meets_before}
use Rattle.insert_order.proofs.meets_plain.Goals as goal

pub returns-then-plain_end-eq0 : goal.returns-then-plain_end-eq0
unfolding meets_plain
returns-then-plain_end-eq0 c = rw c.if-plain_end-eq0.true

pub returns : goal.returns
unfolding meets_plain
returns c = rw (c.ends_below.ensures, c.is_plain.ensures, c.item_at.ensures) (sym (meets_before _ _ _ _ c.if-plain_end-eq0.false))
