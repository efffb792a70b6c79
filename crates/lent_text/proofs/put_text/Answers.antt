use Prim.Native.Nat.{◌+◌}
use mathlib.Core.Path.{refl, sym, ◌∙◌}
use native.Mathlib.Omega.{arith}
use Rattle.lent_text.proofs.Laws.{stored_past, text_start, text_turn, text_done}
use Rattle.lent_text.proofs.put_text.Goals as goal

pub loop-i-init : goal.loop-i-init
loop-i-init c = text_start _ _ _

pub loop-i-preserved : goal.loop-i-preserved
loop-i-preserved c = text_turn c.loop-i.out c.put_past.new.out c.args.text.now c.args.at c.loop-i.i (omega arith) c.put_past.ensures ∙ c.loop-i.invariant

pub returns-after-loop-i : goal.returns-after-loop-i
returns-after-loop-i c = (refl, sym (text_done c.loop-i.out c.args.text.now (c.args.at + c.loop-i.i) c.loop-i.i (omega arith)) ∙ c.loop-i.invariant)

pub returns-else-at-out : goal.returns-else-at-out
returns-else-at-out c = (refl, sym (stored_past _ _ _ c.if-at-out.false))
