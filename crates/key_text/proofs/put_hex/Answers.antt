use Prim.Native.Nat.{◌+◌, ◌*◌}
use mathlib.Core.Path.{sym, ◌∙◌}
use native.Mathlib.Omega.{arith}
use Rattle.key_text.proofs.Laws.{length_hex, hex_turn, hex_done}
use Rattle.lent_text.proofs.Laws.{stored_past}
use Rattle.key_text.proofs.put_hex.Goals as goal
use Rattle.key_text.proofs.put_hex.Goals.{then-at-out+else-loop-i-test, else-at-out}

pub loop-i-preserved : goal.loop-i-preserved
loop-i-preserved c = hex_turn c.loop-i.out c.put_byte.new.out c.args.key.now c.args.at c.loop-i.i (omega arith) c.put_byte.ensures ∙ c.loop-i.invariant

pub returns : goal.returns
returns c = (
  omega (arith, length_hex c.args.key.now),
  elim c.if-at-out.branch [
    | then-at-out+else-loop-i-test w ↦ w.out-is ∙ sym (hex_done w.loop-i.out c.args.key.now (c.args.at + (1 + 2 * w.loop-i.i)) w.loop-i.i (omega arith)) ∙ w.loop-i.invariant
    | else-at-out w ↦ w.out-is ∙ sym (stored_past _ _ _ (omega arith))
  ],
  omega arith,
)
