use Rattle.std.proofs.Common.{sym, ◌∙◌, arith, rules}
use Rattle.key_order.proofs.Numbers.{cmp_numbers}
use Rattle.key_order.proofs.Turns.{same_here, byte_decides, lengths_decide}
use Rattle.key_order.proofs.compare_from.Goals as goal

-- the bytes differ
pub returns-then-a-i : goal.returns-then-a-i
returns-then-a-i c = let args = c.args in
    rw (c.cmp.ensures, cmp_numbers, c.loop-i.invariant)
    (sym (byte_decides args.a.now args.b.now c.loop-i.i (search rules) (search rules) c.if-a-i.true))

pub loop-i-preserved : goal.loop-i-preserved
loop-i-preserved c = let args = c.args in
    c.loop-i.invariant ∙ same_here args.a.now args.b.now c.loop-i.i (search rules) (search rules) c.if-a-i.false

-- the shorter one has ended
pub returns : goal.returns
returns c = let args = c.args in
    rw (c.cmp-2.ensures, cmp_numbers, c.loop-i.invariant)
    (sym (lengths_decide args.a.now args.b.now c.loop-i.i (omega arith) (omega arith) (omega arith)))
