use Rattle.std.proofs.Common.{◌≡◌, ◌+◌, get_or, arith}
use Rattle.key_order.proofs.Turns.{reached_byte, none_apart}
use Rattle.key_order.proofs.same_block.Goals as goal

pub loop-k-preserved : goal.loop-k-preserved
loop-k-preserved c = let args = c.args in
    λ e r.
    let told : (c.loop-k.apart ≡ 0) × (get_or args.a.now (args.i + c.loop-k.k) 0 ≡ get_or args.b.now (args.i + c.loop-k.k) 0) = none_apart _ _ _ e in
    let next : args.i + c.loop-k.k + 1 ≡ args.i + (c.loop-k.k + 1) = omega arith in
    rw next at (reached_byte args.a.now args.b.now (args.i + c.loop-k.k) (omega arith) (omega arith) told.1 (c.loop-k.invariant told.0 r))
