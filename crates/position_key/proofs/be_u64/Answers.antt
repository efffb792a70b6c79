-- `be_u64` meets its contract: the number of eight bytes. Assumes nothing.
use mathlib.Core.Path.{◌≡◌, ap, ◌∙◌}
use native.Mathlib.Omega.{arith}
use lib.ListN.{length}
use borrow.Author.Tests.{eq-eqb}
use Rattle.key_order.specs.Words.{be}
use Rattle.key_order.proofs.Words.{be_eight}
use Rattle.position_key.proofs.be_u64.Goals as goal

pub returns : goal.returns
returns c =
    let whole = c.in-Ok.ensures.1 in
    let eight : length c.in-Ok.bytes ≡ 8 = ap length whole.same ∙ whole.long in
    let value : c.from_be_bytes.result ≡ be c.in-Ok.bytes = omega (arith, c.from_be_bytes.ensures, be_eight c.in-Ok.bytes eight) in
    rw (eq-eqb (length c.args.key.now) 8 whole.long, value, whole.same)
