-- `key_text::put_key_behind` meets its contract. Assumes nothing.
use native.Mathlib.Omega.{arith}
use Rattle.key_text.proofs.Laws.{marked_stored}
use Rattle.key_text.proofs.put_key_behind.Goals as goal

pub returns : goal.returns
returns c = let both = marked_stored c.args.out.now c.put.new.out c.put_key_text.new.out c.args.at c.put_key_text.result c.args.mark c.args.pool.now c.args.key _ c.key_bytes.ensures c.put.ensures c.put_key_text.ensures.0 c.put_key_text.ensures.1 in
    (both.0, both.1, omega (arith, c.put_key_text.ensures.2))
