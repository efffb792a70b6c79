-- `keyless::is_next_key` meets its contract: of a key within the pool the next one is longer. Assumes nothing.
use mathlib.Core.Path.{sym}
use Rattle.keyless.proofs.Next.{next_longer}
use Rattle.keyless.proofs.is_next_key.Goals as goal

pub returns-then-b-a : goal.returns-then-b-a
returns-then-b-a c = sym (next_longer c.args.pool.now c.args.a c.args.b c.if-b-a.true)

pub returns : goal.returns
returns c = rw (← c.key_bytes.ensures, ← c.key_bytes-2.ensures) c.is_next.ensures
