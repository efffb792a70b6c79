-- `vectors::buffer` meets its contract: a repeated byte is as often there as it is repeated. By the law, since counting costs by the length.
-- Assumes nothing.
use Prim.Native.Nat.{ℕ}
use mathlib.Core.Path.{sym}
use lib.ListN.{length-replicate}
use Rattle.vectors.proofs.buffer.Goals as goal

pub returns : goal.returns
returns c = sym (length-replicate {A = ℕ} 393216 0)
