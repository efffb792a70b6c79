-- `key_order::word` meets its contract: std's sum of the eight products is the number. Assumes nothing.
use Rattle.std.proofs.Common.{arith}
use Rattle.key_order.proofs.Words.{be_eight}
use Rattle.key_order.proofs.word.Goals as goal

pub returns : goal.returns
returns c = omega (arith, c.from_be_bytes.ensures, be_eight c.args.bytes.now c.requires)
