-- `ends_below` meets its contract: the ends of a canonical list rise, so that halving tells. Assumes nothing.
use Rattle.std.proofs.Common.{rules, ◌*◌}
use native.Mathlib.Omega.{arith}
use lib.Seq.{length-take-le}
use Rattle.std.proofs.lemmas.Fn.{always_returns_same}
use Rattle.position_stored.proofs.Turns.{ends_under, passed_by}
use Rattle.position_stored.proofs.change.ends_below.Goals as goal

pub returns : goal.returns
returns c =
    let size = length-take-le (2 * c.args.count) c.args.words.now (omega (arith, c.requires.within)) in
    passed_by c.args.x c.requires c.as_chunks.ensures.front c.as_chunks.ensures.front_len (omega (arith, size))
    c.partition_point.ensures.bound
    (c.partition_point.ensures.partitioned (ends_under c.args.x) (always_returns_same _ _ _ (λ a r f h. (search rules, search rules))))
