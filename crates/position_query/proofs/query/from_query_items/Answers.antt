-- `from_query_items` meets its contract: the checks, then what is built. Assumes nothing.
use mathlib.Core.Path.{sym, ◌∙◌}
use native.Mathlib.Omega.{arith}
use Rattle.position_query.proofs.Builds.{from_built}
use Rattle.position_query.proofs.query.from_query_items.Goals as goal

pub returns : goal.returns
returns c = from_built c.args.pool.now c.args.items.now c.args.count.0 c.args.out.now c.build.new.out _
    (record { small = λ k. omega (arith, c.type_inv.pool k) }) (omega arith)
    (sym c.check_query.ensures ∙ c.in_ok-check_query.was) c.build.ensures
