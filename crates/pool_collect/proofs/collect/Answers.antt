-- `pool_collect::collect` meets its contract: the checks refuse, or what is checked follows. Assumes nothing.
use mathlib.Core.Path.{sym, ◌∙◌}
use Rattle.std.proofs.lemmas.Result.{err_from_is_err_and}
use Rattle.pool_collect.proofs.Both.{collects_unchecked}
use Rattle.pool_collect.proofs.collect.Goals as goal

pub collect_checked-requires : goal.collect_checked-requires
collect_checked-requires c = sym c.check_collect.ensures ∙ c.in_ok-check_collect.was

pub returns-in_err-check_collect : goal.returns-in_err-check_collect
returns-in_err-check_collect c =
    let p = err_from_is_err_and c.from_residual.result c.from_residual.ensures.1 in
    rw (p.1, p.2) (collects_unchecked _ _ _ _ c.check_collect.ensures c.in_err-check_collect.was)
