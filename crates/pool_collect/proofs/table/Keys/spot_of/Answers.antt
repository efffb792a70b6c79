-- `pool_collect::table::Keys::spot_of` meets its contract: all entries are below a key that the last one is below; else halving tells. Assumes nothing.
use mathlib.Core.Path.{sym, ◌∙◌}
use Rattle.pool_collect.proofs.Indexed.{past_last}
use Rattle.pool_collect.proofs.table.Keys.spot_of.Goals as goal

pub returns-then-is_lt : goal.returns-then-is_lt
returns-then-is_lt c = past_last _ _ _ c.args.key c.requires.ascending c.if-self-gt0.true
    (rw c.compare_entry.ensures at (sym c.is_lt.ensures ∙ c.if-is_lt.true))
