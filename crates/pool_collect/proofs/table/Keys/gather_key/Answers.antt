-- `pool_collect::table::Keys::gather_key` meets its contract: an empty key, a known one, a new one. Assumes nothing.
use mathlib.Core.Path.{sym, ◌∙◌}
use Rattle.pool_collect.proofs.Indexed.{search_at}
use Rattle.pool_collect.proofs.Gathers.{searchable, there_below, gathers_empty, gathers_known, gathers_new}
use Rattle.pool_collect.proofs.table.Keys.gather_key.Goals as goal

pub returns-then-long-eq0 : goal.returns-then-long-eq0
returns-then-long-eq0 c = gathers_empty _ _ _ _ _ _ c.requires c.if-long-eq0.true

pub entry_at-requires : goal.entry_at-requires
entry_at-requires c = search_at (searchable _ _ _ _ _ _ c.requires) _ (there_below _ _ _ _ _ (sym c.is_there.ensures ∙ c.if-is_there.true))

pub returns-then-is_there : goal.returns-then-is_there
returns-then-is_there c = gathers_known _ _ _ _ _ _ c.requires c.if-long-eq0.false _ c.spot_of-spot.ensures (sym c.is_there.ensures ∙ c.if-is_there.true)
    (rw (← c.entry_at.ensures) c.new_offset.ensures)

pub returns : goal.returns
returns c = rw c.entry_of.ensures
    (gathers_new _ _ _ _ _ _ c.requires c.if-long-eq0.false _ c.spot_of-spot.ensures (sym c.is_there.ensures ∙ c.if-is_there.false)
    _ c.insert_index.ensures)
