-- `pool_collect::table::Keys::is_there` meets its contract: the entry at the spot is compared, if there is one. Assumes nothing.
use borrow.Author.Tests.{lt-ltb, le-ltb}
use mathlib.Core.Path.{◌∙◌}
use Rattle.pool_collect.specs.Table.{is_there}
use Rattle.pool_collect.proofs.table.Keys.is_there.Goals as goal

pub returns-then-spot-self : goal.returns-then-spot-self
unfolding is_there
returns-then-spot-self c = rw (lt-ltb _ _ c.if-spot-self.true) (c.is_eq.ensures ∙ rw c.compare_entry.ensures)

pub returns : goal.returns
unfolding is_there
returns c = rw (le-ltb _ _ c.if-spot-self.false)
