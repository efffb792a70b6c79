-- `has_room` meets its contract: there are no more ranges than items. Assumes nothing.
use Prim.Native.Nat.{◌/◌}
use mathlib.Core.Path.{sym, ◌∙◌}
use native.Mathlib.Omega.{arith}
use lib.ListN.{length}
use borrow.Author.Tests.{le-leb}
use Rattle.position_query.proofs.Builds.{ranges_few}
use Rattle.position_query.proofs.query.has_room.Goals as goal

pub returns-then-items-room : goal.returns-then-items-room
returns-then-items-room c = le-leb _ _ c.if-items-room.true ∙ sym (le-leb _ c.args.room (omega (arith, ranges_few c.args.pool.now c.args.count c.args.items.now (length c.args.items.now / 6) 0)))
