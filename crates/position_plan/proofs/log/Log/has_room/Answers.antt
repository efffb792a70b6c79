-- `has_room` meets its contract: so much room is always enough, or the windows are counted. Assumes nothing.
use mathlib.Core.Path.{◌∙◌}
use Rattle.position_plan.proofs.Known.{always_fits}
use Rattle.position_plan.proofs.Known.{known}
use Rattle.position_plan.proofs.log.Log.has_room.Goals as goal

pub returns-then-always_fit : goal.returns-then-always_fit
returns-then-always_fit c =
    c.if-always_fit.true ∙ always_fits c.args.self.intervals.now c.args.self.proved.now c.args.self.most c.args.covered c.args.room (known c.args.self) c.requires (c.always_fit.ensures c.if-always_fit.true)
