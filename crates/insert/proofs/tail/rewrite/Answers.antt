-- `insert::tail::rewrite` meets its contract: the items are moved, then what is freed is cleared, up to the old count. Assumes nothing.
use mathlib.Core.Path.{◌≡◌, ◌∙◌}
use Rattle.insert.specs.Passes.{cleared}
use Rattle.insert.proofs.Moves.{moved_cleared}
use Rattle.insert.proofs.tail.rewrite.Goals as goal

pub returns : goal.returns
returns c = let wiped : c.clear_items.new.tail ≡ cleared c.move_items-end.new.tail c.move_items-end.result c.args.count = c.clear_items.ensures in
    wiped ∙ moved_cleared _ _ _ _ c.move_items-end.ensures.1 c.move_items-end.ensures.0
