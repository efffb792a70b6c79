use Rattle.insert.proofs.Cleared.{cleared_some, cleared_none}
use Rattle.insert.proofs.tail.clear_items.Goals as goal

pub returns-then-from-to : goal.returns-then-from-to
returns-then-from-to c = cleared_some _ _ _ c.if-from-to.true c.requires.1 (c.fill.ensures.after (λ y e. e))

pub returns-else-from-to : goal.returns-else-from-to
returns-else-from-to c = cleared_none _ _ _ c.if-from-to.false
