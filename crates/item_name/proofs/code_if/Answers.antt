-- `item_name::code_if` meets its contract: the same bytes are the same name. Assumes nothing.
use Rattle.item_name.proofs.Laws.{same_bytes}
use Rattle.item_name.proofs.code_if.Goals as goal

pub returns-then-eq : goal.returns-then-eq
returns-then-eq c = rw (← same_bytes c.args.name.now c.args.known.now, ← c.eq.ensures, c.if-eq.true)

pub returns-else-eq : goal.returns-else-eq
returns-else-eq c = rw (← same_bytes c.args.name.now c.args.known.now, ← c.eq.ensures, c.if-eq.false)
