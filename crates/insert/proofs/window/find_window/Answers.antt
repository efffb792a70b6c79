-- `insert::window::find_window` meets its contract: what stays on either side. Assumes nothing.
use native.Mathlib.Omega.{arith}
use Rattle.insert.proofs.Windows.{ascending}
use Rattle.insert.proofs.window.find_window.Goals as goal

pub count_below-place-requires : goal.count_below-place-requires
count_below-place-requires c = ascending c.args.pool.now c.args.words.now c.args.count c.args.item c.requires

pub first_asked-requires : goal.first_asked-requires
first_asked-requires c = (c.requires, c.count_below-place.ensures)

pub past_asked-requires : goal.past_asked-requires
past_asked-requires c = (c.requires, c.count_below-place.ensures.within)

pub returns : goal.returns
returns c = record { ascends = omega (arith, c.first_asked.ensures.0, c.past_asked.ensures.0); within = c.past_asked.ensures.1; front = c.first_asked.ensures.1; back = c.past_asked.ensures.2 }
