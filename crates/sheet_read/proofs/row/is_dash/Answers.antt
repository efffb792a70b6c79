-- `sheet_read::row::is_dash` meets its contract: the same bytes. Assumes nothing.
use mathlib.Core.Path.{ap, ◌∙◌}
use Rattle.query_item.specs.Items.{same}
use Rattle.item_name.proofs.Laws.{same_bytes}
use Rattle.sheet_read.proofs.row.is_dash.Goals as goal

pub returns : goal.returns
returns c = c.eq.ensures ∙ same_bytes c.args.s.now _ ∙ ap (same c.args.s.now) c.as_slice.ensures
