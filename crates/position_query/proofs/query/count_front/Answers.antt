-- `count_front` meets its contract: the pairs at the front are the intervals of their words alone. Assumes nothing.
use Prim.Native.Nat.{◌*◌}
use mathlib.Core.Path.{sym, ap, ◌∙◌}
use lib.Seq.{length-take-le}
use Rattle.position_given.specs.Answers.{rows_answer}
use Rattle.position_given.proofs.Fronts.{front_pairs}
use Rattle.position_query.proofs.query.count_front.Goals as goal

pub slice_bounds-count_rows-end : goal.slice_bounds-count_rows-end
slice_bounds-count_rows-end c = sym (length-take-le (2 * c.args.m) c.args.out.now c.requires)

pub returns : goal.returns
returns c = c.count_rows.ensures ∙ ap rows_answer (front_pairs c.args.out.now c.args.m c.requires)
