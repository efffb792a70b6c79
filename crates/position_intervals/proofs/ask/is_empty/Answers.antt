-- `is_empty` meets its contract: canonical intervals cover nothing exactly where there is none. Assumes nothing.
use Rattle.std.specs.Prelude.{Ok}
use mathlib.Core.Path.{ap, ◌∙◌}
use mathlib.Core.Bool.{Bool}
use Rattle.position_given.proofs.Accepted.{sound_of}
use Rattle.position_given.proofs.Widths.{none_covered}
use Rattle.position_intervals.proofs.ask.is_empty.Goals as goal

pub returns : goal.returns
returns c =
    let S = sound_of c.args.intervals.now _ c.check_intervals.ensures c.in_ok-check_intervals.was in
    rw (← c.check_intervals.ensures, c.in_ok-check_intervals.was) (ap (λ (b : Bool). Ok b) (c.is_empty.ensures ∙ none_covered c.args.intervals.now S))
