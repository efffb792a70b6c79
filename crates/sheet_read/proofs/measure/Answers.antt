use mathlib.Core.Path.{◌∙◌}
use native.Mathlib.Omega.{arith}
use Rattle.sheet_read.proofs.Turns.{measuring_end, measuring_bad, measuring_more}
use Rattle.sheet_read.proofs.measure.Goals as goal

pub returns-in_default : goal.returns-in_default
returns-in_default c = c.refuse.ensures ∙ measuring_bad c.loop-rest.invariant (grind arith) c.in_default.ensures.found

pub loop-rest-preserved : goal.loop-rest-preserved
loop-rest-preserved c = measuring_more c.loop-rest.invariant c.in-Some.row c.in-Some.after c.in-Some.ensures.found c.in-Some.ensures.shorter
    c.add_row-m.ensures

pub returns : goal.returns
returns c = measuring_end c.loop-rest.invariant (grind arith)
