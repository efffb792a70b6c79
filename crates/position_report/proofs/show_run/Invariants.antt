-- `show_run` meets its contract. The invariant: storing what is left of the run makes the examples of the whole run. Assumes nothing.
use Prim.Native.Nat.{◌+◌, ◌-◌}
use mathlib.Core.Path.{◌≡◌}
use lib.Seq.{sets}
use Rattle.position_given.specs.Positions.{count_up}
use Rattle.position_report.proofs.show_run.Given as goal

abbrev pub invariant-loop-k : goal.invariant-loop-k
invariant-loop-k l = sets l.examples (l.n + l.k) (count_up (l.from + l.k) (l.shown - l.k)) ≡ sets l.initial.examples l.n (count_up l.from l.shown)
