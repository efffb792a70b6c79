use Prim.Native.Nat.{◌*◌, ◌/◌, ◌%◌, ◌<◌}
use mathlib.Core.Path.{◌≡◌, ◌∙◌}
use lib.ListN.{length}
use native.Mathlib.Omega.{arith}
use Rattle.position_given.proofs.Accepted.{sound}
use Rattle.position_intervals.proofs.Halves.{no_pair_held, one_pair_held, front_accepted, back_accepted, low, high}
use Rattle.position_intervals.proofs.ask.+contains_accepted.Goals as goal

pub returns-then-pairs-eq0 : goal.returns-then-pairs-eq0
returns-then-pairs-eq0 t c = λ ok. no_pair_held c.args.intervals.now c.args.position.0 c.if-pairs-eq0.true

pub returns-then-pairs-eq1 : goal.returns-then-pairs-eq1
returns-then-pairs-eq1 t c = λ ok. one_pair_held c.args.intervals.now c.args.position.0 c.if-pairs-eq1.true

pub returns-then-position-intervals : goal.returns-then-position-intervals
returns-then-position-intervals t c =
    let xs = c.args.intervals.now in
    let cut = 2 * (length xs / 2 / 2) in
    let even : cut % 2 ≡ 0 = omega arith in
    let l : cut < length xs = omega arith in
    λ ok.
    let S = sound xs ok in
    c.contains_accepted.ensures (front_accepted xs cut S even l) ∙ low xs cut S even l c.args.position.0 c.if-position-intervals.true

pub returns : goal.returns
returns t c =
    let xs = c.args.intervals.now in
    let cut = 2 * (length xs / 2 / 2) in
    let even : cut % 2 ≡ 0 = omega arith in
    let l : cut < length xs = omega arith in
    λ ok.
    let S = sound xs ok in
    c.contains_accepted-2.ensures (back_accepted xs cut S even l) ∙ high xs cut S even l c.args.position.0 c.if-position-intervals.false
