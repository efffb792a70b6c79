use Prim.Native.Nat.{ℕ, ◌-◌, ◌*◌, ◌/◌, ◌%◌, ◌<◌}
use mathlib.Core.Path.{◌≡◌, subst, ◌∙◌}
use lib.ListN.{length, take, drop}
use native.Mathlib.Omega.{arith}
use Rattle.position_intervals.proofs.Halves.{none_held, one_held, sound_front, sound_back, less_front, less_back, low, high}
use Rattle.position_intervals.proofs.ask.+in_one_of.Goals as goal

pub returns-then-len-eq0 : goal.returns-then-len-eq0
returns-then-len-eq0 t c = none_held c.args.intervals.now c.args.position.0 c.if-len-eq0.true

pub returns-then-len-eq2 : goal.returns-then-len-eq2
returns-then-len-eq2 t c = one_held c.args.intervals.now c.args.position.0 c.if-len-eq2.true

pub in_one_of-requires : goal.in_one_of-requires
in_one_of-requires t c =
    let xs = c.args.intervals.now in
    let cut = 2 * (length xs / 4) in
    let even : cut % 2 ≡ 0 = omega arith in
    let l : cut < length xs = omega arith in
    (subst (λ (j : ℕ). length (take cut xs) < j) c.decreases (less_front xs cut c.requires even l), sound_front xs cut c.requires even l)

pub returns-then-p-intervals : goal.returns-then-p-intervals
returns-then-p-intervals t c =
    let xs = c.args.intervals.now in
    let cut = 2 * (length xs / 4) in
    let even : cut % 2 ≡ 0 = omega arith in
    let l : cut < length xs = omega arith in
    c.in_one_of.ensures ∙ low xs cut c.requires even l c.args.position.0 c.if-p-intervals.true

pub in_one_of-requires-2 : goal.in_one_of-requires-2
in_one_of-requires-2 t c =
    let xs = c.args.intervals.now in
    let cut = 2 * (length xs / 4) in
    let even : cut % 2 ≡ 0 = omega arith in
    let l : cut < length xs = omega arith in
    (subst (λ (j : ℕ). length (take (length xs - cut) (drop cut xs)) < j) c.decreases (less_back xs cut c.requires even l (omega arith)), sound_back xs cut c.requires even l)

pub returns : goal.returns
returns t c =
    let xs = c.args.intervals.now in
    let cut = 2 * (length xs / 4) in
    let even : cut % 2 ≡ 0 = omega arith in
    let l : cut < length xs = omega arith in
    c.in_one_of-2.ensures ∙ high xs cut c.requires even l c.args.position.0 c.if-p-intervals.false
