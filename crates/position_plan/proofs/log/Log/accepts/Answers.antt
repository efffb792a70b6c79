use Prim.Native.Nat.{◌-◌}
use mathlib.Core.Path.{◌≡◌, sym, ◌∙◌}
use mathlib.Core.Bool.{false, ◌&&◌}
use native.Mathlib.Omega.{arith}
use lib.Dec.{ltb, eqb}
use Rattle.pairs_sort.specs.Pairs.{start, finish}
use Rattle.position_plan.proofs.Opening.{search_start, behind_le}
use Rattle.position_plan.proofs.Judging.{is_at, judges_start, judges_empty, judges_wide, judges_first, judges_last, judges_more, judges_end}
use Rattle.position_plan.proofs.log.Log.accepts.Goals as goal

pub next_missing-first-requires : goal.next_missing-first-requires
next_missing-first-requires c = search_start

pub loop-i-init : goal.loop-i-init
loop-i-init c = judges_start c.next_missing-first.ensures

-- the window is empty
pub returns-then-e-s : goal.returns-then-e-s
returns-then-e-s c = judges_empty c.loop-i.invariant c.loop-i-test.true c.if-e-s.true

-- the window is too wide
pub returns-then-self-e : goal.returns-then-self-e
returns-then-self-e c = judges_wide c.loop-i.invariant c.loop-i-test.true c.if-self-e.true

-- the window does not start at the first missing row
pub returns-then-not-starts_at : goal.returns-then-not-starts_at
returns-then-not-starts_at c = let s = start c.args.windows.now c.loop-i.i in
    let off : eqb c.loop-i.first.start s && ltb c.loop-i.first.start c.loop-i.first.end ≡ false = sym c.starts_at.ensures ∙ c.if-not-starts_at.true in
    judges_first c.loop-i.invariant c.loop-i-test.true off

pub next_missing-last-requires : goal.next_missing-last-requires
next_missing-last-requires c = let s = start c.args.windows.now c.loop-i.i in
    let begins = is_at c.loop-i.first s (sym c.starts_at.ensures ∙ c.if-not-starts_at.false) in
    behind_le c.loop-i.invariant.run.behind (omega (arith, begins, c.if-e-s.false))

-- the window does not end on a missing row
pub returns-then-not-starts_at-2 : goal.returns-then-not-starts_at-2
returns-then-not-starts_at-2 c = let off = sym c.starts_at-in-loop-i.ensures ∙ c.if-not-starts_at-2.true in
    judges_last c.loop-i.invariant c.loop-i-test.true c.next_missing-last.ensures off

pub next_missing-first-requires-in-loop-i : goal.next_missing-first-requires-in-loop-i
next_missing-first-requires-in-loop-i c = let ends = is_at c.next_missing-last.result (finish c.args.windows.now c.loop-i.i - 1) (sym c.starts_at-in-loop-i.ensures ∙ c.if-not-starts_at-2.false) in
    behind_le c.next_missing-last.ensures.run.behind (omega (arith, ends))

pub loop-i-preserved : goal.loop-i-preserved
loop-i-preserved c = judges_more c.loop-i.invariant c.loop-i-test.true c.next_missing-last.ensures
    (sym c.starts_at.ensures ∙ c.if-not-starts_at.false)
    c.if-e-s.false
    c.if-self-e.false
    (sym c.starts_at-in-loop-i.ensures ∙ c.if-not-starts_at-2.false)
    c.next_missing-first-in-loop-i.ensures

-- no window is left
pub returns : goal.returns
returns c = judges_end c.loop-i.invariant c.loop-i-test.false
