-- `next_window` meets its contract: the limit cuts the first run, or the window closes at the last missing row below it. Assumes nothing.
use native.Mathlib.Omega.{arith}
use Rattle.position_plan.specs.Inner.{LastRow}
use Rattle.position_plan.proofs.Opening.{behind_le, search_back, window_cut, window_alone, window_found}
use Rattle.position_plan.proofs.Known.{known, words}
use Rattle.position_plan.proofs.log.Log.next_window.Goals as goal

-- the limit is within the run
pub returns-then-limit-first : goal.returns-then-limit-first
returns-then-limit-first c = rw c.cut.ensures (window_cut (known c.args.self) (words c.args.self) c.requires c.saturating_add-limit.ensures c.if-limit-first.true)

pub next_missing-second-requires : goal.next_missing-second-requires
next_missing-second-requires c = behind_le c.requires.run.behind (omega (arith, c.requires.some))

-- no other run is within reach
pub returns-then-limit-second : goal.returns-then-limit-second
returns-then-limit-second c = window_alone (known c.args.self) (words c.args.self) c.requires c.saturating_add-limit.ensures c.if-limit-first.false c.next_missing-second.ensures c.if-limit-second.true

pub next_missing-next-requires : goal.next_missing-next-requires
next_missing-next-requires c = behind_le c.next_missing-second.ensures.run.behind (omega (arith, c.if-limit-second.false))

pub last_missing-end-requires : goal.last_missing-end-requires
last_missing-end-requires c = search_back c.next_missing-next.ensures
    (omega (arith, c.next_missing-next.ensures.after, c.if-limit-second.false, c.next_missing-second.ensures.after))

-- others are
pub returns : goal.returns
returns c = let last : LastRow c.args.self.intervals.now c.args.self.proved.now c.saturating_add-limit.result c.last_missing-end.result = c.last_missing-end.ensures in
    window_found (known c.args.self) (words c.args.self) c.requires c.saturating_add-limit.ensures last c.next_missing-next.ensures
