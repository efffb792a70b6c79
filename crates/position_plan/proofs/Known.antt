-- What the calls know once they have asked, and what they then answer. Assumes nothing.
use Prim.Native.Nat.{ℕ, ◌+◌, ◌/◌, ◌≤◌, ◌<◌}
use mathlib.Core.Path.{◌≡◌, refl, sym, ap}
use mathlib.Core.Bool.{Bool, true, false, cond}
use mathlib.Core.List.{List}
use native.Mathlib.Decide.{dec_lt}
use native.Mathlib.Omega.{arith}
use lib.ListN.{length}
use lib.Dec.{leb, eqb}
use borrow.Author.Tests.{le-leb, eqb-false}
use Rattle.item_check.specs.Checks.{refused, accepted}
use Rattle.item_check.proofs.Laws.{accepts}
use Rattle.position_given.specs.Given.{intervals_of, intervals_verdict, ascending_verdict}
use Rattle.position_given.specs.Positions.{positions_of}
use Rattle.position_given.proofs.Accepted.{never_accepted, sound, ascending_accepted}
use Rattle.position_given.proofs.Widths.{Words}
use Rattle.position_plan.specs.declared.log.Log.{Log}
use Rattle.position_plan.specs.Plans.{plan_of, width_verdict, asked_verdict, plan_verdict}
use Rattle.position_plan.specs.Inner.{Plannable}
use Rattle.position_plan.proofs.Room.{planned_room}

-- ---- what is known

width_known : (W : ℕ) → width_verdict W ≡ accepted → 0 < W
width_known W = go (eqb W 0) refl
  where
    go : (t : Bool) → eqb W 0 ≡ t → cond t (refused 16 0 0) accepted ≡ accepted → 0 < W
    go true p q = never_accepted q
    go false p q = elim (dec_lt 0 W) [ yes h ↦ h | no h ↦ absurd (eqb-false W 0 p (omega arith)) ]

-- where nothing but the room is left to refuse
pub plan_known : (ws P : List ℕ) (W : ℕ) → plan_verdict ws P W ≡ accepted → Plannable ws P W
plan_known ws P W h =
    let both = (accepts (intervals_verdict ws) (asked_verdict P W)).0 h in
    let asked = (accepts (ascending_verdict P) (width_verdict W)).0 both.1 in
    record { sound = sound ws both.0; ascends = ascending_accepted P asked.0; wide = width_known W asked.1 }

-- of a log that both calls go over
pub known : (l : Log) → Plannable l.intervals.now l.proved.now l.most
known l = plan_known l.intervals.now l.proved.now l.most l.accepted

pub words : (l : Log) → Words l.intervals.now
words l = record { fits = λ k. omega (arith, l.words k) }

-- ---- the room

-- so much room is always enough
pub always_fits : (ws P : List ℕ) (W n room : ℕ) → Plannable ws P W → n ≡ length (positions_of (intervals_of ws)) → n / W + length ws / 2 ≤ room
    → true ≡ leb (length (plan_of W ws P)) room
always_fits ws P W n room K rows h =
    let q : length (positions_of (intervals_of ws)) / W ≡ n / W = ap (λ (k : ℕ). k / W) (sym rows) in
    sym (le-leb (length (plan_of W ws P)) room (omega (arith, q, planned_room ws P W K)))
