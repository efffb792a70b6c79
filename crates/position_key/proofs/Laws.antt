-- Each law that a caller cites. Assumes nothing.
use Rattle.std.specs.Prelude.{Ok, Err, Result}
use Rattle.item_check.specs.declared.Refusal.{Refusal}
use mathlib.Core.Path.{◌≡◌}
use Rattle.position_given.specs.declared.LogPosition.{LogPosition}
use Rattle.position_key.specs.Keys.{position_of}

-- answers that tell the same, the position as a number, are the same
pub position_apart : (r s : Result LogPosition Refusal) → position_of r ≡ position_of s → r ≡ s
position_apart (Ok p) (Ok q) e = let h : p.0 ≡ q.0 = cc in λ i. Ok (record { 0 = h i })
position_apart (Ok p) (Err s) e = cc
position_apart (Err r) (Ok q) e = cc
position_apart (Err r) (Err s) e = cc
