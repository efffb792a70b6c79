-- The laws that a caller cites: what the checks accept, exactly; that an ascending list is determined by its members; the rows of a list in
-- which one more range is covered; and that answers are told apart. No contract cites this file. Assumes nothing.
use Rattle.std.specs.Prelude.{Err, Ok, Result}
use Rattle.item_check.specs.declared.Refusal.{Refusal}
use Prim.Native.Nat.{ℕ}
use mathlib.Core.Path.{◌≡◌}
use mathlib.Core.Logic.{◌↔◌}
use mathlib.Core.List.{List}
use Rattle.intervals.specs.Intervals.{Interval, Canonical}
use Rattle.item_check.specs.Checks.{accepted}
use Rattle.position_given.specs.declared.RowCount.{RowCount}
use Rattle.position_given.specs.declared.Stored.{Stored}
use Rattle.position_given.specs.Given.{canonical_verdict, intervals_verdict, ascending_verdict, proved_verdict}
use Rattle.position_given.specs.Answers.{length_of, stored_of}
use Rattle.position_given.specs.Inner.{Sound, Ascends}
use Rattle.position_given.proofs.Accepted.{canonical_accepted, canonical_accepts, sound, sound_accepts}
use Rattle.position_given.proofs.Accepted.{ascending_accepted, ascending_accepts, proved_accepted, proved_accepts}
pub use Rattle.position_given.proofs.Positions.{in_positions, ascends_unique}
pub use Rattle.position_given.proofs.Rows.{newly, rows_newly, already, rows_already}

-- 01 no.9, m6.4: intervals are accepted exactly if they are canonical
pub canonical_exactly : (A : List Interval) → canonical_verdict A ≡ accepted ↔ Canonical A
canonical_exactly A = (canonical_accepted A, canonical_accepts A)

-- 01 no.1, no.9: words are accepted exactly if they are even in number, and canonical as pairs
pub intervals_exactly : (ws : List ℕ) → intervals_verdict ws ≡ accepted ↔ Sound ws
intervals_exactly ws = (sound ws, sound_accepts ws)

-- 01 no.8: proved positions are accepted exactly if they are strictly ascending
pub ascending_exactly : (P : List ℕ) → ascending_verdict P ≡ accepted ↔ Ascends 0 P
ascending_exactly P = (ascending_accepted P, ascending_accepts P)

-- 01 refusal.6: intervals and proved positions are accepted exactly if both are
pub proved_exactly : (ws P : List ℕ) → proved_verdict ws P ≡ accepted ↔ (Sound ws × Ascends 0 P)
proved_exactly ws P = (proved_accepted ws P, λ h. proved_accepts ws P h.0 h.1)

-- ---- answers are told apart

pub length_apart : (r s : Result RowCount Refusal) → length_of r ≡ length_of s → r ≡ s
length_apart (Ok m) (Ok n) e = let h : m.0 ≡ n.0 = cc in λ i. Ok (record { 0 = h i })
length_apart (Ok m) (Err s) e = cc
length_apart (Err r) (Ok n) e = cc
length_apart (Err r) (Err s) e = cc

pub stored_apart : (r s : Result Stored Refusal) → stored_of r ≡ stored_of s → r ≡ s
stored_apart (Ok a) (Ok b) e =
    let p : ◌≡◌ {A = ℕ × ℕ} (a.pairs, a.rows.0) (b.pairs, b.rows.0) = cc in
    λ i. Ok (record { pairs = (p i).0; rows = record { 0 = (p i).1 } })
stored_apart (Ok a) (Err s) e = cc
stored_apart (Err r) (Ok b) e = cc
stored_apart (Err r) (Err s) e = cc
