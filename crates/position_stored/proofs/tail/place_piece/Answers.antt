-- `place_piece` meets its contract: one pair or none is placed; of none no pair is left to move, or the first that is left is placed. Assumes nothing.
use mathlib.Core.Path.{ap}
use Prim.Native.Nat.{◌<◌}
use native.Mathlib.Decide.{dec_lt}
use native.Mathlib.Omega.{arith}
use lib.ListN.{length}
use Rattle.intervals.proofs.Laws.{piece_some, piece_none}
use Rattle.position_stored.proofs.Places.{close_none, close_some}
use Rattle.position_stored.proofs.tail.place_piece.Goals as goal

pub place-requires : goal.place-requires
place-requires c = let p = ap length (piece_some c.args.s c.args.e c.if-s-e.true) in
    (c.requires.0, c.requires.1, c.requires.2, omega (arith, p, c.requires.3))

pub returns-then-s-e : goal.returns-then-s-e
returns-then-s-e c = rw (piece_some c.args.s c.args.e c.if-s-e.true) c.place.ensures

pub returns-then-from-count : goal.returns-then-from-count
returns-then-from-count c = rw (piece_none c.args.s c.args.e c.if-s-e.false) (close_none _ _ _ _ c.requires.2 _ (omega (arith, c.requires)) c.if-from-count.true c.clear.ensures)

pub returns : goal.returns
returns c = let more : c.args.from < c.args.count = elim (dec_lt c.args.from c.args.count) [
  | yes u ↦ u
  | no u ↦ absurd (c.if-from-count.false (omega (arith, c.requires.1)))
] in
    rw (piece_none c.args.s c.args.e c.if-s-e.false) (close_some _ _ _ _ c.requires.2 _ more c.place-2.ensures)
