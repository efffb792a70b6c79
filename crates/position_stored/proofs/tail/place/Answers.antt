-- `place` meets its contract: the pairs behind are copied where they move, and one is put; what is moved and cleared is laid. Assumes nothing.
use Prim.Native.Nat.{◌+◌, ◌-◌, ◌*◌}
use mathlib.Core.Path.{◌≡◌}
use mathlib.Core.List.{◌∷◌}
use native.Mathlib.Omega.{arith}
use lib.Seq.{sets}
use Rattle.pairs_sort.specs.Pairs.{put, pairs_from, flat_pairs}
use Rattle.position_stored.proofs.Words.{tail_stays, copied_put}
use Rattle.position_stored.proofs.Places.{place_is}
use Rattle.position_stored.proofs.tail.place.Goals as goal
use Rattle.position_stored.proofs.tail.place.Goals.{then-from-at, else-from-at}

pub returns : goal.returns
returns c =
    let moved : put c.if-from-at.words c.args.at c.args.s c.args.e
    ≡ sets c.args.words.now (2 * c.args.at) (c.args.s ∷ c.args.e ∷ flat_pairs (pairs_from c.args.words.now c.args.from (c.args.count - c.args.from))) =
    elim c.if-from-at.branch [
      | then-from-at w ↦ rw w.words-is (copied_put c.args.words.now c.args.count c.args.at c.args.from c.args.s c.args.e (omega arith) (omega arith) (omega arith) w.copy_within.new.self w.copy_within.ensures.after)
      | else-from-at w ↦ rw (w.words-is, w.if-from-at.false) (tail_stays c.args.words.now c.args.at (c.args.count - (c.args.at + 1)) c.args.s c.args.e)
    ] in
    place_is _ _ _ _ c.requires.2 _ _ _ _ c.requires.3 moved c.clear.ensures
