-- `intersect_many::emit` meets its contract: three items at most, each written to its list. What of ours and of theirs starts below the other is
-- known by the starts of the whole items. Assumes nothing.
use Rattle.std.specs.Ordering.{is_lt, is_le}
use mathlib.Core.Path.{◌≡◌, sym, ap, ◌∙◌}
use mathlib.Core.Bool.{not}
use native.Mathlib.Omega.{arith}
use Rattle.keyless.specs.Keyless.{piece_item}
use Rattle.intersect.specs.Pair.{overlap}
use Rattle.intersect_many.proofs.Pieces.{keyed_one}
use Rattle.intersect_many.proofs.Stands.{above_below}
use Rattle.intersect_many.proofs.emit.Goals as goal

pub put_left-requires : goal.put_left-requires
put_left-requires c = (omega (arith, c.requires), λ t. sym (c.is_lt.ensures ∙ ap is_lt c.compare_in-starts.ensures) ∙ t)

pub put_left-requires-2 : goal.put_left-requires-2
put_left-requires-2 c = (
  omega (arith, c.requires),
  λ t. above_below c.args.pool.now c.args.a.whole.start c.args.b.whole.start (ap not (sym (c.is_le.ensures ∙ ap is_le c.compare_in-starts.ensures)) ∙ t),
)

pub returns : goal.returns
returns c = let met : c.overlap_by-meet.result ≡ overlap c.args.pool.now c.args.a.whole c.args.b.whole =
    c.overlap_by-meet.ensures ∙ rw (c.compare_in-starts.ensures, c.requires.ends_are) in
    let item : piece_item c.args.pool.now c.overlap_by-meet.result ≡ piece_item c.args.pool.now (overlap c.args.pool.now c.args.a.whole c.args.b.whole) =
    ap (piece_item c.args.pool.now) met in
    record {
      shared = rw (c.requires.shared, keyed_one c.args.pool.now, ← item) c.put_set.ensures;
      our_left = rw (c.requires.our_left, ← c.compare_in-starts.ensures, ← c.is_lt.ensures) c.put_left.ensures;
      their_left = rw (c.requires.their_left, ← c.compare_in-starts.ensures, ← c.is_le.ensures) c.put_left-2.ensures;
    }
