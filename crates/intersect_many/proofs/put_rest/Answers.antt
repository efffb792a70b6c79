use Prim.Native.Nat.{◌+◌}
use native.Mathlib.Omega.{arith}
use Rattle.query_item.specs.Boundaries.{set_at}
use Rattle.keyless.specs.Keyless.{piece_item}
use Rattle.item_lists.specs.Written.{as_items, Put}
use Rattle.item_lists.proofs.Written.{at_most_one, left_start, left_put, left_done, put_then}
use Rattle.intersect_many.specs.Lists.{keyed_items}
use Rattle.intersect_many.specs.Sweep.{sets_left}
use Rattle.intersect_many.proofs.Pieces.{keyed_none, put_none_keyed}
use Rattle.intersect_many.proofs.Rests.{sets_end, rest_end, keyed_more, keyed_rest}
use Rattle.intersect_many.proofs.put_rest.Goals as goal

pub returns-then-count-i : goal.returns-then-count-i
returns-then-count-i c = rw (rest_end c.args.words.now c.args.i c.args.x c.if-count-i.true) (put_none_keyed c.args.pool.now c.args.out.now c.args.n)

pub loop-k-init : goal.loop-k-init
loop-k-init c = (
  omega (arith, c.put_set-m.ensures.count, at_most_one (piece_item c.args.pool.now c.args.x)),
  left_start _ _ _,
)

pub loop-k-preserved : goal.loop-k-preserved
loop-k-preserved c = let item = piece_item c.args.pool.now (set_at c.args.words.now c.loop-k.k) in
    let p : Put _ c.loop-k.m (as_items item) _ _ = rw c.set_at.ensures at c.put_set-m-in-loop-k.ensures in (
      omega (arith, c.loop-k.invariant.0, p.count, at_most_one item),
      left_put c.loop-k.invariant.1 (as_items item) _ (keyed_more c.args.pool.now c.args.words.now c.loop-k.k c.loop-k-test.true) p,
    )

pub returns : goal.returns
returns c = let done = left_done c.loop-k.invariant.1 (rw (sets_end c.args.words.now c.loop-k.k c.loop-k-test.false) (keyed_none c.args.pool.now)) in
    rw (keyed_rest c.args.pool.now c.args.words.now c.args.i c.args.x c.if-count-i.false)
    (put_then c.args.out.now c.args.n (as_items (piece_item c.args.pool.now c.args.x)) (keyed_items c.args.pool.now (sets_left c.args.words.now (c.args.i + 1)))
    c.put_set-m.ensures done)
