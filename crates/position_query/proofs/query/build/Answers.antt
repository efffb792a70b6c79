-- `build` meets its contract: refused for want of room, or written, and counted as it is or made canonical and counted. Assumes nothing.
use Prim.Native.Nat.{◌/◌, ◌≤◌}
use mathlib.Core.Path.{sym, ap, ◌∙◌}
use native.Mathlib.Omega.{arith}
use lib.ListN.{length}
use borrow.Author.Tests.{leb-true, leb-false}
use Rattle.item_check.specs.Checks.{items_of}
use Rattle.position_given.specs.Answers.{length_of, stored_of}
use Rattle.position_query.specs.Ranges.{ranges}
use Rattle.position_query.proofs.Builds.{build_short, build_whole, build_counted}
use Rattle.position_query.proofs.query.build.Goals as goal

pub returns-then-not-has_room : goal.returns-then-not-has_room
returns-then-not-has_room c = rw (ap stored_of c.refuse.ensures)
    (build_short c.args.pool.now c.args.items.now c.args.count c.args.out.now (leb-false _ _ (sym c.has_room.ensures ∙ c.if-not-has_room.true)))

pub count_front-requires : goal.count_front-requires
count_front-requires c = let fits : length (ranges c.args.pool.now c.args.count (items_of c.args.items.now)) ≤ length c.args.out.now / 2 =
    leb-true _ _ (sym c.has_room.ensures ∙ c.if-not-has_room.false) in
    omega (arith, c.write_ranges-k.ensures.value, c.write_ranges-k.auto.out)

pub with_total-requires : goal.with_total-requires
with_total-requires c = c.make_canonical-m.ensures.canonical

pub returns-in-Ok : goal.returns-in-Ok
returns-in-Ok c = let fits = leb-true _ _ (sym c.has_room.ensures ∙ c.if-not-has_room.false) in
    build_counted c.args.pool.now c.args.items.now c.args.count c.args.out.now c.write_ranges-k.result c.write_ranges-k.new.out _ fits
    c.write_ranges-k.ensures.value c.write_ranges-k.auto.out (c.write_ranges-k.ensures.writes (omega arith)) (sym c.count_front.ensures ∙ ap length_of c.in-Ok.is)

pub returns : goal.returns
returns c = let fits = leb-true _ _ (sym c.has_room.ensures ∙ c.if-not-has_room.false) in
    build_whole c.args.pool.now c.args.items.now c.args.count c.args.out.now c.write_ranges-k.result c.write_ranges-k.new.out c.make_canonical-m.new.words c.make_canonical-m.result _ fits
    c.write_ranges-k.ensures.value c.write_ranges-k.auto.out (c.write_ranges-k.ensures.writes (omega arith)) c.make_canonical-m.ensures c.with_total.ensures
