-- `intersect_many::Lists::write` meets its contract: with room for all that there can be the pass writes; else it counts, the room is refused and
-- nothing is written, or the pass writes what it counted. Assumes nothing.
use Prim.Native.Nat.{◌/◌, ◌+◌}
use mathlib.Core.Path.{sym, ◌∙◌}
use lib.ListN.{length}
use Rattle.query_item.specs.Items.{item_size}
use Rattle.intersect_many.specs.declared.ManyCounts.{ManyCounts}
use Rattle.intersect_many.proofs.Room.{counted, room_for_fewer, lists_refused, lists_answered}
use Rattle.intersect_many.proofs.Lists.write.Goals as goal

pub returns-then-not-lack_room : goal.returns-then-not-lack_room
returns-then-not-lack_room c = let all = length c.args.self.ours.now / item_size + length c.args.self.theirs.now / item_size in
    let most : ManyCounts = record { shared = all; ours = all; theirs = all } in
    let there = sym c.lack_room.ensures ∙ c.if-not-lack_room.true in
    let room = room_for_fewer c.sweep.result most c.args.shared_out.now c.args.ours_out.now c.args.theirs_out.now c.sweep.ensures.few.shared c.sweep.ensures.few.ours_only c.sweep.ensures.few.theirs_only there in
    lists_answered c.args.self.pool.now c.args.self.ours.now c.args.self.theirs.now c.args.shared_out.now c.args.ours_out.now c.args.theirs_out.now
    c.sweep.result (counted c.args.self.pool.now c.args.self.ours.now c.args.self.theirs.now c.sweep.result c.sweep.ensures) room {m = c.sweep.result} c.sweep.ensures

pub returns-then-lack_room : goal.returns-then-lack_room
returns-then-lack_room c = rw c.refuse.ensures
    (lists_refused c.args.self.pool.now c.args.self.ours.now c.args.self.theirs.now c.args.shared_out.now c.args.ours_out.now c.args.theirs_out.now c.count-n.result c.count-n.ensures
    (sym c.lack_room-2.ensures ∙ c.if-lack_room.true))

pub returns : goal.returns
returns c = lists_answered c.args.self.pool.now c.args.self.ours.now c.args.self.theirs.now c.args.shared_out.now c.args.ours_out.now c.args.theirs_out.now
    c.count-n.result c.count-n.ensures (sym c.lack_room-2.ensures ∙ c.if-lack_room.false) {m = c.sweep-2.result} c.sweep-2.ensures
