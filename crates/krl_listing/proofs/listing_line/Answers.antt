-- `listing_line` meets its contract: the list that has the line, or none. Assumes nothing.
use mathlib.Core.Path.{refl, sym}
use Rattle.lent_text.proofs.Laws.{stored_none}
use Rattle.krl_listing.proofs.Lines.{line_shared, line_ours, line_theirs, line_none}
use Rattle.krl_listing.proofs.listing_line.Goals as goal

pub returns-then-i-shared : goal.returns-then-i-shared
returns-then-i-shared c = rw (line_shared c.args.pool.now c.args.shared_out.now c.args.ours_out.now c.args.theirs_out.now c.args.counts c.args.i c.if-i-shared.true) c.put_of_list.ensures

pub returns-then-later-ours : goal.returns-then-later-ours
returns-then-later-ours c = rw (line_ours c.args.pool.now c.args.shared_out.now c.args.ours_out.now c.args.theirs_out.now c.args.counts c.args.i
    c.if-i-shared.false c.if-later-ours.true) c.put_of_list-then-later-ours.ensures

pub returns-then-last-theirs : goal.returns-then-last-theirs
returns-then-last-theirs c = rw (line_theirs c.args.pool.now c.args.shared_out.now c.args.ours_out.now c.args.theirs_out.now c.args.counts c.args.i
    c.if-i-shared.false c.if-later-ours.false) c.put_of_list-then-last-theirs.ensures

pub returns : goal.returns
returns c = rw (line_none c.args.pool.now c.args.shared_out.now c.args.ours_out.now c.args.theirs_out.now c.args.counts c.args.i c.if-i-shared.false c.if-later-ours.false c.if-last-theirs.false)
    (refl, sym (stored_none c.args.out.now 0))
