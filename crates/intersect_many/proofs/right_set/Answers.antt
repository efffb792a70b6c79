-- `intersect_many::right_set` meets its contract: what starts where the whole item does is not before b. Assumes nothing.
use borrow.Author.Rules.{rules}
use mathlib.Core.Path.{◌≡◌}
use mathlib.Core.Bool.{false}
use Rattle.intersect.specs.Pair.{before}
use Rattle.intersect_many.specs.Sweep.{right_set}
use Rattle.intersect_many.proofs.right_set.Goals as goal

pub returns-then-ne : goal.returns-then-ne
returns-then-ne c = c.right_asked.ensures

pub returns : goal.returns
unfolding right_set
returns c = let starts : c.args.a.left.start ≡ c.args.a.whole.start = search (rules, c.if-ne.false, c.ne.ensures) in
    let meets : before c.args.pool.now c.args.b c.args.a.left ≡ false = rw starts c.requires in
    rw (meets, c.past_set.ensures)
