-- `intersect_many::put_left` meets its contract: nothing where none may start below, else the part below, where there is one. Assumes nothing.
use borrow.Author.Rules.{rules}
use Rattle.std.specs.Ordering.{is_lt}
use mathlib.Core.Path.{◌≡◌, sym, ◌∙◌}
use mathlib.Core.Bool.{true, false}
use Rattle.query_item.specs.Boundaries.{compare_in}
use Rattle.intersect_many.proofs.Pieces.{keyed_one, put_none_keyed}
use Rattle.intersect_many.proofs.put_left.Goals as goal

pub returns-then-not-may : goal.returns-then-not-may
returns-then-not-may c = let none : c.args.may ≡ false = c.if-not-may.true in
    rw none (put_none_keyed c.args.pool.now c.args.out.now c.args.n)

pub returns-then-eq : goal.returns-then-eq
returns-then-eq c = let may : c.args.may ≡ true = c.if-not-may.false in
    let starts : c.args.a.left.start ≡ c.args.a.whole.start = search (rules, c.if-eq.true, c.eq.ensures) in
    let less : is_lt (compare_in c.args.pool.now c.args.a.left.start c.args.b.start) ≡ true = rw starts (c.requires.1 may) in
    rw (may, less, keyed_one c.args.pool.now) c.put_below.ensures

pub returns-then-below_in : goal.returns-then-below_in
returns-then-below_in c = let less : is_lt (compare_in c.args.pool.now c.args.a.left.start c.args.b.start) ≡ true = sym c.below_in.ensures ∙ c.if-below_in.true in
    let may : c.args.may ≡ true = c.if-not-may.false in
    rw (may, less, keyed_one c.args.pool.now) c.put_below-then-below_in.ensures

pub returns : goal.returns
returns c = let less : is_lt (compare_in c.args.pool.now c.args.a.left.start c.args.b.start) ≡ false = sym c.below_in.ensures ∙ c.if-below_in.false in
    let may : c.args.may ≡ true = c.if-not-may.false in
    rw (may, less) (put_none_keyed c.args.pool.now c.args.out.now c.args.n)
