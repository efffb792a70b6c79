-- `intersect_many::how_they_stand` meets its contract: each return is what the tests on the way leave. Assumes nothing.
use mathlib.Core.Path.{◌≡◌}
use Rattle.intersect.specs.Pair.{before}
use Rattle.intersect_many.proofs.how_they_stand.Goals as goal

pub returns-then-is_before : goal.returns-then-is_before
returns-then-is_before c = let first : c.is_before.result ≡ before c.args.pool.now c.args.a c.args.b = c.is_before.ensures in
    rw (← first, c.if-is_before.true)

pub returns-then-is_before-2 : goal.returns-then-is_before-2
returns-then-is_before-2 c = rw (← c.is_before.ensures, c.if-is_before.false, ← c.is_before-2.ensures, c.if-is_before-2.true)

pub returns : goal.returns
returns c = rw (← c.is_before.ensures, c.if-is_before.false, ← c.is_before-2.ensures, c.if-is_before-2.false, c.compare_in.ensures)
