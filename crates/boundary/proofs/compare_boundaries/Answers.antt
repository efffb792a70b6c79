-- `boundary::compare_boundaries` meets its contract: kinds stand as their rungs do, and between two that have keys the keys decide first.
-- Assumes nothing.
use Rattle.std.proofs.Common.{refl}
use Rattle.boundary.proofs.Rungs.{by_keys, by_kinds, kinds_cmp}
use Rattle.boundary.proofs.compare_boundaries.Goals as goal

-- both have keys
pub returns-then-is_bounded : goal.returns-then-is_bounded
returns-then-is_bounded c = let args = c.args in
    rw (c.then.ensures, c.compare.ensures, c.cmp-kinds.ensures, kinds_cmp)
    (by_keys args.left args.right args.a.now args.b.now refl refl (rw (← c.is_bounded.ensures, ← c.is_bounded-2.ensures) c.if-is_bounded.true))

-- one is unbounded
pub returns : goal.returns
returns c = let args = c.args in
    rw (c.cmp-kinds.ensures, kinds_cmp)
    (by_kinds args.left args.right args.a.now args.b.now refl refl (rw (← c.is_bounded.ensures, ← c.is_bounded-2.ensures) c.if-is_bounded.false))
