-- `query_item::pooled::compare_in` meets its contract: between two that have keys the keys decide, then the kinds; else the kinds alone.
-- Assumes nothing.
use Rattle.std.proofs.Common.{refl}
use Rattle.boundary.proofs.Rungs.{by_keys, by_kinds, kinds_cmp}
use Rattle.query_item.specs.Items.{bytes_of}
use Rattle.query_item.specs.Boundaries.{kind_of, key_of}
use Rattle.query_item.proofs.pooled.compare_in.Goals as goal

-- both have keys
pub returns-then-is_bounded : goal.returns-then-is_bounded
returns-then-is_bounded c = let pool = c.args.pool.now in
    rw (c.then.ensures, c.compare_keys.ensures, c.key.ensures, c.key-then-is_bounded.ensures, c.cmp.ensures, kinds_cmp, c.kind-left.ensures, c.kind-right.ensures)
    (by_keys (kind_of c.args.x) (kind_of c.args.y) (bytes_of pool (key_of c.args.x)) (bytes_of pool (key_of c.args.y)) refl refl
    (rw (← c.kind-left.ensures, ← c.kind-right.ensures, ← c.is_bounded.ensures, ← c.is_bounded-2.ensures) c.if-is_bounded.true))

-- one is unbounded
pub returns : goal.returns
returns c = let pool = c.args.pool.now in
    rw (c.cmp-2.ensures, kinds_cmp, c.kind-left.ensures, c.kind-right.ensures)
    (by_kinds (kind_of c.args.x) (kind_of c.args.y) (bytes_of pool (key_of c.args.x)) (bytes_of pool (key_of c.args.y)) refl refl
    (rw (← c.kind-left.ensures, ← c.kind-right.ensures, ← c.is_bounded.ensures, ← c.is_bounded-2.ensures) c.if-is_bounded.false))
