use mathlib.Core.Path.{refl}
use native.Mathlib.Omega.{arith}
use Rattle.pool_collect.specs.Table.{entry_key}
use Rattle.pool_collect.proofs.Packs.{packing_start, packing_room, packing_more}
use Rattle.pool_collect.proofs.pack.pack.Goals as goal

pub loop-entry-init : goal.loop-entry-init
loop-entry-init c = packing_start _ _ _

pub slice_bounds-copy-end : goal.slice_bounds-copy-end
unfolding entry_key
slice_bounds-copy-end c =
    omega (arith, packing_room _ _ _ c.requires _ _ _ c.loop-entry.invariant c.loop-entry-test.true (rw c.old_key.ensures at c.key_bytes-key.ensures))

pub loop-entry-preserved : goal.loop-entry-preserved
unfolding entry_key
loop-entry-preserved c =
    rw c.copy.ensures
    (packing_more _ _ _ c.requires _ _ _ c.loop-entry.invariant c.loop-entry-test.true (rw c.old_key.ensures at c.key_bytes-key.ensures) refl)
