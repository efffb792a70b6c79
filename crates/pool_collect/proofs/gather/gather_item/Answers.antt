-- `pool_collect::gather::gather_item` meets its contract: the start, then the end. Assumes nothing.
use native.Mathlib.Omega.{arith}
use lib.ListN.{length-set}
use Rattle.pool_collect.proofs.Passes.{gathers_item}
use Rattle.pool_collect.proofs.gather.gather_item.Goals as goal

pub bounds-places-at-2 : goal.bounds-places-at-2
bounds-places-at-2 c = simp length-set (omega (arith, c.requires.0.notes, c.requires.0.places_long))

pub returns : goal.returns
returns c = gathers_item _ _ _ _ _ _ _ _ c.gather_key.ensures c.gather_key-2.ensures
