-- Where a kind of boundary stands among those of one key, the unbounded ones at the ends. `proofs/Rungs.antt` says that the kinds are declared in
-- this order, by which `compare_boundaries` goes, and that it gives the order of boundaries. It serves 01 keys.7, keys.8. Assumes nothing.
use Rattle.std.specs.Prelude.{ℕ, Bool, ◌&&◌, ltb}
use Rattle.boundary.specs.declared.BoundaryKind.{BoundaryKind}
use Rattle.boundary.specs.declared.BoundaryKind.TheVariants.{UnboundedStart, UnboundedEnd, Inclusive, ExclusiveStart, ExclusiveEnd}

abbrev pub rung : BoundaryKind → ℕ
rung UnboundedStart = 0
rung ExclusiveEnd = 1
rung Inclusive = 2
rung ExclusiveStart = 3
rung UnboundedEnd = 4

abbrev pub bounded : ℕ → Bool
bounded x = ltb 0 x && ltb x 4
