-- The kinds of boundaries, beside the bytes of a key, and `invert`. Definitions only. Assumes nothing.
use Rattle.std.specs.Prelude.{ℕ, List, Bool, true, false}
use Rattle.key_order.specs.Boundary.{Boundary, unbounded_start, unbounded_end, at_key, exclusive_end, inclusive, exclusive_start}
use Rattle.boundary.specs.declared.BoundaryKind.{BoundaryKind}
use Rattle.boundary.specs.declared.BoundaryKind.TheVariants as kind

-- 01 change.3: the boundary enum with a borrowed key becomes a kind beside a lent slice
abbrev pub boundary : BoundaryKind → List ℕ → Boundary
boundary kind.UnboundedStart k = unbounded_start
boundary kind.UnboundedEnd k = unbounded_end
boundary kind.Inclusive k = at_key k inclusive
boundary kind.ExclusiveStart k = at_key k exclusive_start
boundary kind.ExclusiveEnd k = at_key k exclusive_end

-- 01 m2.2: `invert` makes Inclusive the exclusive boundary of the asked side (true: a start), either exclusive one Inclusive, and keeps the unbounded
abbrev pub invert_kind : BoundaryKind → Bool → BoundaryKind
invert_kind kind.UnboundedStart side = kind.UnboundedStart
invert_kind kind.UnboundedEnd side = kind.UnboundedEnd
invert_kind kind.Inclusive true = kind.ExclusiveStart
invert_kind kind.Inclusive false = kind.ExclusiveEnd
invert_kind kind.ExclusiveStart side = kind.Inclusive
invert_kind kind.ExclusiveEnd side = kind.Inclusive
