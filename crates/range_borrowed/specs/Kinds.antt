-- The numbers that stand for kinds of boundaries, in the borrowed range and in the C interface. Definitions only. Assumes nothing.
use Rattle.std.specs.Prelude.{ℕ, cond, eqb}
use Rattle.boundary.specs.declared.BoundaryKind.{BoundaryKind}
use Rattle.boundary.specs.declared.BoundaryKind.TheVariants.{UnboundedStart, UnboundedEnd, Inclusive, ExclusiveStart, ExclusiveEnd}

-- 01 form.10: the borrowed range holds two byte slices and kind numbers
abbrev pub kind_number : BoundaryKind → ℕ
kind_number UnboundedStart = 0
kind_number UnboundedEnd = 1
kind_number Inclusive = 2
kind_number ExclusiveStart = 3
kind_number ExclusiveEnd = 4

-- 01 form.10: the kind of a number; one above 4 is read as 4, and the C interface refuses it before it is read
abbrev pub kind_numbered : ℕ → BoundaryKind
kind_numbered n =
    cond (eqb n 0) UnboundedStart
    (cond (eqb n 1) UnboundedEnd
    (cond (eqb n 2) Inclusive
    (cond (eqb n 3) ExclusiveStart
    ExclusiveEnd)))
