-- Each law that a caller cites. It is stated in the file that the line names, and passed on. Assumes nothing.

-- the kind of a kind's number is that kind; bytes and a kind's number of a boundary of a pool give that boundary
pub use Rattle.range_borrowed.proofs.Bounds.{kind_of_number, lent_boundary}
-- where a direction is answered no, no key between the boundaries stands there
pub use Rattle.range_borrowed.proofs.Directions.{none_left, none_right}
