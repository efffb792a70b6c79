-- Each law that a caller cites. It is stated in the file that the line names, and passed on. Assumes nothing.

-- the table's answers about a key are those of the item's boundaries
pub use Rattle.item_ask.proofs.Between.{containment_between_lem}
-- where a direction is answered no, no key that the item holds stands there (01 m2.5)
pub use Rattle.item_ask.proofs.Directions.{no_left, no_right}
-- yes may be a false hope: RangeAfter 05 asked left of 05 00 is answered yes, and no key that it holds stands there (01 m2.5)
pub use Rattle.item_ask.proofs.Directions.{hope_answered, hope_false}
