-- Each law that a caller cites, in the order of specs/. It is stated in the file that the line names, and passed on. Assumes nothing.

-- items read back from their words
pub use Rattle.query_item.proofs.Words.{query_words, wrapper_words, each_code, unknown_item, each_item}
-- a boundary is made of its kind and its key
pub use Rattle.query_item.proofs.Made.{with_own_key, same_made}
-- the item between two boundaries, in three cases
pub use Rattle.query_item.proofs.Between.{Starts, Ends, item_sides, each_between}
-- an item holds a key by the table exactly where the key lies between its boundaries, and what two boundaries make holds what lies between
pub use Rattle.query_item.proofs.Held.{holds_between, Keeps, item_keeps, holds_converted}
-- a start and an end make an item, and it shows what these tell; items that show the same have the same boundaries
pub use Rattle.query_item.proofs.Told.{told, Tells, item_told, shown_range}
-- they hold the same keys, of lists too, and are upright alike
pub use Rattle.query_item.proofs.Shown.{upright_shown, holds_shown, length_shown, holds_each_shown, holds_any_shown}
-- ranges seen as their two boundaries
pub use Rattle.query_item.proofs.Seen.{Sides, seen, inverted, smaller_seen, invert_seen, told_item, shown_item, item_seen, ranges_seen}
-- ranges as intervals of ranks
pub use Rattle.query_item.proofs.Fits.{key_fits, boundary_fits}
pub use Rattle.query_item.proofs.Intervals.{rank_in, less_rank, at_most_rank, rank_says_in, rank_same_in, told_same, interval, same_seen, Whole}
pub use Rattle.query_item.proofs.Intervals.{upright_whole, whole_upright, holds_interval, holds_any_interval, holds_made, invert_start, invert_end, rank_top}
