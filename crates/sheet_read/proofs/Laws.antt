-- Each law that a caller cites, in the order of specs/. It is stated in the file that the line names, and passed on. Assumes nothing.
-- a quoted field may be taken to end at the next quote: a row with a doubled one is bad
pub use Rattle.sheet_read.proofs.Quotes.{first_short}
-- packed items say the lanes whose keys are packed, and are plain; there are as many as lanes
pub use Rattle.sheet_read.proofs.Packed.{items_shown, packed_plain}
pub use Rattle.sheet_read.proofs.Answers.{length_packed}
-- what a sheet has that is read
pub use Rattle.sheet_read.proofs.Answers.{Reads, reads}
-- few rows with short keys, as plain items have, are read exactly where there is room
pub use Rattle.sheet_read.proofs.Room.{read_room, read_fits, lanes_short}
-- a call that refuses leaves the pool and the list as they were
pub use Rattle.sheet_read.proofs.Read.{read_refused}
-- what a call that answers has passed, what it counts
pub use Rattle.sheet_read.proofs.Read.{read_passed, read_good, read_counts, read_rows}
-- and what it leaves in the pool and in the list
pub use Rattle.sheet_read.proofs.Read.{read_bytes, length_read_pool, read_words, length_read_list, read_items}
-- its items say the sheet's lanes, are plain, and show what the rows say
pub use Rattle.sheet_read.proofs.Read.{read_lanes, read_plain, read_shown}
-- items read into the rest of a pool, over the whole pool
pub use Rattle.sheet_read.proofs.Behind.{moved, item_behind, fault_behind, read_behind}
-- the plain form of a sheet is read as the sheet is
pub use Rattle.sheet_read.proofs.Again.{plain_again, read_again}
