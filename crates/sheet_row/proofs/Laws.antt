-- Each law that a caller cites. It is stated in the file that the line names, and passed on. Assumes nothing.

-- what is written is read: a key's digits, a row, a sheet
pub use Rattle.sheet_row.proofs.Written.{Bytes, key_is, key_reads, Sound, first_text, SoundAll, none, more, sheet_text_lem}
-- a sheet row by row
pub use Rattle.sheet_row.proofs.Written.{rows_step, rows_none}
-- the lanes of a sheet are sound, and its plain form is read to the same lanes
pub use Rattle.sheet_row.proofs.Lanes.{lanes_sound, plain_lanes}
-- the lanes of plain items are sound, and such items show what their lanes say
pub use Rattle.sheet_row.proofs.Lanes.{PlainIn, items_sound, lane_shown, shown_lanes}
