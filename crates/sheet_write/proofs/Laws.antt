-- Each law that a caller cites, in the order of specs/. It is stated in the file that the line names, and passed on. Assumes nothing.
-- what is accepted to be written: plain items, by one and by the list
pub use Rattle.sheet_write.proofs.Plain.{plain_parts, PlainList, plain_list}
-- beside the algebra: a list that can be written is accepted where it is upright and in order, and an accepted one without wrappers can be written
pub use Rattle.sheet_write.proofs.Plain.{plain_checked, checked_plain}
-- where writing refuses, the bytes are as they were
pub use Rattle.sheet_write.proofs.Round.{write_refused}
-- where it answers: the list that it has passed, and the text that stands at the front of the bytes
pub use Rattle.sheet_write.proofs.Round.{written_plain, written_length, written_bytes, written_text}
-- what was written is read exactly where there is room for it, and to the same items by bytes
pub use Rattle.sheet_write.proofs.Round.{written_answer, written_fits, written_read}
-- what was read is accepted to be written, and is written in the plain form of its sheet
pub use Rattle.sheet_write.proofs.Round.{read_accepted, read_checked, read_text, read_written}
