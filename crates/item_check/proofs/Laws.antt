-- Each law that a caller cites, in the order of specs/. It is stated in the file that the line names, and passed on. Assumes nothing.

-- two tests joined
pub use Rattle.key_order.proofs.Bools.{both_true, both_false}
-- an answer tells its refusal, and a call has one answer
pub use Rattle.item_check.proofs.Apart.{refused_apart, single_answer}
-- what the check of a list accepts
pub use Rattle.item_check.proofs.Accepted.{AllSound, Following, InOrder, AcceptedList, accepts, refuses, items_pass, shape_passes, accepted_list, pool_passes}
-- what a call that answers has passed, and what a call leaves in words lent to it
pub use Rattle.item_check.proofs.Accepted.{answers, words_refused, words_answered}
-- one fault before another, and what an item has with which nothing is wrong
pub use Rattle.item_check.proofs.Faults.{first_none, first_some, fault_parts, sound_parts, Formed, formed_parts, formed_by, words_formed}
pub use Rattle.item_check.proofs.Faults.{zero_absent, absent_in, KeyIn, inside_keys, outside_words, fault_by, keys_in}
-- a list at an index
pub use Rattle.item_check.proofs.Scans.{items_end, items_more, items_all, fault_passes, fault_refused, bad_end, bad_here, bad_next}
-- its items stand one above another, and at most one of them holds a key
pub use Rattle.item_check.proofs.Strict.{Strict, later_starts, later_ends, holds_once}
-- lists that show the same are strict alike
pub use Rattle.item_check.proofs.Shown.{strict_shown}
-- of lists of anything: what holds of all that is in one, and one in another order
pub use Rattle.intervals.specs.Lists.{Reordered}
pub use Rattle.intervals.proofs.Laws.{All, reordered_by, length_reordered, all_reordered}
