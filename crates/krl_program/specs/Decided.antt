-- What stands in the program's lists between the decision and the last line. No promise of a public call cites this. It serves 01 m7.3, m7.5.
-- Assumes nothing.
use Rattle.item_check.specs.declared.Refusal.{Refusal}
use Rattle.std.specs.Prelude.{ℕ, ◌+◌, ◌*◌, ◌≤◌, ◌<◌, ◌≡◌, List, [], length, get_or, take, Ok, Err, Result}
use Rattle.query_item.specs.Items.{item_size, items_from}
use Rattle.intersect_many.specs.declared.ManyCounts.{ManyCounts}
use Rattle.intersect_many.specs.Lists.{shared_items, only_items}
use Rattle.krl_file.specs.File.{pool_of}
use Rattle.krl_listing.specs.Listing.{most_line}
use Rattle.krl_program.specs.Program.{our_words, their_words, list_room, program_answer, program_lines}

-- the room that the program lends: for the records of the longest file, and for each of the three lists
abbrev pub most_records : ℕ
most_records = 8190

pub record Rooms (ours theirs shared_out ours_out theirs_out : List ℕ) : Type 0 where
  pub our_records : length ours ≡ item_size * most_records
  pub their_records : length theirs ≡ item_size * most_records
  pub shared : length shared_out ≡ item_size * list_room
  pub ours_only : length ours_out ≡ item_size * list_room
  pub theirs_only : length theirs_out ≡ item_size * list_room

-- three lists begin with the items that a file's listing has
pub record Listed (file shared_out ours_out theirs_out : List ℕ) (c : ManyCounts) : Type 0 where
  pub shared : items_from shared_out 0 c.shared ≡ shared_items (pool_of file) (our_words file) (their_words file)
  pub ours_only : items_from ours_out 0 c.ours ≡ only_items (pool_of file) (our_words file) (their_words file)
  pub theirs_only : items_from theirs_out 0 c.theirs ≡ only_items (pool_of file) (their_words file) (our_words file)

-- what a file is answered is known, and where it is no refusal, the lists are its lists
pub record Decided (file shared_out ours_out theirs_out : List ℕ) (r : Result ManyCounts Refusal) : Type 0 where
  pub answer : r ≡ program_answer file
  pub lists : (c : ManyCounts) → r ≡ Ok c → Listed file shared_out ours_out theirs_out c

-- how many lines an answer has
abbrev pub lines_of : Result ManyCounts Refusal → ℕ
lines_of (Ok c) = 3 + c.shared + c.ours + c.theirs
lines_of (Err r) = 1

-- the lines of a decided file can be asked for: there is such a line, and lent bytes for the longest
pub record Asked (file shared_out ours_out theirs_out : List ℕ) (r : Result ManyCounts Refusal) (i : ℕ) (line : List ℕ) : Type 0 where
  pub decided : Decided file shared_out ours_out theirs_out r
  pub there : i < length (program_lines file)
  pub room : most_line ≤ length line

-- the first n of the lent bytes are the line
pub record Given (file : List ℕ) (i : ℕ) (line : List ℕ) (n : ℕ) : Type 0 where
  pub bytes : take n line ≡ get_or (program_lines file) i []
  pub within : n ≤ length line
