-- Module 7 of document 01: what the program writes of a file, from the file's bytes to the text. Definitions only. Assumes nothing.
use Rattle.std.specs.Prelude.{ℕ, List, [], ◌∷◌, Bool, cond, ◌||◌, ltb, Ok, Err}
use Rattle.query_item.specs.Items.{flat_all}
use Rattle.item_check.specs.Checks.{Answer, refused, Verdict, accepted, and_then}
use Rattle.intersect_many.specs.declared.ManyCounts.{ManyCounts}
use Rattle.intersect_many.specs.Lists.{shared_items, only_items, lists_verdict, counts_of}
use Rattle.krl_file.specs.File.{file_verdict, pool_of, ours_of, theirs_of}
use Rattle.krl_line.specs.Lines.{refusal_line}
use Rattle.krl_listing.specs.Listing.{listing_lines, text_of_lines}

-- ---- what the program answers: 10, then what the two lists are refused for, then 6 (01 refusal.6)

-- 01 m7.1: the two lists of a file, as words
abbrev pub our_words : List ℕ → List ℕ
our_words file = flat_all (ours_of file)

abbrev pub their_words : List ℕ → List ℕ
their_words file = flat_all (theirs_of file)

-- 01 m7.5: the program lends room for 2,048 items a list
abbrev pub list_room : ℕ
list_room = 2048

-- 01 no.6, reading A13: one of the three lists has more items than that; room gives 0 and 0
abbrev pub lacks_list_room : ManyCounts → Bool
lacks_list_room c = ltb list_room c.shared || ltb list_room c.ours || ltb list_room c.theirs

abbrev pub program_room_verdict : ManyCounts → Verdict
program_room_verdict c = cond (lacks_list_room c) (refused 6 0 0) accepted

unfoldable pub program_answer : List ℕ → Answer ManyCounts
program_answer file =
    and_then (file_verdict file)
    (and_then (lists_verdict (pool_of file) (our_words file) (their_words file))
    (and_then (program_room_verdict (counts_of (pool_of file) (our_words file) (their_words file)))
    (Ok (counts_of (pool_of file) (our_words file) (their_words file)))))

-- ---- what the program writes

-- 01 m4.1, m4.2, m4.3, m7.3: the listing of what the file's two lists share, of what only ours keeps, and of what only theirs keeps
abbrev pub file_lines : List ℕ → List (List ℕ)
file_lines file =
    listing_lines (pool_of file) (shared_items (pool_of file) (our_words file) (their_words file))
    (only_items (pool_of file) (our_words file) (their_words file))
    (only_items (pool_of file) (their_words file) (our_words file))

-- 01 m7.3, m7.6: that, or the one line of a refusal
abbrev pub answer_lines : List ℕ → Answer ManyCounts → List (List ℕ)
answer_lines file (Ok c) = file_lines file
answer_lines file (Err r) = refusal_line r ∷ []

unfoldable pub program_lines : List ℕ → List (List ℕ)
program_lines file = answer_lines file (program_answer file)

-- 01 m7.7: the lines one after the other
abbrev pub program_text : List ℕ → List ℕ
program_text file = text_of_lines (program_lines file)
