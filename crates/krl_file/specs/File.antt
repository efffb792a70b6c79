-- Module 7 of document 01: the KRL file, and reading it to lent lists of items. Definitions only. Assumes nothing.
use Rattle.std.specs.Prelude.{ℕ, zero, suc, ◌+◌, ◌*◌, List, [], ◌∷◌, Bool, cond, ◌||◌, ◌&&◌, length, get_or, take, drop, leb, eqb, Ok}
use Rattle.query_item.specs.declared.ItemWords.{ItemWords}
use Rattle.query_item.specs.Items.{key_at, item_words}
use Rattle.item_check.specs.Checks.{Answer, refused, Verdict, accepted, and_then}
use Rattle.item_lists.specs.Written.{passes}
use Rattle.krl_file.specs.declared.FileParts.{FileParts}

-- ---- the head

-- 01 m7.1: mark KRL, the bytes 4B 52 4C
abbrev pub mark : List ℕ
mark = 75 ∷ 82 ∷ 76 ∷ []

-- 01 m7.1: version 1
abbrev pub version : ℕ
version = 1

-- 01 m7.1: the mark and four u16, so the pool is at 11
abbrev pub head_size : ℕ
head_size = 11

-- 01 m7.1: 8-byte records
abbrev pub record_size : ℕ
record_size = 8

-- 01 no.10: file over 65,536 bytes
abbrev pub most_file : ℕ
most_file = 65536

-- 01 m7.1: what is past the file's end reads as 0
abbrev pub byte_at : List ℕ → ℕ → ℕ
byte_at file i = get_or file i 0

-- 01 m7.1: big-endian u16
unfoldable pub u16_at : List ℕ → ℕ → ℕ
u16_at file i = byte_at file i * 256 + byte_at file (i + 1)

-- 01 m7.1: mark KRL, then version 1, pool length, ours count, theirs count
abbrev pub has_mark : List ℕ → Bool
has_mark file = eqb (byte_at file 0) (byte_at mark 0) && eqb (byte_at file 1) (byte_at mark 1) && eqb (byte_at file 2) (byte_at mark 2)

abbrev pub has_version : List ℕ → Bool
has_version file = eqb (u16_at file 3) version

abbrev pub pool_length : List ℕ → ℕ
pool_length file = u16_at file 5

abbrev pub ours_count : List ℕ → ℕ
ours_count file = u16_at file 7

abbrev pub theirs_count : List ℕ → ℕ
theirs_count file = u16_at file 9

-- 01 m7.1, m7.2: the head, the pool, then the records, ours first; nothing follows
abbrev pub ours_from : List ℕ → ℕ
ours_from file = head_size + pool_length file

abbrev pub theirs_from : List ℕ → ℕ
theirs_from file = ours_from file + record_size * ours_count file

abbrev pub whole_size : List ℕ → ℕ
whole_size file = theirs_from file + record_size * theirs_count file

-- 01 no.10: file over 65,536 bytes, or wrong mark, version or length; one shorter than its head has a wrong length
abbrev pub well_formed : List ℕ → Bool
well_formed file = leb (length file) most_file && has_mark file && has_version file && eqb (length file) (whole_size file)

-- 01 refusal.2: file gives 0 and 0
abbrev pub file_verdict : List ℕ → Verdict
file_verdict file = cond (well_formed file) accepted (refused 10 0 0)

-- ---- the pool and the records

-- 01 m7.1: the pool; of a file that ends before it does, what is there
abbrev pub pool_of : List ℕ → List ℕ
pool_of file = take (pool_length file) (drop head_size file)

-- 01 m7.1: records: code, wrapper, start offset u16, start length u8, end offset u16, end length u8
unfoldable pub record_at : List ℕ → ℕ → ItemWords
record_at file at =
    item_words (byte_at file at) (byte_at file (at + 1))
    (key_at (u16_at file (at + 2)) (byte_at file (at + 4)))
    (key_at (u16_at file (at + 5)) (byte_at file (at + 7)))

-- 01 m7.1: n records, one after the other
unfoldable pub records_from : List ℕ → ℕ → ℕ → List ItemWords
records_from file at zero = []
records_from file at (suc n) = record_at file at ∷ records_from file (at + record_size) n

abbrev pub ours_of : List ℕ → List ItemWords
ours_of file = records_from file (ours_from file) (ours_count file)

abbrev pub theirs_of : List ℕ → List ItemWords
theirs_of file = records_from file (theirs_from file) (theirs_count file)

-- ---- the call: 10, then the room of the two lists

-- 01 m7.1: the pool's length and the two counts
abbrev pub parts_of : List ℕ → FileParts
parts_of file = record { pool = pool_length file; ours = ours_count file; theirs = theirs_count file }

-- 01 no.6, refusal.2: the result needs more room than lent; room gives 0 and 0
abbrev pub file_room_verdict : FileParts → List ℕ → List ℕ → Verdict
file_room_verdict p ours theirs = cond (passes p.ours ours || passes p.theirs theirs) (refused 6 0 0) accepted

abbrev pub file_room_answer : List ℕ → List ℕ → List ℕ → Answer FileParts
file_room_answer file ours theirs = and_then (file_room_verdict (parts_of file) ours theirs) (Ok (parts_of file))

-- 01 refusal.6: 10 first, 6 last
abbrev pub file_answer : List ℕ → List ℕ → List ℕ → Answer FileParts
file_answer file ours theirs = and_then (file_verdict file) (file_room_answer file ours theirs)
