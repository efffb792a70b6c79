-- What a reader of `krl_file` may cite, in the order of specs/. The answer: what is known where the call answers, `answered→read`. The file: `well-formed→whole`, `head_fits`, `counts_few`, `room_enough`, `length_pool`, `length_ours`, `length_theirs`.
-- The lent lists: `length_laid`, `ours_read_back`, `theirs_read_back`. Assumes nothing.
use Rattle.std.specs.Prelude.{Ok}
use Prim.Native.Nat.{ℕ, ◌+◌, ◌*◌, ◌/◌, ◌≤◌}
use mathlib.Core.Path.{◌≡◌, refl, sym}
use mathlib.Core.Bool.{Bool, true, false, cond, ◌||◌}
use mathlib.Core.List.{List, []}
use native.Mathlib.Omega.{arith}
use lib.ListN.{length, drop, length-take, length-drop, length-append}
use borrow.Author.Tests.{ltb-false, le-ltb}
use Rattle.query_item.specs.declared.ItemWords.{ItemWords}
use Rattle.query_item.specs.Items.{item_size, items_from, flat_all}
use Rattle.item_check.specs.Checks.{Answer, refused, accepted, and_then}
use Rattle.krl_file.specs.declared.FileParts.{FileParts}
use Rattle.krl_file.specs.File.{head_size, record_size, pool_length, ours_count, theirs_count, ours_from, theirs_from, well_formed, pool_of, ours_of}
use Rattle.krl_file.specs.File.{theirs_of, parts_of, file_room_answer, file_answer}
use Rattle.item_lists.specs.Written.{passes, laid_over}
use Rattle.item_lists.proofs.Written.{length_flat}
use Rattle.item_lists.proofs.Read.{items_read_lem}
use Rattle.krl_file.proofs.Written.{length_records}
-- a well-formed file is small, marked, of the version, and as long as its head says
pub use Rattle.krl_file.proofs.Room.{WholeFile, well-formed→whole}

-- ---- the answer

-- what is known of a file and of the lent lists where the call answers
pub record ReadFile (file ours theirs : List ℕ) (p : FileParts) : Type 0 where
  pub parts : p ≡ parts_of file
  pub formed : well_formed file ≡ true
  pub ours_room : ours_count file ≤ length ours / item_size
  pub theirs_room : theirs_count file ≤ length theirs / item_size

pub answered→read : (file ours theirs : List ℕ) (p : FileParts) → file_answer file ours theirs ≡ Ok p → ReadFile file ours theirs p
answered→read file ours theirs p = formed (well_formed file) refl
  where
    room : (t u : Bool) → t ≡ passes (ours_count file) ours → u ≡ passes (theirs_count file) theirs → well_formed file ≡ true
        → ◌≡◌ {A = Answer FileParts} (and_then (cond (t || u) (refused 6 0 0) accepted) (Ok (parts_of file))) (Ok p)
        → ReadFile file ours theirs p
    room false false o h w e = record {
      parts = cc;
      formed = w;
      ours_room = ltb-false (length ours / item_size) (ours_count file) (sym o);
      theirs_room = ltb-false (length theirs / item_size) (theirs_count file) (sym h);
    }
    room true u o h w e = cc
    room false true o h w e = cc

    formed : (f : Bool) → well_formed file ≡ f
        → ◌≡◌ {A = Answer FileParts} (and_then (cond f accepted (refused 10 0 0)) (file_room_answer file ours theirs)) (Ok p)
        → ReadFile file ours theirs p
    formed true w e = room (passes (ours_count file) ours) (passes (theirs_count file) theirs) refl refl w e
    formed false w e = cc

-- ---- the file

-- head, pool and records are the file: the counts fit it
pub head_fits : (file : List ℕ) → well_formed file ≡ true
    → record_size * (ours_count file + theirs_count file) + pool_length file + head_size ≡ length file
head_fits file w = omega (arith, (well-formed→whole file w).whole)

-- no file has more than 8,190 records
pub counts_few : (file : List ℕ) → well_formed file ≡ true → ours_count file + theirs_count file ≤ 8190
counts_few file w = let v = well-formed→whole file w in omega (arith, v.small, v.whole)

-- two lists with room for so many are never refused with 6
pub room_enough : (file ours theirs : List ℕ) → well_formed file ≡ true → 8190 ≤ length ours / item_size → 8190 ≤ length theirs / item_size
    → file_answer file ours theirs ≡ Ok (parts_of file)
room_enough file ours theirs w o h =
    let few = counts_few file w in
    rw (w, le-ltb (length ours / item_size) (ours_count file) (omega arith), le-ltb (length theirs / item_size) (theirs_count file) (omega arith))

-- the pool is all there
pub length_pool : (file : List ℕ) → well_formed file ≡ true → length (pool_of file) ≡ pool_length file
length_pool file w = simp (length-take, length-drop) (omega (arith, (well-formed→whole file w).whole))

-- as many items are read as the head counts
pub length_ours : (file : List ℕ) → length (ours_of file) ≡ ours_count file
length_ours file = length_records file (ours_from file) (ours_count file)

pub length_theirs : (file : List ℕ) → length (theirs_of file) ≡ theirs_count file
length_theirs file = length_records file (theirs_from file) (theirs_count file)

-- ---- the lent lists

-- a list with room keeps its length
pub length_laid : (out : List ℕ) (its : List ItemWords) → length its ≤ length out / item_size → length (laid_over out its) ≡ length out
length_laid out its h = simp (length-append, length-drop) (omega (arith, length_flat its))

-- the items' words read back
pub ours_read_back : (file out : List ℕ) → items_from (laid_over out (ours_of file)) 0 (ours_count file) ≡ ours_of file
ours_read_back file out =
    rw (length_ours file) at (items_read_lem (ours_of file) [] (drop (length (flat_all (ours_of file))) out) 0 refl)

pub theirs_read_back : (file out : List ℕ) → items_from (laid_over out (theirs_of file)) 0 (theirs_count file) ≡ theirs_of file
theirs_read_back file out =
    rw (length_theirs file) at (items_read_lem (theirs_of file) [] (drop (length (flat_all (theirs_of file))) out) 0 refl)
