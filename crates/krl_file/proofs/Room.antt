-- What a well-formed file is. Assumes nothing.
use Prim.Native.Nat.{ℕ, ◌+◌, ◌*◌, ◌≤◌}
use mathlib.Core.Path.{◌≡◌}
use mathlib.Core.Bool.{true, ◌&&◌}
use mathlib.Core.List.{List}
use lib.ListN.{length}
use lib.Dec.{leb, eqb}
use borrow.Author.Tests.{leb-true, eqb-true}
use Rattle.item_check.proofs.Laws.{both_true}
use Rattle.krl_file.specs.File.{head_size, record_size, most_file, has_mark, has_version, pool_length, ours_count, theirs_count, whole_size, well_formed}

-- what a well-formed file is; it is as long as its head says
pub record WholeFile (file : List ℕ) : Type 0 where
  pub small : length file ≤ most_file
  pub marked : has_mark file ≡ true
  pub current : has_version file ≡ true
  pub whole : length file ≡ head_size + pool_length file + record_size * ours_count file + record_size * theirs_count file

pub well-formed→whole : (file : List ℕ) → well_formed file ≡ true → WholeFile file
well-formed→whole file e =
    let last = both_true (leb (length file) most_file && has_mark file && has_version file) (eqb (length file) (whole_size file)) e in
    let two = both_true (leb (length file) most_file && has_mark file) (has_version file) last.0 in
    let one = both_true (leb (length file) most_file) (has_mark file) two.0 in
    record {
      small = leb-true (length file) most_file one.0;
      marked = one.1;
      current = two.1;
      whole = eqb-true (length file) (whole_size file) last.1;
    }
