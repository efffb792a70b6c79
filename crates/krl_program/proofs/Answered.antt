-- What is known of a file that the program answers with a listing, and what the call on two lists answers with the program's room.
-- Assumes nothing.
use Rattle.std.specs.Prelude.{Ok, Err}
use Prim.Native.Nat.{ℕ, ◌≤◌}
use mathlib.Core.Path.{◌≡◌, refl, sym}
use mathlib.Core.Bool.{Bool, true, false, cond, ◌||◌}
use mathlib.Core.List.{List}
use native.Mathlib.Omega.{arith}
use lib.Dec.{ltb}
use borrow.Author.Tests.{ltb-false}
use Rattle.item_check.specs.declared.Refusal.{Refusal}
use Rattle.item_check.specs.Checks.{refused, accepted, and_then, pool_verdict, list_verdict}
use Rattle.item_check.proofs.Laws.{accepts, answers, both_false, accepted_list}
use Rattle.item_lists.specs.Lists.{Accepted}
use Rattle.item_lists.proofs.Accepted.{accepted_side}
use Rattle.intersect_many.specs.declared.ManyCounts.{ManyCounts}
use Rattle.intersect_many.specs.Lists.{counts_of, both_verdict, lists_verdict, many_answer}
use Rattle.krl_file.specs.declared.FileParts.{FileParts}
use Rattle.krl_file.specs.File.{well_formed, file_verdict, pool_of, file_answer}
use Rattle.krl_file.proofs.Laws.{answered→read, room_enough}
use Rattle.krl_program.specs.Program.{our_words, their_words, list_room, lacks_list_room, program_room_verdict, program_answer}
use Rattle.krl_program.specs.Decided.{Rooms}

-- ---- a listing

room_left : (t : Bool) → cond t (refused 6 0 0) accepted ≡ accepted → t ≡ false
room_left true e = cc
room_left false e = refl

-- the file is well formed, its lists are accepted, and each of the three has at most 2,048 items
pub record Answered (file : List ℕ) (c : ManyCounts) : Type 0 where
  pub counts : c ≡ counts_of (pool_of file) (our_words file) (their_words file)
  pub ours : Accepted (pool_of file) (our_words file)
  pub theirs : Accepted (pool_of file) (their_words file)
  pub few_shared : c.shared ≤ list_room
  pub few_ours : c.ours ≤ list_room
  pub few_theirs : c.theirs ≤ list_room

pub answered→lists : (file : List ℕ) (c : ManyCounts) → program_answer file ≡ Ok c → Answered file c
unfolding program_answer
answered→lists file c e =
    let pool = pool_of file in
    let A = our_words file in
    let B = their_words file in
    let n = counts_of pool A B in
    let formed = answers (file_verdict file) (and_then (lists_verdict pool A B) (and_then (program_room_verdict n) (Ok n))) c e in
    let checked = answers (lists_verdict pool A B) (and_then (program_room_verdict n) (Ok n)) c formed.1 in
    let fitted = answers (program_room_verdict n) (Ok n) c checked.1 in
    let same : n ≡ c = cc fitted.1 in
    let lists = (accepts (pool_verdict pool) (both_verdict pool A B)).0 checked.0 in
    let both = (accepts (list_verdict pool A 0) (list_verdict pool B 1)).0 lists.1 in
    let first = (both_false (ltb list_room n.shared || ltb list_room n.ours) (ltb list_room n.theirs)).0 (room_left (lacks_list_room n) fitted.0) in
    let second = (both_false (ltb list_room n.shared) (ltb list_room n.ours)).0 first.0 in
    record {
      counts = sym same;
      ours = (accepted_side pool A 0).1 (lists.0, (accepted_list pool 0 A).0 both.0);
      theirs = (accepted_side pool B 0).1 (lists.0, (accepted_list pool 1 B).0 both.1);
      few_shared = rw (← same) (ltb-false list_room n.shared second.0);
      few_ours = rw (← same) (ltb-false list_room n.ours second.1);
      few_theirs = rw (← same) (ltb-false list_room n.theirs first.1);
    }

-- ---- with the program's room

module _ (file ours theirs shared_out ours_out theirs_out : List ℕ) (R : Rooms ours theirs shared_out ours_out theirs_out) where
  -- what reading the file is refused for is what the program is refused for
  pub file_refused : (r : Refusal) → file_answer file ours theirs ≡ Err r → program_answer file ≡ Err r
  unfolding program_answer
  file_refused r e = go (well_formed file) refl
    where
      go : (t : Bool) → well_formed file ≡ t → program_answer file ≡ Err r
      go true w =
          let room = room_enough file ours theirs w (rw R.our_records (omega arith)) (rw R.their_records (omega arith)) in
          cc
      go false w = rw w (cc (rw w at e))

  -- and what the call on the file's lists answers is what the program answers
  pub many_is_program : (p : FileParts) → file_answer file ours theirs ≡ Ok p
      → many_answer (pool_of file) (our_words file) (their_words file) shared_out ours_out theirs_out ≡ program_answer file
  unfolding program_answer
  many_is_program p e = rw ((answered→read file ours theirs p e).formed, R.shared, R.ours_only, R.theirs_only)
