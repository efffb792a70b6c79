-- The call on two accepted lists that has room: it answers, and the front of each lent list is then the list that demand 3 speaks of.
-- Assumes nothing.
use Rattle.std.specs.Prelude.{Ok}
use Prim.Native.Nat.{ℕ}
use mathlib.Core.Path.{◌≡◌, ap, ◌∙◌}
use mathlib.Core.Bool.{false}
use mathlib.Core.List.{List}
use lib.ListN.{length, take}
use lib.Seq.{take-append_seam}
use Rattle.query_item.specs.declared.ItemWords.{ItemWords}
use Rattle.query_item.specs.Items.{flat_all}
use Rattle.item_check.specs.Checks.{Answer, accepted, list_verdict}
use Rattle.item_check.proofs.Laws.{accepted_list}
use Rattle.item_lists.specs.Lists.{Accepted}
use Rattle.item_lists.specs.Written.{written}
use Rattle.item_lists.proofs.Accepted.{accepted_pool, list_of}
use Rattle.intersect_many.specs.declared.ManyCounts.{ManyCounts}
use Rattle.intersect_many.specs.Lists.{counts_of, lacks_room, many_answer}

module _ (pool A B : List ℕ) (a : Accepted pool A) (b : Accepted pool B) (shared_out ours_out theirs_out : List ℕ)
    (room : lacks_room (counts_of pool A B) shared_out ours_out theirs_out ≡ false) where
  pub call_answers : many_answer pool A B shared_out ours_out theirs_out ≡ Ok (counts_of pool A B)
  call_answers =
      let ours : list_verdict pool A 0 ≡ accepted = (accepted_list pool 0 A).1 (list_of pool A a) in
      let theirs : list_verdict pool B 1 ≡ accepted = (accepted_list pool 1 B).1 (list_of pool B b) in
      rw (accepted_pool pool A a, ours, theirs, room)

  -- what the call leaves in a lent list begins with the words of its items
  pub call_writes : (its : List ItemWords) (out : List ℕ)
      → take (length (flat_all its)) (written (many_answer pool A B shared_out ours_out theirs_out) its out) ≡ flat_all its
  call_writes its out =
      ap (λ (r : Answer ManyCounts). take (length (flat_all its)) (written r its out)) call_answers ∙ take-append_seam (flat_all its) _
