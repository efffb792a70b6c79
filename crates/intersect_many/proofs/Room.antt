-- The room of the three lists: what is refused for want of it, and what items written in enough of it leave. Assumes nothing.
use Rattle.std.specs.Prelude.{Ok}
use Prim.Native.Nat.{ℕ, ◌/◌, ◌≤◌}
use mathlib.Core.Path.{◌≡◌, sym, ap, ◌∙◌}
use mathlib.Core.Bool.{true, false, ◌||◌}
use mathlib.Core.List.{List}
use native.Mathlib.Omega.{arith}
use lib.ListN.{length}
use borrow.Author.Tests.{ltb-false, le-ltb}
use Rattle.query_item.specs.declared.ItemWords.{ItemWords}
use Rattle.query_item.specs.Items.{item_size}
use Rattle.item_check.specs.Checks.{refused, accepted, and_then, pool_verdict, list_verdict}
use Rattle.item_check.proofs.Laws.{both_false, accepts}
use Rattle.item_lists.specs.Written.{passes, Put}
use Rattle.item_lists.proofs.Written.{put_laid}
use Rattle.intersect_many.specs.declared.ManyCounts.{ManyCounts}
use Rattle.intersect_many.specs.Sweep.{BothAccepted, RoomGives, Sweeps}
use Rattle.intersect_many.specs.Lists.{shared_items, only_items, both_verdict, lists_verdict, lacks_room, counts_of, lists_room_verdict, lists_room_answer}

put_count : {out out' : List ℕ} {n : ℕ} (its : List ItemWords) → Put out 0 its out' n → n ≡ length its
put_count its p = omega (arith, p.count)

-- ---- the room

has_room : (n : ManyCounts) (shared_out ours_out theirs_out : List ℕ) → lacks_room n shared_out ours_out theirs_out ≡ false
    → (n.shared ≤ length shared_out / item_size) × (n.ours ≤ length ours_out / item_size) × (n.theirs ≤ length theirs_out / item_size)
has_room n shared_out ours_out theirs_out e =
    let last = (both_false (passes n.shared shared_out || passes n.ours ours_out) (passes n.theirs theirs_out)).0 e in
    let two = (both_false (passes n.shared shared_out) (passes n.ours ours_out)).0 last.0 in (
      ltb-false (length shared_out / item_size) n.shared two.0,
      ltb-false (length ours_out / item_size) n.ours two.1,
      ltb-false (length theirs_out / item_size) n.theirs last.1,
    )

-- fewer items need no more room
pub room_for_fewer : (n m : ManyCounts) (shared_out ours_out theirs_out : List ℕ) → n.shared ≤ m.shared → n.ours ≤ m.ours → n.theirs ≤ m.theirs
    → lacks_room m shared_out ours_out theirs_out ≡ false → lacks_room n shared_out ours_out theirs_out ≡ false
room_for_fewer n m shared_out ours_out theirs_out p q r e =
    let room = has_room m shared_out ours_out theirs_out e in
    rw (
      le-ltb (length shared_out / item_size) n.shared (omega (arith, room.0)),
      le-ltb (length ours_out / item_size) n.ours (omega (arith, room.1)),
      le-ltb (length theirs_out / item_size) n.theirs (omega (arith, room.2)),
    )

pub counted : (pool ours theirs : List ℕ) {shared_out ours_out theirs_out shared_out' ours_out' theirs_out' : List ℕ} (n : ManyCounts)
    → Sweeps pool ours theirs shared_out ours_out theirs_out n shared_out' ours_out' theirs_out' → n ≡ counts_of pool ours theirs
counted pool ours theirs n p =
    let e = put_count (shared_items pool ours theirs) p.shared in
    let f = put_count (only_items pool ours theirs) p.ours_only in
    let g = put_count (only_items pool theirs ours) p.theirs_only in
    λ i. record { shared = e i; ours = f i; theirs = g i }

module _ (pool ours theirs shared_out ours_out theirs_out : List ℕ) (n : ManyCounts) (is : n ≡ counts_of pool ours theirs) where
  by_counts : lists_room_answer pool ours theirs shared_out ours_out theirs_out ≡ and_then (lists_room_verdict n shared_out ours_out theirs_out) (Ok n)
  by_counts = ap (λ (m : ManyCounts). and_then (lists_room_verdict m shared_out ours_out theirs_out) (Ok m)) (sym is)

  -- a refusal leaves the lists as they were
  pub lists_refused : lacks_room n shared_out ours_out theirs_out ≡ true
      → RoomGives pool ours theirs shared_out ours_out theirs_out (refused 6 0 0) shared_out ours_out theirs_out
  lists_refused e =
      let is_refused_lem : lists_room_answer pool ours theirs shared_out ours_out theirs_out ≡ refused 6 0 0 = by_counts ∙ rw e in
      record { told = rw is_refused_lem; shared = rw is_refused_lem; ours_only = rw is_refused_lem; theirs_only = rw is_refused_lem }

  module _ (e : lacks_room n shared_out ours_out theirs_out ≡ false) where
    room_answered : lists_room_answer pool ours theirs shared_out ours_out theirs_out ≡ Ok n
    room_answered = by_counts ∙ rw e

    -- what the pass leaves is what the call promises
    pub lists_answered : {shared_out' ours_out' theirs_out' : List ℕ} {m : ManyCounts}
        → Sweeps pool ours theirs shared_out ours_out theirs_out m shared_out' ours_out' theirs_out'
        → RoomGives pool ours theirs shared_out ours_out theirs_out (Ok n) shared_out' ours_out' theirs_out'
    lists_answered p =
        let room = has_room n shared_out ours_out theirs_out e in
        record {
          told = sym room_answered;
          shared = rw room_answered (put_laid _ p.shared (omega (arith, room.0, ap (λ (m : ManyCounts). m.shared) is)));
          ours_only = rw room_answered (put_laid _ p.ours_only (omega (arith, room.1, ap (λ (m : ManyCounts). m.ours) is)));
          theirs_only = rw room_answered (put_laid _ p.theirs_only (omega (arith, room.2, ap (λ (m : ManyCounts). m.theirs) is)));
        }

-- both lists are accepted where the call goes on
pub both_accepted : (pool ours theirs : List ℕ) → lists_verdict pool ours theirs ≡ accepted → BothAccepted pool ours theirs
both_accepted pool ours theirs e =
    (accepts (list_verdict pool ours 0) (list_verdict pool theirs 1)).0 ((accepts (pool_verdict pool) (both_verdict pool ours theirs)).0 e).1
