-- What a call that answers has checked, and what it leaves: a buffer as long as before with the list at its front, which the next call accepts.
-- Assumes nothing.
use Rattle.std.specs.Prelude.{Ok}
use Prim.Native.Nat.{ℕ, ◌/◌, ◌≤◌}
use mathlib.Core.Path.{◌≡◌, sym}
use mathlib.Core.Bool.{Bool, true, false, cond, ◌||◌}
use mathlib.Core.List.{List}
use native.Mathlib.Omega.{arith}
use lib.ListN.{length, length-append, length-replicate, length-drop}
use lib.Dec.{ltb}
use borrow.Author.Tests.{ltb-false, le-ltb}
use Rattle.key_order.proofs.Impossible.{impossible}
use Rattle.query_item.specs.declared.ItemWords.{ItemWords}
use Rattle.query_item.specs.Items.{item_size, items_from}
use Rattle.item_check.specs.Checks.{Answer, refused, accepted, most_items, upright_fault}
use Rattle.item_check.proofs.Laws.{answers, words_answered}
use Rattle.item_lists.proofs.Written.{length_flat}
use Rattle.insert_order.specs.Refusals.{input_verdict}
use Rattle.insert_order.proofs.Accepted.{Ready, input_pool, input_buffer, input_count, input_list, input_new}
use Rattle.insert.specs.Insertion.{inserted}
use Rattle.insert.specs.Answers.{insert_room_answer, laid, list_after, checked_answer, insert_answer, insert_words}
use Rattle.insert.proofs.Laws.{insert_accepted, laid_items}

-- ---- the room

pub room_enough : (ws : List ℕ) (n : ℕ) → n ≤ length ws / item_size → n ≤ most_items → insert_room_answer ws n ≡ Ok n
room_enough ws n h l = rw (le-ltb (length ws / item_size) n h, le-ltb most_items n l)

room_passed : (ws : List ℕ) (m n : ℕ) → insert_room_answer ws m ≡ Ok n → (m ≡ n) × (m ≤ length ws / item_size) × (m ≤ most_items)
room_passed ws m n e = go (ltb (length ws / item_size) m) (ltb most_items m) (ltb-false (length ws / item_size) m) (ltb-false most_items m) e
  where
    go : (s t : Bool) → (s ≡ false → m ≤ length ws / item_size) → (t ≡ false → m ≤ most_items)
        → ◌≡◌ {A = Answer ℕ} (cond (s || t) (refused 6 0 0) (Ok m)) (Ok n) → (m ≡ n) × (m ≤ length ws / item_size) × (m ≤ most_items)
    go true t p q f = impossible cc
    go false true p q f = impossible cc
    go false false p q f = (cc, p cc, q cc)

length_laid : (ws : List ℕ) (count : ℕ) (its : List ItemWords) → count ≤ length ws / item_size → length its ≤ length ws / item_size
    → length (laid ws count its) ≡ length ws
unfolding laid
length_laid ws count its h l = simp (length-append, length-replicate, length-drop, length_flat) (omega arith)

-- ---- a list that an insertion accepts

-- an item that passes the checks is refused for want of room alone
pub ready_answer : (pool ws : List ℕ) (count : ℕ) (new : ItemWords) → Ready pool ws count → upright_fault pool new ≡ 0
    → insert_answer pool ws count new ≡ insert_room_answer ws (length (inserted pool new (items_from ws 0 count)))
ready_answer pool ws count new r u = rw (r.small, r.within, r.listed, u)

-- ---- a call that answers

module _ (pool ws : List ℕ) (count : ℕ) (new : ItemWords) (n : ℕ) (e : insert_answer pool ws count new ≡ Ok n) where
  abbrev after : List ItemWords
  after = list_after pool ws count new

  passed : (input_verdict pool ws count new ≡ accepted) × (checked_answer pool ws count new ≡ Ok n)
  passed = answers (input_verdict pool ws count new) (checked_answer pool ws count new) n e

  room : (length after ≡ n) × (length after ≤ length ws / item_size) × (length after ≤ most_items)
  room = room_passed ws (length after) n passed.1

  words_left : insert_words pool ws count new ≡ laid ws count after
  words_left = words_answered e ws (laid ws count after)

  -- the list was accepted, and the new item passes the checks

  pub called_list : Ready pool ws count
  called_list = record {
    small = input_pool pool ws count new passed.0;
    within = input_buffer pool ws count new passed.0;
    listed = input_list pool ws count new passed.0;
  }

  pub called_item : upright_fault pool new ≡ 0
  called_item = input_new pool ws count new passed.0

  -- what is answered is how many items there are
  pub called_count : n ≡ length (inserted pool new (items_from ws 0 count))
  called_count = sym room.0

  -- these are the list after insertion
  pub called_items : items_from (insert_words pool ws count new) 0 n ≡ inserted pool new (items_from ws 0 count)
  called_items = rw (words_left, called_count) (laid_items ws count after)

  -- the buffer is as long as before
  pub called_size : length (insert_words pool ws count new) ≡ length ws
  called_size = rw words_left (length_laid ws count after (input_count pool ws count new passed.0) room.1)

  -- and the next call accepts it, with the count that is answered
  pub called_ready : Ready pool (insert_words pool ws count new) n
  called_ready = record {
    small = called_list.small;
    within = rw (called_size, le-ltb (length ws / item_size) n (omega (arith, room.0, room.1)), le-ltb most_items n (omega (arith, room.0, room.2)));
    listed = rw called_items (insert_accepted pool new (items_from ws 0 count) called_list.listed called_item);
  }
