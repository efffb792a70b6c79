-- DEMAND 3 (01 demand.3, tight.7, 02 §2.5), as laws of the lists that `intersect_many_ordered` writes, for any accepted lists A, B, C over one pool.
-- What a reader must believe is in specs/Demand.antt, specs/Lists.antt and specs/Lists.antt of `item_lists`; each law is proved in Called.antt, Room.antt or Demanded.antt. The laws
-- of Shown.antt, of any lists over two pools, are passed on. Assumes nothing.
use Rattle.std.specs.Prelude.{Ok}
use Prim.Native.Nat.{ℕ}
use mathlib.Core.Path.{◌≡◌}
use mathlib.Core.Bool.{false, not, ◌&&◌, ◌||◌}
use mathlib.Core.List.{List}
use lib.ListN.{length, take}
use Rattle.item_check.specs.Checks.{items_of}
use Rattle.item_lists.specs.Lists.{Accepted, Fits, list_holds, SameItems}
use Rattle.item_lists.specs.Written.{written}
use Rattle.intersect_many.specs.Lists.{shared_items, only_items, lacks_room, counts_of, many_answer}
use Rattle.intersect_many.specs.Demand.{shared_words, without_words, EachHolds}
use Rattle.intersect_many.proofs.Called as called
use Rattle.intersect_many.proofs.Demanded as demanded
-- six words for each item that is counted
pub use Rattle.item_lists.proofs.Written.{length_flat}
-- the lists and the answer go by what the given lists show, whatever pool their keys stand in
pub use Rattle.intersect_many.proofs.Shown.{shared_shown, only_shown, many_answer_shown}

module _ (pool A B : List ℕ) (a : Accepted pool A) (b : Accepted pool B) (shared_out ours_out theirs_out : List ℕ)
    (room : lacks_room (counts_of pool A B) shared_out ours_out theirs_out ≡ false) where
  -- 0. Where the lent lists have room the call answers, with the counts of the three lists
  pub call_answers : many_answer pool A B shared_out ours_out theirs_out ≡ Ok (counts_of pool A B)
  call_answers = called.call_answers pool A B a b shared_out ours_out theirs_out room

  -- and leaves at the front of each lent list the words that the laws below speak of: A shared with B, A without B, B without A
  pub writes_shared : take (length (shared_words pool A B)) (written (many_answer pool A B shared_out ours_out theirs_out) (shared_items pool A B) shared_out)
      ≡ shared_words pool A B
  writes_shared = called.call_writes pool A B a b shared_out ours_out theirs_out room (shared_items pool A B) shared_out

  pub writes_ours : take (length (without_words pool A B)) (written (many_answer pool A B shared_out ours_out theirs_out) (only_items pool A B) ours_out)
      ≡ without_words pool A B
  writes_ours = called.call_writes pool A B a b shared_out ours_out theirs_out room (only_items pool A B) ours_out

  pub writes_theirs : take (length (without_words pool B A)) (written (many_answer pool A B shared_out ours_out theirs_out) (only_items pool B A) theirs_out)
      ≡ without_words pool B A
  writes_theirs = called.call_writes pool A B a b shared_out ours_out theirs_out room (only_items pool B A) theirs_out

module _ (pool A B : List ℕ) (a : Accepted pool A) (b : Accepted pool B) where
  -- 1. Shared holds exactly what both hold, without exactly what A holds and B does not: keys k of any length
  pub shared_holds : (k : List ℕ) → list_holds pool (shared_words pool A B) k ≡ list_holds pool A k && list_holds pool B k
  shared_holds k = demanded.shared_holds pool A B a b k

  pub without_holds : (k : List ℕ) → list_holds pool (without_words pool A B) k ≡ list_holds pool A k && not (list_holds pool B k)
  without_holds k = demanded.without_holds pool A B a b k

  -- so every key of A is in one of the two, no other key is, and none is in both
  pub in_one : (k : List ℕ) → list_holds pool A k ≡ list_holds pool (shared_words pool A B) k || list_holds pool (without_words pool A B) k
  in_one k = demanded.in_one pool A B a b k

  pub not_in_both : (k : List ℕ) → list_holds pool (shared_words pool A B) k && list_holds pool (without_words pool A B) k ≡ false
  not_in_both k = demanded.not_in_both pool A B a b k

  -- 2. Sharing gives the same list, item by item, in either order
  pub shared_comm : SameItems pool (shared_words pool A B) (shared_words pool B A)
  shared_comm = demanded.shared_comm pool A B a b

  -- 4. Each result is an accepted list
  pub shared_accepted : Fits (shared_items pool A B) → Accepted pool (shared_words pool A B)
  shared_accepted f = demanded.shared_accepted pool A B a b f

  pub without_accepted : Fits (only_items pool A B) → Accepted pool (without_words pool A B)
  without_accepted f = demanded.without_accepted pool A B a b f

  -- 5. Each item of each result holds a key (02 §2.1)
  pub shared_each_holds : EachHolds pool (items_of (shared_words pool A B))
  shared_each_holds = demanded.shared_each_holds pool A B a b

  pub without_each_holds : EachHolds pool (items_of (without_words pool A B))
  without_each_holds = demanded.without_each_holds pool A B a b

module _ (pool A B C : List ℕ) (a : Accepted pool A) (b : Accepted pool B) (c : Accepted pool C) where
  -- 2. and in either grouping
  pub shared_assoc : Fits (shared_items pool A B) → Fits (shared_items pool B C)
      → SameItems pool (shared_words pool (shared_words pool A B) C) (shared_words pool A (shared_words pool B C))
  shared_assoc f g = demanded.shared_assoc pool A B C a b c f g

  -- 3. A without B then C is A without C then B
  pub without_swap : Fits (only_items pool A B) → Fits (only_items pool A C)
      → SameItems pool (without_words pool (without_words pool A B) C) (without_words pool (without_words pool A C) B)
  without_swap f g = demanded.without_swap pool A B C a b c f g
