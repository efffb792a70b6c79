-- Insertions one after the other (02 §10), each law stated once: of plain items the order does not matter, on lists and on the words that calls
-- leave; others of one range stand in order of arrival; of calls that follow one another the room alone can be refused. Assumes nothing.
use Rattle.std.specs.Prelude.{Ok, Err}
use Rattle.std.specs.declared.cmp.Ordering.TheVariants.{Equal}
use Prim.Native.Nat.{ℕ, ◌+◌, ◌/◌, ◌≤◌}
use mathlib.Core.Path.{◌≡◌, refl, sym, ap, ◌∙◌}
use mathlib.Core.Bool.{Bool, true, false, cond, ◌||◌, ◌&&◌}
use mathlib.Core.Logic.{◌⊎◌, inl, inr}
use mathlib.Core.List.{List, [], ◌∷◌, map}
use native.Mathlib.Omega.{arith}
use lib.ListN.{length}
use lib.Dec.{ltb}
use Rattle.key_order.proofs.Impossible.{impossible}
use Rattle.query_item.specs.declared.ItemWords.{ItemWords}
use Rattle.query_item.specs.Items.{item_size, items_from, shown, SameShown}
use Rattle.query_item.proofs.Laws.{length_shown}
use Rattle.intervals.specs.Lists.{Reordered}
use Rattle.intervals.proofs.Laws.{All, reordered_two, reordered_by, length_reordered}
use Rattle.item_check.specs.declared.Refusal.{Refusal}
use Rattle.item_check.specs.Checks.{Answer, refused, refusal, accepted, most_items, upright_fault}
use Rattle.item_lists.specs.Written.{passes}
use Rattle.insert_order.specs.Order.{compare_items, plain, same_item}
use Rattle.insert_order.specs.Refusals.{ordered_verdict}
use Rattle.insert_order.proofs.Ordered.{Among}
use Rattle.insert_order.proofs.Accepted.{Ready}
use Rattle.insert_merge.specs.declared.Fate.TheVariants.{Stays}
use Rattle.insert_merge.specs.Merge.{fate_of, merged_with}
use Rattle.insert.specs.Insertion.{inserted}
use Rattle.insert.specs.Answers.{insert_answer, insert_words}
use Rattle.insert.specs.Sequence.{inserted_all, next_answer, next_words, insert_all_answer, insert_all_words, StandsBefore}
use Rattle.item_lists.proofs.Words.{length_items}
use Rattle.insert_merge.proofs.Staying.{length_staying}
use Rattle.insert.proofs.Tails.{length_inserted}
use Rattle.insert.proofs.Laws.{insert_accepted, insert_arrival, insert_keeps, insert_either, insert_shown}
use Rattle.insert.proofs.Called.{room_enough, ready_answer, called_list, called_item, called_items, called_size, called_ready}

module _ (pool : List ℕ) where
  -- ---- what is meant

  -- where the first call answers, the others go on from the words and the count that it leaves

  module _ (ws : List ℕ) (count : ℕ) (new : ItemWords) (news : List ItemWords) (k : ℕ) (e : insert_answer pool ws count new ≡ Ok k) where
    pub more_answer : insert_all_answer pool ws count (new ∷ news) ≡ insert_all_answer pool (insert_words pool ws count new) k news
    unfolding insert_all_answer
    more_answer = ap (λ (r : Answer ℕ). next_answer r (λ n. insert_all_answer pool (insert_words pool ws count new) n news)) e

    pub more_words : insert_all_words pool ws count (new ∷ news) ≡ insert_all_words pool (insert_words pool ws count new) k news
    unfolding insert_all_words
    more_words = ap (λ (r : Answer ℕ). next_words r ws (λ n. insert_all_words pool (insert_words pool ws count new) n news)) e

  -- where it refuses, that is the answer, and the words stay

  module _ (ws : List ℕ) (count : ℕ) (new : ItemWords) (news : List ItemWords) (r : Refusal) (e : insert_answer pool ws count new ≡ Err r) where
    pub end_answer : insert_all_answer pool ws count (new ∷ news) ≡ Err r
    unfolding insert_all_answer
    end_answer = ap (λ (r : Answer ℕ). next_answer r (λ n. insert_all_answer pool (insert_words pool ws count new) n news)) e

    pub end_words : insert_all_words pool ws count (new ∷ news) ≡ ws
    unfolding insert_all_words
    end_words = ap (λ (r : Answer ℕ). next_words r ws (λ n. insert_all_words pool (insert_words pool ws count new) n news)) e

  -- ---- on lists

  -- an item that passes the checks
  abbrev pub IsUpright : ItemWords → Type 0
  IsUpright x = upright_fault pool x ≡ 0

  abbrev pub IsPlain : ItemWords → Type 0
  IsPlain x = plain x ≡ true

  all_shown : (news A B : List ItemWords) → SameShown pool pool A B → SameShown pool pool (inserted_all pool news A) (inserted_all pool news B)
  unfolding inserted_all
  all_shown [] A B e = e
  all_shown (new ∷ news) A B e = all_shown news (inserted pool new A) (inserted pool new B) (insert_shown pool pool new new A B refl e)

  -- an insertion after which both stay
  abbrev pub LeavesBoth : ItemWords → ItemWords → ItemWords → Type 0
  LeavesBoth x y new = (fate_of pool new x ≡ Stays) × (fate_of pool new y ≡ Stays)

  all_kept : (news : List ItemWords) (x y : ItemWords) (its : List ItemWords) → All (LeavesBoth x y) news
      → StandsBefore x y its → StandsBefore x y (inserted_all pool news its)
  unfolding inserted_all
  all_kept [] x y its f s = s
  all_kept (new ∷ news) x y its f s = all_kept news x y (inserted pool new its) f.1 (insert_keeps pool new x y its f.0.0 f.0.1 s)

  -- plain items that pass the checks
  abbrev Insertable : List ItemWords → Type 0
  Insertable news = All IsPlain news × All IsUpright news

  -- inserted into any accepted list they give the same
  abbrev Same : List ItemWords → List ItemWords → Type 0
  Same xs ys = (its : List ItemWords) → ordered_verdict pool its ≡ accepted → SameShown pool pool (inserted_all pool xs its) (inserted_all pool ys its)

  -- 02 §10.1: any number of plain upright items may be inserted in any order: the lists are the same by bytes
  pub inserted_reordered : (xs ys : List ItemWords) → Reordered xs ys → All IsPlain xs → All IsUpright xs → (its : List ItemWords)
      → ordered_verdict pool its ≡ accepted → SameShown pool pool (inserted_all pool xs its) (inserted_all pool ys its)
  unfolding inserted_all
  inserted_reordered xs ys r p u = (reordered_by (λ A B. Insertable A → Insertable B × Same A B) same exchanged behind further xs ys r (p, u)).1
    where
      same : (A : List ItemWords) → Insertable A → Insertable A × Same A A
      same A h = (h, λ its e. refl)

      exchanged : (x y : ItemWords) (A : List ItemWords) → Insertable (x ∷ y ∷ A) → Insertable (y ∷ x ∷ A) × Same (x ∷ y ∷ A) (y ∷ x ∷ A)
      exchanged x y A ((px, (py, ps)), (ux, (uy, us))) = (
        ((py, (px, ps)), (uy, (ux, us))),
        λ its e. all_shown A (inserted pool y (inserted pool x its)) (inserted pool x (inserted pool y its)) (insert_either pool its x y e ux uy px py),
      )

      behind : (x : ItemWords) (A B : List ItemWords) → (Insertable A → Insertable B × Same A B) → Insertable (x ∷ A) → Insertable (x ∷ B) × Same (x ∷ A) (x ∷ B)
      behind x A B f ((px, ps), (ux, us)) =
          let g = f (ps, us) in
          (((px, g.0.0), (ux, g.0.1)), λ its e. g.1 (inserted pool x its) (insert_accepted pool x its e ux))

      further : (A B C : List ItemWords) → (Insertable A → Insertable B × Same A B) → (Insertable B → Insertable C × Same B C)
          → Insertable A → Insertable C × Same A C
      further A B C f g h = let a = f h in let b = g a.0 in (b.0, λ its e. a.1 its e ∙ b.1 its e)

  -- ---- calls that answer

  -- the first one does, and so do those after it
  record Begun (ws : List ℕ) (count : ℕ) (new : ItemWords) (news : List ItemWords) (n : ℕ) : Type 0 where
    many : ℕ
    first : insert_answer pool ws count new ≡ Ok many
    others : insert_all_answer pool (insert_words pool ws count new) many news ≡ Ok n

  begun : (ws : List ℕ) (count : ℕ) (new : ItemWords) (news : List ItemWords) (n : ℕ) → insert_all_answer pool ws count (new ∷ news) ≡ Ok n → Begun ws count new news n
  unfolding insert_all_answer
  begun ws count new news n e = go (insert_answer pool ws count new) refl e
    where
      go : (r : Answer ℕ) → insert_answer pool ws count new ≡ r → next_answer r (λ k. insert_all_answer pool (insert_words pool ws count new) k news) ≡ Ok n
          → Begun ws count new news n
      go (Ok k) p q = record { many = k; first = p; others = q }
      go (Err r) p q = impossible cc

  -- the items that they leave
  pub all_items : (ws : List ℕ) (count : ℕ) (news : List ItemWords) (n : ℕ) → insert_all_answer pool ws count news ≡ Ok n
      → items_from (insert_all_words pool ws count news) 0 n ≡ inserted_all pool news (items_from ws 0 count)
  unfolding insert_all_answer insert_all_words inserted_all
  all_items ws count [] n e = let c : n ≡ count = cc in rw c
  all_items ws count (new ∷ news) n e =
      let next = insert_words pool ws count new in
      let b = begun ws count new news n e in
      ap (λ (l : List ℕ). items_from l 0 n) (more_words ws count new news b.many b.first)
      ∙ all_items next b.many news n b.others
      ∙ ap (inserted_all pool news) (called_items pool ws count new b.many b.first)

  -- each of the items passes the checks
  all_upright : (ws : List ℕ) (count : ℕ) (news : List ItemWords) (n : ℕ) → insert_all_answer pool ws count news ≡ Ok n → All IsUpright news
  all_upright ws count [] n e = tt
  all_upright ws count (new ∷ news) n e =
      let b = begun ws count new news n e in
      (called_item pool ws count new b.many b.first, all_upright (insert_words pool ws count new) b.many news n b.others)

  -- ---- the order of calls

  module _ (ws : List ℕ) (count : ℕ) where
    abbrev its : List ItemWords
    its = items_from ws 0 count

    -- the items that calls with some items, one after the other, leave at the front of the words
    abbrev pub left_by : List ItemWords → ℕ → List ItemWords
    left_by news n = items_from (insert_all_words pool ws count news) 0 n

    list_passes : (new : ItemWords) (news : List ItemWords) (n : ℕ) → insert_all_answer pool ws count (new ∷ news) ≡ Ok n → ordered_verdict pool its ≡ accepted
    list_passes new news n e = let b = begun ws count new news n e in (called_list pool ws count new b.many b.first).listed

    lists_same : (xs ys : List ItemWords) → Reordered xs ys → All IsPlain xs → (m : ℕ) → insert_all_answer pool ws count xs ≡ Ok m
        → SameShown pool pool (inserted_all pool xs its) (inserted_all pool ys its)
    lists_same [] [] r p m e = refl
    lists_same [] (y ∷ ys) r p m e = absurd (omega (arith, length_reordered [] (y ∷ ys) r))
    lists_same (x ∷ xs) ys r p m e = inserted_reordered (x ∷ xs) ys r p (all_upright ws count (x ∷ xs) m e) its (list_passes x xs m e)

    -- 02 §10.1: calls with plain items in one order, and with these in another, that answer leave the same items by bytes
    pub insert_reordered : (xs ys : List ItemWords) (m n : ℕ) → Reordered xs ys → All IsPlain xs → insert_all_answer pool ws count xs ≡ Ok m
        → insert_all_answer pool ws count ys ≡ Ok n → SameShown pool pool (left_by xs m) (left_by ys n)
    insert_reordered xs ys m n r p e f =
        ap (map (shown pool)) (all_items ws count xs m e) ∙ lists_same xs ys r p m e ∙ ap (map (shown pool)) (sym (all_items ws count ys n f))

    -- and as many
    pub reordered_count : (xs ys : List ItemWords) (m n : ℕ) → Reordered xs ys → All IsPlain xs → insert_all_answer pool ws count xs ≡ Ok m
        → insert_all_answer pool ws count ys ≡ Ok n → m ≡ n
    reordered_count xs ys m n r p e f =
        sym (length_items (insert_all_words pool ws count xs) 0 m)
        ∙ length_shown pool pool (left_by xs m) (left_by ys n) (insert_reordered xs ys m n r p e f)
        ∙ length_items (insert_all_words pool ws count ys) 0 n

    -- 02 §10.1: two calls with plain items, which answer in both orders, leave the same items by bytes
    pub insert_either_order : (x y : ItemWords) (m n : ℕ) → plain x ≡ true → plain y ≡ true → insert_all_answer pool ws count (x ∷ y ∷ []) ≡ Ok m
        → insert_all_answer pool ws count (y ∷ x ∷ []) ≡ Ok n
        → (m ≡ n) × SameShown pool pool (left_by (x ∷ y ∷ []) m) (left_by (y ∷ x ∷ []) n)
    insert_either_order x y m n p q e f =
        let xs = x ∷ y ∷ [] in
        let ys = y ∷ x ∷ [] in
        (reordered_count xs ys m n (reordered_two x y) (p, (q, tt)) e f, insert_reordered xs ys m n (reordered_two x y) (p, (q, tt)) e f)

    -- 02 §10.2: items stand in order of arrival, as `insert_arrival` has it, in what a call that answers leaves
    pub arrival_order : (new it : ItemWords) (n : ℕ) → insert_answer pool ws count new ≡ Ok n → Among it its → same_item pool new it ≡ false
        → plain new && plain it ≡ false → compare_items pool it (merged_with pool new new its) ≡ Equal
        → StandsBefore (merged_with pool new new its) it (items_from (insert_words pool ws count new) 0 n)
    arrival_order new it n e m d w o =
        rw (called_items pool ws count new n e) (insert_arrival pool new it its (called_list pool ws count new n e).listed m d w o)

    -- 02 §10.2: and calls that answer, after which both stay, keep the order of two items
    pub order_kept : (news : List ItemWords) (x y : ItemWords) (n : ℕ) → insert_all_answer pool ws count news ≡ Ok n
        → All (LeavesBoth x y) news → StandsBefore x y its → StandsBefore x y (left_by news n)
    order_kept news x y n e f s = rw (all_items ws count news n e) (all_kept news x y its f s)

  -- ---- the room of calls

  -- one call more, on a list that is accepted: the room decides
  one_answer : (ws : List ℕ) (count : ℕ) (new : ItemWords) → Ready pool ws count → IsUpright new
      → (insert_answer pool ws count new ≡ Ok (length (inserted pool new (items_from ws 0 count)))) ⊎ (insert_answer pool ws count new ≡ refused 6 0 0)
  one_answer ws count new r u = go (passes n ws || ltb most_items n) (ready_answer pool ws count new r u)
    where
      n : ℕ
      n = length (inserted pool new (items_from ws 0 count))

      go : (t : Bool) → insert_answer pool ws count new ≡ cond t (refused 6 0 0) (Ok n)
          → (insert_answer pool ws count new ≡ Ok n) ⊎ (insert_answer pool ws count new ≡ refused 6 0 0)
      go true e = inr e
      go false e = inl e

  more_items : (ws : List ℕ) (count : ℕ) (new : ItemWords) (news : List ItemWords) (k : ℕ) → insert_answer pool ws count new ≡ Ok k
      → inserted_all pool news (items_from (insert_words pool ws count new) 0 k) ≡ inserted_all pool (new ∷ news) (items_from ws 0 count)
  unfolding inserted_all
  more_items ws count new news k e = ap (inserted_all pool news) (called_items pool ws count new k e)

  -- calls answer how many items there are then, or 6
  abbrev pub RoomDecides : List ℕ → ℕ → List ItemWords → Type 0
  RoomDecides ws count news =
      (insert_all_answer pool ws count news ≡ Ok (length (inserted_all pool news (items_from ws 0 count)))) ⊎ (insert_all_answer pool ws count news ≡ refused 6 0 0)

  -- items that pass the checks, inserted one after the other into a list that is accepted, are refused for want of room alone
  pub all_room : (ws : List ℕ) (count : ℕ) (news : List ItemWords) → Ready pool ws count → All IsUpright news → RoomDecides ws count news
  unfolding insert_all_answer inserted_all
  all_room ws count [] r u = inl (ap Ok (sym (length_items ws 0 count)))
  all_room ws count (new ∷ news) r u = go (one_answer ws count new r u.0) (λ k q. all_room (insert_words pool ws count new) k news q u.1)
    where
      n : ℕ
      n = length (inserted pool new (items_from ws 0 count))

      rest : insert_answer pool ws count new ≡ Ok n → RoomDecides (insert_words pool ws count new) n news → RoomDecides ws count (new ∷ news)
      rest e (inl q) = inl (more_answer ws count new news n e ∙ q ∙ ap (λ (l : List ItemWords). Ok (length l)) (more_items ws count new news n e))
      rest e (inr q) = inr (more_answer ws count new news n e ∙ q)

      go : (insert_answer pool ws count new ≡ Ok n) ⊎ (insert_answer pool ws count new ≡ refused 6 0 0)
          → ((k : ℕ) → Ready pool (insert_words pool ws count new) k → RoomDecides (insert_words pool ws count new) k news) → RoomDecides ws count (new ∷ news)
      go (inl e) f = rest e (f n (called_ready pool ws count new n e))
      go (inr e) f = inr (end_answer ws count new news (refusal 6 0 0) e)

  -- with a place for each of them none is
  pub all_enough : (ws : List ℕ) (count : ℕ) (news : List ItemWords) → Ready pool ws count → All IsUpright news
      → count + length news ≤ length ws / item_size → count + length news ≤ most_items
      → insert_all_answer pool ws count news ≡ Ok (length (inserted_all pool news (items_from ws 0 count)))
  unfolding insert_all_answer inserted_all
  all_enough ws count [] r u h l = ap Ok (sym (length_items ws 0 count))
  all_enough ws count (new ∷ news) r u h l =
      more_answer ws count new news n here
      ∙ all_enough (insert_words pool ws count new) n news (called_ready pool ws count new n here) u.1 (rw (called_size pool ws count new n here) (omega (arith, few)))
      (omega (arith, few))
      ∙ ap (λ (m : List ItemWords). Ok (length m)) (more_items ws count new news n here)
    where
      n : ℕ
      n = length (inserted pool new (items_from ws 0 count))

      few : n ≤ count + 1
      few = omega (arith, length_inserted pool new (items_from ws 0 count), length_staying pool new (items_from ws 0 count), length_items ws 0 count)

      here : insert_answer pool ws count new ≡ Ok n
      here = ready_answer pool ws count new r u.0 ∙ room_enough ws n (omega (arith, few)) (omega (arith, few))
