-- Each law that a caller cites, in the order of specs/. It is stated in the file that the line names, or below. Assumes nothing.
use Rattle.std.specs.Prelude.{Ok, Err}
use Prim.Native.Nat.{ℕ, ◌/◌, ◌≤◌}
use mathlib.Core.Path.{◌≡◌, refl, sym, ap, ap₂, ◌∙◌}
use mathlib.Core.Bool.{Bool, true, false, cond}
use mathlib.Core.Logic.{◌⊎◌, inl, inr}
use mathlib.Core.List.{List, ◌++◌, map}
use native.Mathlib.Omega.{arith}
use lib.Dec.{ltb}
use lib.ListN.{length, take, drop, length-append, length-drop, take-append-drop}
use lib.Seq.{take_at}
use borrow.Author.Tests.{ltb-false, le-ltb}
use Rattle.key_order.proofs.Impossible.{impossible}
use Rattle.query_item.specs.declared.ItemWords.{ItemWords}
use Rattle.query_item.specs.Items.{item_size, items_from, query_item, holds, shown, SameShown}
use Rattle.query_item.proofs.Laws.{holds_each_shown, holds_any_shown}
use Rattle.item_check.specs.declared.Refusal.{Refusal}
use Rattle.item_check.specs.Checks.{Answer, refused, Verdict, accepted, and_then, pool_verdict, items_of, list_verdict}
use Rattle.item_check.proofs.Laws.{answers, words_refused, words_answered, pool_passes}
use Rattle.item_lists.specs.Lists.{list_holds}
use Rattle.item_lists.proofs.Words.{front_items}
use Rattle.insert_order.specs.Refusals.{ordered_verdict}
use Rattle.insert_order.proofs.Accepted.{Ready}
use Rattle.intersect_many.specs.Lists.{shared_items, only_items, many_answer}
use Rattle.intersect_many.specs.Lists as many
use Rattle.intersect_many.proofs.Shown.{shared_shown, only_shown, many_answer_shown}
use Rattle.insert.specs.Insertion.{inserted}
use Rattle.insert.proofs.Laws.{insert_shown}
use Rattle.pool_collect.specs.Collected.{distinct, packed, together, keys_of, collect_verdict}
use Rattle.pool_collect.specs.Collected.{keys_kept, pool_room_answer, collect_answer, packed_over, rewritten, collect_bytes, collect_words}
use Rattle.pool_collect.proofs.Kept.{Checks, checks_named, length_rewritten, items_front}
use Rattle.pool_collect.proofs.Kept.{kept_shown, kept_list, kept_ordered, kept_checks, kept_keys, kept_again}
use Rattle.pool_collect.proofs.Faults.{admitted}
use Rattle.pool_collect.proofs.Both.{keys_append, ours_known, theirs_known}
-- the distinct keys: each key in use is among them, no other is, each is there once and none is empty
pub use Rattle.pool_collect.proofs.Distinct.{AllKnown, gather_known, distinct_no_more, Once, distinct_once}
-- packed, they have the bytes that they have together
pub use Rattle.pool_collect.proofs.Distinct.{packed_together}
-- where a key stands: inside the packed keys, and it reads there; the empty key at 0
pub use Rattle.pool_collect.proofs.Distinct.{offset_inside, reads_packed, offset_empty}
-- the words of an absent key stay 0
pub use Rattle.pool_collect.proofs.Moved.{absent_moved}

-- ---- a call that refuses

-- 01 demand.1: the fresh pool and both lists are as they were
pub collect_refused : (pool fresh ours theirs : List ℕ) {r : Refusal} → collect_answer pool fresh ours theirs ≡ Err r
    → (collect_bytes pool fresh ours theirs ≡ fresh) × ((ws : List ℕ) → collect_words pool fresh ours theirs ws ≡ ws)
collect_refused pool fresh ours theirs e = (words_refused e fresh _, λ ws. words_refused e ws _)

-- ---- a call that answers

module _ (pool fresh ours theirs : List ℕ) (used : ℕ) (e : collect_answer pool fresh ours theirs ≡ Ok used) where
  abbrev kept : List (List ℕ)
  kept = keys_kept pool ours theirs

  passed : (collect_verdict pool fresh ours theirs ≡ accepted) × (pool_room_answer kept fresh ≡ Ok used)
  passed = answers (collect_verdict pool fresh ours theirs) (pool_room_answer kept fresh) used e

  -- 02 §6.8: the bytes used are those of the distinct keys together, and the fresh pool has room for them
  pub collect_used : (used ≡ together kept) × (used ≤ length fresh)
  collect_used = go (ltb (length fresh) (together kept)) refl passed.1
    where
      go : (t : Bool) → ltb (length fresh) (together kept) ≡ t → ◌≡◌ {A = Answer ℕ} (cond t (refused 6 0 0) (Ok (together kept))) (Ok used)
          → (used ≡ together kept) × (used ≤ length fresh)
      go true p q = impossible cc
      go false p q = let u : together kept ≡ used = cc in (sym u, omega (arith, ltb-false (length fresh) (together kept) p))

  long : length (packed kept) ≡ used
  long = packed_together kept ∙ sym collect_used.0

  -- 02 §6.1, §6.6: the keys, one after another, then the bytes that stood there
  pub collect_bytes_lem : collect_bytes pool fresh ours theirs ≡ packed kept ++ drop used fresh
  collect_bytes_lem = words_answered e fresh (packed_over kept fresh) ∙ rw long

  -- the fresh pool is as long as it was, and a pool that is accepted
  pub collect_small : pool_verdict (collect_bytes pool fresh ours theirs) ≡ accepted
  collect_small =
      let bytes = collect_bytes pool fresh ours theirs in
      let n : length bytes ≡ length fresh = rw collect_bytes_lem (simp (length-append, length-drop) (omega (arith, long, collect_used.1))) in
      (pool_passes bytes).1 (omega (arith, n, (admitted pool fresh ours theirs passed.0).fresh_small))

  -- 02 §6.5: the words of a list, its offsets rewritten
  pub collect_words_lem : (ws : List ℕ) → collect_words pool fresh ours theirs ws ≡ rewritten pool kept ws
  collect_words_lem ws = words_answered e ws (rewritten pool kept ws)

  -- one of the two lists
  abbrev pub OneOf : List ℕ → Type 0
  OneOf ws = (ws ≡ ours) ⊎ (ws ≡ theirs)

  one_checks : (ws : List ℕ) → OneOf ws → Checks pool ws
  one_checks ws (inl q) = rw q (admitted pool fresh ours theirs passed.0).ours_ok
  one_checks ws (inr q) = rw q (admitted pool fresh ours theirs passed.0).theirs_ok

  one_known : (ws : List ℕ) → OneOf ws → AllKnown kept (keys_of pool (items_of ws))
  one_known ws (inl q) = rw q (ours_known pool ours theirs)
  one_known ws (inr q) = rw q (theirs_known pool ours theirs)

  both_pass : {v v' w w' : Verdict} → v ≡ v' → w ≡ w' → and_then v w ≡ and_then v' w'
  both_pass p q = rw (p, q)

  -- ---- 02 §6.6: a pool whose used bytes are those that the call leaves; the others are free for later insertions

  module _ (P : List ℕ) (begins : take used P ≡ take used (collect_bytes pool fresh ours theirs)) where
    abbrev rest : List ℕ
    rest = drop used P

    front : take used P ≡ packed kept
    front = begins ∙ rw collect_bytes_lem (take_at (packed kept) (drop used fresh) used long)

    starts : P ≡ packed kept ++ rest
    starts = sym (take-append-drop used P) ∙ ap (λ (l : List ℕ). l ++ rest) front

    module _ (ws : List ℕ) (m : OneOf ws) where
      -- 02 §6.5: every item shows what it showed: kind, wrapper and key bytes
      pub collect_shown : SameShown P pool (items_of (collect_words pool fresh ours theirs ws)) (items_of ws)
      collect_shown = rw (collect_words_lem ws, starts) (kept_shown pool kept rest ws (one_checks ws m) (one_known ws m))

      -- so that each item holds what it held, and the list
      pub collect_each_holds : (k : List ℕ)
          → map (λ it. holds P (query_item it) k) (items_of (collect_words pool fresh ours theirs ws)) ≡ map (λ it. holds pool (query_item it) k) (items_of ws)
      collect_each_holds k = holds_each_shown P pool (items_of (collect_words pool fresh ours theirs ws)) (items_of ws) collect_shown k

      pub collect_holds : (k : List ℕ) → list_holds P (collect_words pool fresh ours theirs ws) k ≡ list_holds pool ws k
      collect_holds k = holds_any_shown P pool (items_of (collect_words pool fresh ours theirs ws)) (items_of ws) collect_shown k

      -- where its pool is accepted, the algebra accepts it where it did, and refuses it as it did
      pub collect_list : (side : ℕ) → list_verdict P (collect_words pool fresh ours theirs ws) side ≡ list_verdict pool ws side
      collect_list side = rw (collect_words_lem ws, starts) (kept_list pool kept rest ws (one_checks ws m) (one_known ws m) side)

      -- and so does insertion, at the front of a buffer with any words behind it
      pub collect_ordered : (spare : List ℕ)
          → ordered_verdict P (items_from (collect_words pool fresh ours theirs ws ++ spare) 0 (length ws / item_size))
          ≡ ordered_verdict pool (items_from (ws ++ spare) 0 (length ws / item_size))
      collect_ordered spare =
          let c = one_checks ws m in
          rw (collect_words_lem ws, items_front pool kept ws c.whole spare, starts, front_items ws spare c.whole)
          (kept_ordered pool kept rest ws c (one_known ws m))

      -- which takes it where it did, over a pool that is accepted
      pub collect_ready : (spare : List ℕ) → pool_verdict P ≡ accepted → Ready pool (ws ++ spare) (length ws / item_size)
          → Ready P (collect_words pool fresh ours theirs ws ++ spare) (length ws / item_size)
      collect_ready spare small r =
          let c = one_checks ws m in record {
            small = small;
            within = rw (collect_words_lem ws, length-append, length_rewritten pool kept ws c.whole) (rw length-append at r.within);
            listed = collect_ordered spare ∙ r.listed;
          }

      -- and what is inserted into it shows what it would have shown before
      pub collect_inserted : (x y : ItemWords) → shown P x ≡ shown pool y
          → SameShown P pool (inserted P x (items_of (collect_words pool fresh ours theirs ws))) (inserted pool y (items_of ws))
      collect_inserted x y s = insert_shown P pool x y (items_of (collect_words pool fresh ours theirs ws)) (items_of ws) s collect_shown

      -- collecting takes it again
      again_checks : Checks P (rewritten pool kept ws)
      again_checks = rw starts (kept_checks pool kept rest ws (one_checks ws m) (one_known ws m))

      again_keys : keys_of P (items_of (rewritten pool kept ws)) ≡ keys_of pool (items_of ws)
      again_keys = rw starts (kept_keys pool kept rest ws (one_checks ws m) (one_known ws m))

      again_words : rewritten P kept (rewritten pool kept ws) ≡ rewritten pool kept ws
      again_words = rw starts (kept_again pool kept rest ws (one_checks ws m) (one_known ws m))

    -- ---- comparing both lists gives what it gave

    -- what two of the lists share, and what one keeps without another, shows the same

    pub collect_shared : (ws vs : List ℕ) → OneOf ws → OneOf vs
        → SameShown P pool (shared_items P (collect_words pool fresh ours theirs ws) (collect_words pool fresh ours theirs vs)) (shared_items pool ws vs)
    collect_shared ws vs m n = shared_shown P pool _ _ ws vs (collect_shown ws m) (collect_shown vs n)

    pub collect_only : (ws vs : List ℕ) → OneOf ws → OneOf vs
        → SameShown P pool (only_items P (collect_words pool fresh ours theirs ws) (collect_words pool fresh ours theirs vs)) (only_items pool ws vs)
    collect_only ws vs m n = only_shown P pool _ _ ws vs (collect_shown ws m) (collect_shown vs n)

    -- and the call answers alike, in any room
    pub collect_compared : pool_verdict P ≡ accepted → (shared_out ours_out theirs_out : List ℕ)
        → many_answer P (collect_words pool fresh ours theirs ours) (collect_words pool fresh ours theirs theirs) shared_out ours_out theirs_out
        ≡ many_answer pool ours theirs shared_out ours_out theirs_out
    collect_compared small shared_out ours_out theirs_out =
        many_answer_shown P pool _ _ ours theirs (collect_shown ours (inl refl)) (collect_shown theirs (inr refl)) verdicts shared_out ours_out theirs_out
      where
        verdicts : many.lists_verdict P (collect_words pool fresh ours theirs ours) (collect_words pool fresh ours theirs theirs) ≡ many.lists_verdict pool ours theirs
        verdicts =
            let old = (pool_passes pool).1 (admitted pool fresh ours theirs passed.0).pool_small in
            both_pass (small ∙ sym old) (both_pass (collect_list ours (inl refl) 0) (collect_list theirs (inr refl) 1))

    -- ---- collecting again changes nothing

    module _ (small : pool_verdict P ≡ accepted) (fresher : List ℕ) (small-too : pool_verdict fresher ≡ accepted) (room : used ≤ length fresher) where
      abbrev ours' : List ℕ
      ours' = collect_words pool fresh ours theirs ours

      abbrev theirs' : List ℕ
      theirs' = collect_words pool fresh ours theirs theirs

      same_keys : keys_kept P (rewritten pool kept ours) (rewritten pool kept theirs) ≡ kept
      same_keys =
          ap distinct
          (keys_append P (items_of (rewritten pool kept ours)) (items_of (rewritten pool kept theirs))
          ∙ ap₂ ◌++◌ (again_keys ours (inl refl)) (again_keys theirs (inr refl))
          ∙ sym (keys_append pool (items_of ours) (items_of theirs)))

      again_passes : collect_verdict P fresher (rewritten pool kept ours) (rewritten pool kept theirs) ≡ accepted
      again_passes = rw (
        small,
        small-too,
        checks_named P (rewritten pool kept ours) 0 (again_checks ours (inl refl)),
        checks_named P (rewritten pool kept theirs) 1 (again_checks theirs (inr refl)),
      )

      pub again_answer : collect_answer P fresher ours' theirs' ≡ Ok used
      again_answer =
          rw (collect_words_lem ours, collect_words_lem theirs, again_passes, same_keys, ← collect_used.0, le-ltb (length fresher) used room)

      pub again_bytes : collect_bytes P fresher ours' theirs' ≡ take used P ++ drop used fresher
      again_bytes = rw (again_answer, front, collect_words_lem ours, collect_words_lem theirs, same_keys, long)

      pub again_ours : collect_words P fresher ours' theirs' ours' ≡ ours'
      again_ours = rw (again_answer, collect_words_lem ours, collect_words_lem theirs, same_keys) (again_words ours (inl refl))

      pub again_theirs : collect_words P fresher ours' theirs' theirs' ≡ theirs'
      again_theirs = rw (again_answer, collect_words_lem ours, collect_words_lem theirs, same_keys) (again_words theirs (inr refl))
