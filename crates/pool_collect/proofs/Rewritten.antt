-- The offsets rewritten, an item at a time, by the noted ones. Assumes nothing.
use Prim.Native.Nat.{ℕ, ◌+◌, ◌-◌, ◌*◌, ◌/◌, ◌%◌, ◌≤◌, ◌<◌}
use mathlib.Core.Path.{◌≡◌, refl, sym, ap, ◌∙◌}
use mathlib.Core.List.{List, [], ◌∷◌, ◌++◌, append-nil}
use native.Mathlib.Omega.{arith}
use native.Mathlib.Nat.{sub-zero, add-zero}
use lib.ListN.{length, get_or, drop, drop_of_length-le}
use lib.Seq.{get_or-drop, drop-drop}
use Rattle.query_item.specs.declared.ItemWords.{ItemWords}
use Rattle.query_item.specs.Items.{bytes_of, item_size, item_at, items_from, flat_all, with_item}
use Rattle.item_check.specs.Checks.{items_of}
use Rattle.item_check.proofs.Scans.{items_end, items_more}
use Rattle.item_lists.proofs.Written.{length_flat, Left, left_start, left_one, left_done, put_laid}
use Rattle.item_lists.proofs.Words.{length_items, item_alike, drop_with}
use Rattle.pool_collect.specs.Collected.{offset_in, keys_of, moved_items}
use Rattle.pool_collect.specs.Table.{places_of, placed_item, placed_items}

-- items whose keys' places stand from at on are moved by them
pub placed_moved : (pool : List ℕ) (D : List (List ℕ)) (P rest : List ℕ) (at : ℕ) (its : List ItemWords)
    → drop at P ≡ places_of D (keys_of pool its) ++ rest → placed_items P at its ≡ moved_items pool D its
unfolding placed_items keys_of
placed_moved pool D P rest at [] e = refl
placed_moved pool D P rest at (it ∷ its) e =
    let start : get_or P at 0 ≡ offset_in D (bytes_of pool it.start) =
    rw add-zero at (sym (get_or-drop at P 0 0) ∙ ap (λ (l : List ℕ). get_or l 0 0) e) in
    let end : get_or P (at + 1) 0 ≡ offset_in D (bytes_of pool it.end) = sym (get_or-drop at P 1 0) ∙ ap (λ (l : List ℕ). get_or l 1 0) e in
    rw (start, end, placed_moved pool D P rest (at + 2) its (sym (drop-drop 2 at P) ∙ ap (drop 2) e))

length_placed : (P : List ℕ) (at : ℕ) (its : List ItemWords) → length (placed_items P at its) ≡ length its
unfolding placed_items
length_placed P at [] = refl
length_placed P at (it ∷ its) = rw (length_placed P (at + 2) its)

module _ (P : List ℕ) (at : ℕ) (ws₀ : List ℕ) where
  abbrev count : ℕ
  count = length ws₀ / item_size

  -- the items from i on are as they were, and are left to be written
  pub record Rewriting (i : ℕ) (ws : List ℕ) : Type 0 where
    pub within : i ≤ count
    pub later : (j : ℕ) → i ≤ j → item_at ws j ≡ item_at ws₀ j
    pub left : Left (placed_items P at (items_of ws₀)) ws₀ 0 ws i (placed_items P (at + 2 * i) (items_from ws₀ i (count - i)))

  pub rewriting_start : Rewriting 0 ws₀
  rewriting_start = record {
    within = omega arith;
    later = λ j h. refl;
    left = rw (sub-zero, add-zero) (left_start (placed_items P at (items_of ws₀)) ws₀ 0);
  }

  module _ (i : ℕ) (ws : List ℕ) (v : Rewriting i ws) where
    pub rewriting_more : i < count → {it r : ItemWords} {ws' : List ℕ} → it ≡ item_at ws i → r ≡ placed_item P (at + 2 * i) it
        → ws' ≡ with_item ws i r → Rewriting (i + 1) ws'
    unfolding placed_items
    rewriting_more h {it} {r} e m q =
        let next : at + 2 * i + 2 ≡ at + 2 * (i + 1) = omega arith in
        record {
          within = omega arith;
          later = λ j l. rw q (item_alike (with_item ws i r) ws j (drop_with ws i r (omega (arith, v.left.same)) j (omega arith)) ∙ v.later j (omega arith));
          left = left_one v.left {it = placed_item P (at + 2 * i) (item_at ws₀ i)} {R' = placed_items P (at + 2 * (i + 1)) (items_from ws₀ (i + 1) (count - (i + 1)))}
              (rw (items_more ws₀ i count h, next)) (q ∙ rw (m, e, v.later i (omega arith)));
        }

    pub rewriting_end : count ≤ i → length ws₀ % item_size ≡ 0 → ws ≡ flat_all (placed_items P at (items_of ws₀))
    unfolding placed_items
    rewriting_end h z =
        let its = placed_items P at (items_of ws₀) in
        let many : length its ≡ count = length_placed P at (items_of ws₀) ∙ length_items ws₀ 0 count in
        put_laid its (left_done v.left (rw (items_end ws₀ i count h))) (omega arith)
        ∙ rw (drop_of_length-le ws₀ {i = length (flat_all its)} (omega (arith, length_flat its)), append-nil)
