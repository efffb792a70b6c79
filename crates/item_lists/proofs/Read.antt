-- Items read back from their words: at the front of a list, of a list that has no others, and of items laid over a list. Assumes nothing.
use Prim.Native.Nat.{ℕ, suc, ◌*◌, ◌/◌, ◌%◌}
use mathlib.Core.Path.{◌≡◌, refl, ap, ap₂, subst, ◌∙◌}
use mathlib.Core.List.{List, [], ◌∷◌, ◌++◌, append_assoc, append-nil}
use native.Mathlib.Nat.{add-zero}
use native.Mathlib.Omega.{arith}
use lib.ListN.{length, take, drop, length-append}
use lib.Seq.{get_or-append-add, take_at}
use Rattle.query_item.specs.declared.ItemWords.{ItemWords}
use Rattle.query_item.specs.Items.{item_size, item_at, items_from, flat, flat_all}
use Rattle.item_check.specs.Checks.{items_of}
use Rattle.item_lists.specs.Written.{laid_over}
use Rattle.item_lists.proofs.Written.{length_flat}

item_read : (pre rest : List ℕ) (it : ItemWords) (i : ℕ) → length pre ≡ item_size * i → item_at (pre ++ (flat it ++ rest)) i ≡ it
unfolding item_at
item_read pre rest it i e =
    let at = get_or-append-add pre (flat it ++ rest) in
    let first = rw add-zero at (at 0 0) in
    rw (← e, first, at 1 0, at 2 0, at 3 0, at 4 0, at 5 0)

-- items after other words, i items' worth of them
pub items_read_lem : (its : List ItemWords) (pre rest : List ℕ) (i : ℕ) → length pre ≡ item_size * i
    → items_from (pre ++ (flat_all its ++ rest)) i (length its) ≡ its
unfolding items_from flat_all
items_read_lem [] pre rest i e = refl
items_read_lem (it ∷ its) pre rest i e =
    ap₂ ◌∷◌ (item_read pre (flat_all its ++ rest) it i e)
    (subst (λ (ws : List ℕ). items_from ws (suc i) (length its) ≡ its) (append_assoc pre (flat it) (flat_all its ++ rest))
    (items_read_lem its (pre ++ flat it) rest (suc i) (rw length-append (omega arith))))

-- ---- words of items alone: six for each item, which are read back

pub count_flat : (its : List ItemWords) → (length (flat_all its) / item_size ≡ length its) × (length (flat_all its) % item_size ≡ 0)
count_flat its = rw (length_flat its) (omega arith)

pub items_flat : (its : List ItemWords) → items_of (flat_all its) ≡ its
items_flat its = rw (count_flat its).0 (simp append-nil at (items_read_lem its [] [] 0 refl))

-- ---- items laid over a list: its first ones, as items and as words

module _ (out : List ℕ) (its : List ItemWords) (n : ℕ) (e : length its ≡ n) where
  pub items_laid : items_from (laid_over out its) 0 n ≡ its
  items_laid = rw (← e) (items_read_lem its [] (drop (length (flat_all its)) out) 0 refl)

  pub front_laid : take (item_size * n) (laid_over out its) ≡ flat_all its
  front_laid = take_at (flat_all its) (drop (length (flat_all its)) out) (item_size * n) (length_flat its ∙ ap (λ (m : ℕ). item_size * m) e)
