-- Items written one after another: what is left to write is written from where a pass stands, and what enough room leaves. Assumes nothing.
use Rattle.query_item.specs.declared.QueryItem.{QueryItem}
use Rattle.std.specs.Prelude.{Option, None, Some}
use Prim.Native.Nat.{ℕ, suc, ◌+◌, ◌*◌, ◌/◌, ◌≤◌}
use mathlib.Core.Path.{◌≡◌, refl, sym, ap, subst, ◌∙◌}
use mathlib.Core.Bool.{Bool, true, false, cond}
use mathlib.Core.List.{List, [], ◌∷◌, ◌++◌}
use native.Mathlib.Omega.{arith}
use native.Mathlib.Nat.{add-zero, zero-add}
use lib.ListN.{length, length-append, set}
use lib.Seq.{sets, sets-eq, length-sets}
use lib.Dec.{ltb}
use borrow.Author.Tests.{lt-ltb}
use Rattle.query_item.specs.declared.ItemWords.{ItemWords}
use Rattle.query_item.specs.Items.{item_size, flat, flat_all, with_item}
use Rattle.item_lists.specs.Written.{as_items, laid_over, put_all, Put}

-- an item that may be missing is one at most
pub at_most_one : (m : Option QueryItem) → length (as_items m) ≤ 1
at_most_one None = omega arith
at_most_one (Some q) = omega arith

pub length_with : (ws : List ℕ) (i : ℕ) (it : ItemWords) → length (with_item ws i it) ≡ length ws
unfolding with_item
length_with ws i it = go (ltb i (length ws / item_size))
  where
    go : (t : Bool) → length (cond t (sets ws (item_size * i) (flat it)) ws) ≡ length ws
    go true = length-sets ws (item_size * i) (flat it)
    go false = refl

length_put : (out : List ℕ) (n : ℕ) (its : List ItemWords) → length (put_all out n its) ≡ length out
unfolding put_all
length_put out n [] = refl
length_put out n (it ∷ its) = length_put (with_item out n it) (suc n) its ∙ length_with out n it

put_append : (out : List ℕ) (n : ℕ) (H R : List ItemWords) → put_all out n (H ++ R) ≡ put_all (put_all out n H) (n + length H) R
unfolding put_all
put_append out n [] R = rw add-zero
put_append out n (it ∷ H) R =
    let e : suc n + length H ≡ n + suc (length H) = omega arith in
    put_append (with_item out n it) (suc n) H R ∙ rw e

-- W is to be written from n₀ on; R of it is left, from n on
pub record Left (W : List ItemWords) (out₀ : List ℕ) (n₀ : ℕ) (out : List ℕ) (n : ℕ) (R : List ItemWords) : Type 0 where
  pub same : length out ≡ length out₀
  pub words : put_all out₀ n₀ W ≡ put_all out n R
  pub many : n₀ + length W ≡ n + length R

pub left_start : (W : List ItemWords) (out : List ℕ) (n : ℕ) → Left W out n out n W
left_start W out n = record { same = refl; words = refl; many = refl }

module _ {W : List ItemWords} {out₀ : List ℕ} {n₀ : ℕ} {out : List ℕ} {n : ℕ} {R : List ItemWords} (v : Left W out₀ n₀ out n R) where
  -- the first of what is left is written
  pub left_put : (H R' : List ItemWords) {out' : List ℕ} {n' : ℕ} → R ≡ H ++ R' → Put out n H out' n' → Left W out₀ n₀ out' n' R'
  left_put H R' e p = record {
    same = ap length p.words ∙ length_put out n H ∙ v.same;
    words = v.words ∙ rw (e, put_append out n H R', ← p.words, ← p.count);
    many = omega (arith, v.many, p.count, simp length-append at (ap length e));
  }

  pub left_one : {it : ItemWords} {R' : List ItemWords} {out' : List ℕ} → R ≡ it ∷ R' → out' ≡ with_item out n it → Left W out₀ n₀ out' (n + 1) R'
  unfolding put_all
  left_one {it} {R'} e p = left_put (it ∷ []) R' e (record { count = refl; words = p })

  -- nothing is left
  pub left_done : R ≡ [] → Put out₀ n₀ W out n
  unfolding put_all
  left_done e = record {
    count = omega (arith, v.many, ap length e);
    words = sym (v.words ∙ rw e);
  }

  -- all that is left is written
  pub left_finish : {out' : List ℕ} {n' : ℕ} → Put out n R out' n' → Put out₀ n₀ W out' n'
  left_finish p = record {
    count = omega (arith, v.many, p.count);
    words = p.words ∙ sym v.words;
  }

  -- what is left, told otherwise
  pub left_as : (R' : List ItemWords) → R ≡ R' → Left W out₀ n₀ out n R'
  left_as R' e = subst (λ (S : List ItemWords). Left W out₀ n₀ out n S) e v

-- two runs, one after the other
pub put_then : (out : List ℕ) (n : ℕ) (H R : List ItemWords) {out' out'' : List ℕ} {n' n'' : ℕ} → Put out n H out' n' → Put out' n' R out'' n''
    → Put out n (H ++ R) out'' n''
put_then out n H R p r = record {
  count = rw length-append (omega (arith, p.count, r.count));
  words = r.words ∙ rw (p.words, p.count) (sym (put_append out n H R));
}

-- nothing to write
pub put_none : (out : List ℕ) (n : ℕ) → Put out n [] out n
unfolding put_all
put_none out n = record { count = omega arith; words = refl }

-- ---- items in enough room

pub sets_append : (us vs l : List ℕ) (i : ℕ) → sets l i (us ++ vs) ≡ sets (sets l i us) (i + length us) vs
sets_append [] vs l i = rw add-zero
sets_append (u ∷ us) vs l i =
    let e : suc i + length us ≡ i + suc (length us) = omega arith in
    sets_append us vs (set l i u) (suc i) ∙ rw e

pub length_flat : (its : List ItemWords) → length (flat_all its) ≡ item_size * length its
unfolding flat_all
length_flat [] = refl
length_flat (it ∷ its) = rw (length_flat its) (omega arith)

put_is_sets : (out : List ℕ) (n : ℕ) (its : List ItemWords) → n + length its ≤ length out / item_size → put_all out n its ≡ sets out (item_size * n) (flat_all its)
unfolding put_all flat_all with_item
put_is_sets out n [] h = refl
put_is_sets out n (it ∷ its) h =
    let e : item_size * n + 6 ≡ item_size * suc n = omega arith in
    rw (lt-ltb n (length out / item_size) (omega arith))
    (put_is_sets (sets out (item_size * n) (flat it)) (suc n) its (rw (length-sets out (item_size * n) (flat it)) (omega arith))
    ∙ rw (← e) (sym (sets_append (flat it) (flat_all its) out (item_size * n))))

pub put_laid : {out out' : List ℕ} {n : ℕ} (its : List ItemWords) → Put out 0 its out' n → length its ≤ length out / item_size → out' ≡ laid_over out its
put_laid {out} its p h =
    p.words
    ∙ put_is_sets out 0 its (omega arith)
    ∙ sets-eq (flat_all its) out 0 (rw (length_flat its) (omega arith))
    ∙ rw zero-add
