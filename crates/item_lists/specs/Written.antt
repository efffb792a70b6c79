-- Lists of items in lent words: as what they are written, the room that they need, and what a call leaves in a list that is lent to it.
-- Definitions only. Assumes nothing.
use Rattle.query_item.specs.declared.QueryItem.{QueryItem}
use Rattle.std.specs.Prelude.{ℕ, suc, ◌+◌, ◌/◌, ◌≡◌, List, [], ◌∷◌, ◌++◌, Bool, length, drop, ltb, Option, None, Some}
use Rattle.query_item.specs.declared.ItemWords.{ItemWords}
use Rattle.query_item.specs.Items.{item_size, words_of, flat_all, with_item}
use Rattle.item_check.specs.Checks.{Answer, words_by}

-- 01 change.2: an item that may be missing, as a list of at most one, as it is written: wrappers are dropped (01 m3.7, change.1)
abbrev pub as_items : Option QueryItem → List ItemWords
as_items None = []
as_items (Some q) = words_of 0 q ∷ []

-- 01 refusal.5: room means whole items; so many items need more than a list has
abbrev pub passes : ℕ → List ℕ → Bool
passes count out = ltb (length out / item_size) count

-- 01 m4.5, refusal.5: words past the written items keep their bytes
abbrev pub laid_over : List ℕ → List ItemWords → List ℕ
laid_over out its = flat_all its ++ drop (length (flat_all its)) out

-- 01 demand.1: a lent list afterwards: items laid over it where the call answers; a refusal leaves it as it was
abbrev pub written : {A : Type 0} → Answer A → List ItemWords → List ℕ → List ℕ
written r its out = words_by r out (laid_over out its)

-- ---- a pass that writes as far as there is room. No promise of a public call cites this (01 refusal.5)

-- items written one after another from index n on
unfoldable pub put_all : List ℕ → ℕ → List ItemWords → List ℕ
put_all out n [] = out
put_all out n (it ∷ its) = put_all (with_item out n it) (suc n) its

-- the same, and the index after them
pub record Put (out : List ℕ) (n : ℕ) (its : List ItemWords) (out' : List ℕ) (n' : ℕ) : Type 0 where
  pub count : n' ≡ n + length its
  pub words : out' ≡ put_all out n its
