-- Insertions one after the other, as callers make them, and which of two items stands before the other. Definitions only. Assumes nothing.
use Rattle.std.specs.Prelude.{ℕ, ◌≡◌, List, [], ◌∷◌, ◌++◌, Ok, Err}
use Rattle.query_item.specs.declared.ItemWords.{ItemWords}
use Rattle.item_check.specs.Checks.{Answer}
use Rattle.insert.specs.Insertion.{inserted}
use Rattle.insert.specs.Answers.{insert_answer, insert_words}

-- 02 §10.1: inserting one and then the other: each item into the list that the ones before it left
unfoldable pub inserted_all : List ℕ → List ItemWords → List ItemWords → List ItemWords
inserted_all pool [] its = its
inserted_all pool (new ∷ news) its = inserted_all pool news (inserted pool new its)

-- 02 §10.1: as calls: each on the words, and with the count, that the one before it left; a refusal ends them

abbrev pub next_answer : Answer ℕ → (ℕ → Answer ℕ) → Answer ℕ
next_answer (Ok n) next = next n
next_answer (Err r) next = Err r

abbrev pub next_words : Answer ℕ → List ℕ → (ℕ → List ℕ) → List ℕ
next_words (Ok n) ws next = next n
next_words (Err r) ws next = ws

unfoldable pub insert_all_answer : List ℕ → List ℕ → ℕ → List ItemWords → Answer ℕ
insert_all_answer pool ws count [] = Ok count
insert_all_answer pool ws count (new ∷ news) =
    next_answer (insert_answer pool ws count new) (λ n. insert_all_answer pool (insert_words pool ws count new) n news)

unfoldable pub insert_all_words : List ℕ → List ℕ → ℕ → List ItemWords → List ℕ
insert_all_words pool ws count [] = ws
insert_all_words pool ws count (new ∷ news) =
    next_words (insert_answer pool ws count new) ws (λ n. insert_all_words pool (insert_words pool ws count new) n news)

-- 02 §10.2: items stand in order of arrival: one of a list stands before another
abbrev pub StandsBefore : ItemWords → ItemWords → List ItemWords → Type 0
StandsBefore x y its =
    (front : List ItemWords) × (between : List ItemWords) × (back : List ItemWords) × (its ≡ front ++ (x ∷ (between ++ (y ∷ back))))
