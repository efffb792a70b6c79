-- What the calls of modules 3 and 4 give back. Definitions only. Assumes nothing.
use Rattle.std.specs.Prelude.{ℕ, ◌≡◌, List, [], ◌∷◌}
use Rattle.intersect.specs.declared.QueryItemIntersectionResult.{QueryItemIntersectionResult}
use Rattle.intersect_many.specs.declared.ManyCounts.{ManyCounts}
use Rattle.item_check.specs.Checks.{Answer}
use Rattle.item_lists.specs.Written.{written}
use Rattle.intersect_many.specs.Lists.{shared_items, only_items, many_answer}
use Rattle.fernsponge.specs.Answers.{maybe_numbers, returned, left}

-- 01 m3.6: the pair: it returns r, and the five places, which held in_both and the others, are left with the parts, each an item that may be missing
pub record GivesPair (answer : Answer QueryItemIntersectionResult) (in_both ours_left ours_right theirs_left theirs_right : List ℕ)
    (r : ℕ) (in_both' ours_left' ours_right' theirs_left' theirs_right' : List ℕ) : Type 0 where
  pub number : r ≡ returned answer
  pub shared : in_both' ≡ left (λ p. maybe_numbers p.in_both) answer in_both
  pub ours_before : ours_left' ≡ left (λ p. maybe_numbers p.ours_left) answer ours_left
  pub ours_after : ours_right' ≡ left (λ p. maybe_numbers p.ours_right) answer ours_right
  pub theirs_before : theirs_left' ≡ left (λ p. maybe_numbers p.theirs_left) answer theirs_left
  pub theirs_after : theirs_right' ≡ left (λ p. maybe_numbers p.theirs_right) answer theirs_right

-- 01 change.2: the three lists: how many items each has
abbrev pub count_numbers : ManyCounts → List ℕ
count_numbers c = c.shared ∷ c.ours ∷ c.theirs ∷ []

-- 01 m4.5: the call returns r, and what was lent to it, shared_out, ours_out, theirs_out and counts, is left as it has to be
pub record GivesMany (pool ours theirs shared_out ours_out theirs_out counts : List ℕ) (r : ℕ) (shared_out' ours_out' theirs_out' counts' : List ℕ) : Type 0 where
  pub number : r ≡ returned (many_answer pool ours theirs shared_out ours_out theirs_out)
  pub shared : shared_out' ≡ written (many_answer pool ours theirs shared_out ours_out theirs_out) (shared_items pool ours theirs) shared_out
  pub ours_only : ours_out' ≡ written (many_answer pool ours theirs shared_out ours_out theirs_out) (only_items pool ours theirs) ours_out
  pub theirs_only : theirs_out' ≡ written (many_answer pool ours theirs shared_out ours_out theirs_out) (only_items pool theirs ours) theirs_out
  pub counted : counts' ≡ left count_numbers (many_answer pool ours theirs shared_out ours_out theirs_out) counts
