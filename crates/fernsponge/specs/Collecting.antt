-- What the call that collects a pool gives back. Definitions only. Assumes nothing.
use Rattle.std.specs.Prelude.{ℕ, ◌≡◌, List}
use Rattle.pool_collect.specs.Collected.{collect_answer, collect_bytes, collect_words}
use Rattle.fernsponge.specs.Answers.{returned, left, itself}

-- 02 §6.5, §6.6, §6.8: `collect`: it returns r; the fresh pool and both lists are left with what the call leaves in them, and the number's place,
-- which held used, with how many bytes are used
pub record GivesCollected (pool fresh ours theirs : List ℕ) (used r : ℕ) (fresh' ours' theirs' : List ℕ) (used' : ℕ) : Type 0 where
  pub number : r ≡ returned (collect_answer pool fresh ours theirs)
  pub bytes : fresh' ≡ collect_bytes pool fresh ours theirs
  pub ours_words : ours' ≡ collect_words pool fresh ours theirs ours
  pub theirs_words : theirs' ≡ collect_words pool fresh ours theirs theirs
  pub counted : used' ≡ left itself (collect_answer pool fresh ours theirs) used
