-- What the calls on plans give back. Definitions only. Assumes nothing.
use Rattle.std.specs.Prelude.{ℕ, ◌/◌, ◌≡◌, List, length}
use Rattle.position_plan.specs.Plans.{plan_answer, written_in}
use Rattle.fernsponge.specs.Answers.{returned, left}

-- 02 §9.7, §9.9: `plan_refetch`: it returns r; the words, out before, are left with the windows, and the number's place, which held windows,
-- with how many they are
pub record GivesPlan (ws proved : List ℕ) (W : ℕ) (out : List ℕ) (windows r : ℕ) (out' : List ℕ) (windows' : ℕ) : Type 0 where
  pub number : r ≡ returned (plan_answer ws proved W (length out / 2))
  pub written : out' ≡ written_in out (plan_answer ws proved W (length out / 2))
  pub counted : windows' ≡ left length (plan_answer ws proved W (length out / 2)) windows
