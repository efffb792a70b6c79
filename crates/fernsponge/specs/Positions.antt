-- What the calls of module 6 give back. Definitions only. Assumes nothing.
use Rattle.std.specs.Prelude.{ℕ, ◌≡◌, List, length, Ok}
use Rattle.item_check.specs.Checks.{Answer, and_then}
use Rattle.position_query.specs.Covered.{build_verdict, FromQueryItems}
use Rattle.position_report.specs.declared.PositionMismatch.{PositionMismatch}
use Rattle.fernsponge.specs.Answers.{returned, left}

-- 01 m6.10: a comparison: it returns r, and the three places, which held total, count and examples, are left with the report
pub record GivesReport (answer : Answer PositionMismatch) (total count : ℕ) (examples : List ℕ) (r total' count' : ℕ) (examples' : List ℕ) : Type 0 where
  pub number : r ≡ returned answer
  pub totalled : total' ≡ left (λ m. m.total.0) answer total
  pub counted : count' ≡ left (λ m. m.count) answer count
  pub shown : examples' ≡ left (λ m. m.examples) answer examples

-- 02 §4.1: the number of pairs of a stored list, and its total, have a place each

abbrev pub pairs_in : ℕ × ℕ → ℕ
pairs_in a = a.0

abbrev pub rows_in : ℕ × ℕ → ℕ
rows_in a = a.1

-- 01 m6.5, m6.6, 02 §4.5: `from_query_items`: it returns r, and leaves the words, out before, as document 01 says of the number of pairs and the
-- total that it tells, and the places of these two as they were where it refuses
pub record GivesPairs (pool ws : List ℕ) (count : ℕ) (out : List ℕ) (pairs total r : ℕ) (out' : List ℕ) (pairs' total' : ℕ) : Type 0 where
  pub number : r ≡ returned (build_verdict pool ws count (length out))
  pub written : FromQueryItems pool ws count out out' (and_then (build_verdict pool ws count (length out)) (Ok (pairs', total')))
  pub kept : pairs' ≡ left (λ u. pairs') (build_verdict pool ws count (length out)) pairs
  pub total_kept : total' ≡ left (λ u. total') (build_verdict pool ws count (length out)) total
