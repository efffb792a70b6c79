-- What is answered in module 2 where a boundary's kind comes as a number. Definitions only. Assumes nothing.
use Rattle.query_item.specs.declared.QueryItem.{QueryItem}
use Rattle.std.specs.declared.cmp.Ordering.{Ordering}
use Rattle.std.specs.Prelude.{ℕ, List, Bool, cond, not, ◌&&◌, ◌||◌, Option, Ok}
use Rattle.key_order.specs.Boundary.{compare_boundaries}
use Rattle.boundary.specs.declared.BoundaryKind.{BoundaryKind}
use Rattle.boundary.specs.Kinds.{boundary, invert_kind}
use Rattle.range_borrowed.specs.declared.Direction.{Direction}
use Rattle.range_borrowed.specs.declared.Direction.TheVariants.{LeftOf, RightOf}
use Rattle.range_borrowed.specs.Kinds.{kind_numbered}
use Rattle.item_check.specs.Checks.{Answer, refused, Verdict, accepted, and_then, nonzero}
use Rattle.item_ask.specs.Calls.{to_query_item_answer}
use Rattle.fernsponge.specs.declared.numbers.SetWords.{SetWords}
use Rattle.fernsponge.specs.Answers.{is_kind, is_unbounded, set_of_words}

-- 01 no.1: a number that is no kind is refused with 1, 0 and 0, as an unknown code is

abbrev pub kind_verdict : ℕ → Verdict
kind_verdict n = cond (is_kind n) accepted (refused 1 0 0)

abbrev pub kinds_verdict : ℕ → ℕ → Verdict
kinds_verdict m n = cond (is_kind m && is_kind n) accepted (refused 1 0 0)

abbrev pub compare_answer : ℕ → List ℕ → ℕ → List ℕ → Answer Ordering
compare_answer left a right b =
    and_then (kinds_verdict left right) (Ok (compare_boundaries (boundary (kind_numbered left) a) (boundary (kind_numbered right) b)))

abbrev pub invert_answer : ℕ → Bool → Answer BoundaryKind
invert_answer n is_start = and_then (kind_verdict n) (Ok (invert_kind (kind_numbered n) is_start))

-- 01 keys.5, no.1: unknown kind, as an unknown code; absent key not 0: an unbounded boundary has no key
abbrev pub malformed_set : SetWords → Bool
malformed_set w =
    not (is_kind w.from)
    || not (is_kind w.to)
    || (is_unbounded w.from && nonzero w.start)
    || (is_unbounded w.to && nonzero w.end)

abbrev pub set_words_verdict : SetWords → Verdict
set_words_verdict w = cond (malformed_set w) (refused 1 0 0) accepted

-- 01 refusal.6: the refusal of such words and that of the pool are the same, so that their order shows nowhere
abbrev pub between_answer : List ℕ → SetWords → Answer (Option QueryItem)
between_answer pool w = and_then (set_words_verdict w) (to_query_item_answer pool (set_of_words w))

-- 01 m2.4: left of a key, or else right of it
abbrev pub direction_of_flag : Bool → Direction
direction_of_flag left = cond left LeftOf RightOf
