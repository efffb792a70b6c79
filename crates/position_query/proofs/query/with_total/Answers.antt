-- `with_total` meets its contract: canonical pairs are counted, never refused. Assumes nothing.
use Rattle.std.specs.Prelude.{Ok}
use Prim.Native.Nat.{ℕ}
use mathlib.Core.Path.{◌≡◌, sym, ap, ◌∙◌}
use mathlib.Core.List.{List}
use Rattle.intervals.specs.Intervals.{Canonical}
use Rattle.pairs_sort.specs.Pairs.{pairs}
use Rattle.position_given.specs.Positions.{rows_of}
use Rattle.position_given.specs.Answers.{length_of, rows_answer}
use Rattle.position_given.proofs.Fronts.{canonical_fits, front_intervals, front_rows}
use Rattle.key_order.proofs.Impossible.{impossible}
use Rattle.position_query.proofs.query.with_total.Goals as goal

counted : (ws : List ℕ) (m : ℕ) → Canonical (pairs ws m) → rows_answer (pairs ws m) ≡ Ok (rows_of (pairs ws m))
counted ws m C = sym (ap rows_answer (front_intervals ws m C)) ∙ front_rows ws m C

pub count_front-requires : goal.count_front-requires
count_front-requires c = canonical_fits _ _ c.requires

pub returns-in_err-rows : goal.returns-in_err-rows
returns-in_err-rows c =
    let told = sym (ap length_of c.in_err-rows.was) ∙ c.count_front.ensures ∙ counted _ _ c.requires in
    impossible cc

pub returns : goal.returns
returns c =
    let told = sym (ap length_of c.in_ok-rows.was) ∙ c.count_front.ensures ∙ counted _ _ c.requires in
    cc
