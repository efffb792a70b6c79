use Rattle.std.proofs.Common.{rules}
use mathlib.Core.Path.{sym, ◌∙◌}
use native.Mathlib.Omega.{arith}
use Rattle.query_item.specs.Items.{item_at}
use Rattle.insert_order.specs.Order.{plain}
use Rattle.insert_order.proofs.Chains.{rfind_none, rfind_some}
use Rattle.insert.proofs.Windows.{stay_wrapped, stay_none, stay_plain, stay_below}
use Rattle.insert.proofs.window.first_asked.Goals as goal

pub returns-then-not-is_plain : goal.returns-then-not-is_plain
returns-then-not-is_plain c = (omega arith, stay_wrapped _ _ _ _ c.requires.0 _ c.requires.1 (sym c.is_plain.ensures ∙ c.if-not-is_plain.true))

pub returns-in_default : goal.returns-in_default
returns-in_default c =
    let none = rfind_none _ _ _ (λ j. plain (item_at c.args.words.now j)) (search rules) (search rules) c.in_default.ensures.runs in
    (omega arith, stay_none _ _ _ _ c.requires.0 _ c.requires.1 none)

pub returns-then-ends_below : goal.returns-then-ends_below
returns-then-ends_below c =
    let last = rfind_some _ _ _ (λ j. plain (item_at c.args.words.now j)) (search rules) (search rules) _ c.in-Some.ensures.runs in (
      omega arith,
      stay_below _ _ _ _ c.requires.0 _ c.requires.1 _ last.below last.passes last.others (rw c.item_at.ensures at (sym c.ends_below.ensures ∙ c.if-ends_below.true)),
    )

pub returns-else-ends_below : goal.returns-else-ends_below
returns-else-ends_below c =
    let last = rfind_some _ _ _ (λ j. plain (item_at c.args.words.now j)) (search rules) (search rules) _ c.in-Some.ensures.runs in
    (omega (arith, last.below), stay_plain _ _ _ _ c.requires.0 _ c.requires.1 _ last.below last.passes)
