use mathlib.Core.Path.{sym, ◌∙◌}
use native.Mathlib.Omega.{arith}
use borrow.Author.Rules.{rules}
use Rattle.key_order.proofs.Numbers.{cmp_numbers}
use Rattle.key_order.proofs.Turns.{word_decides, word_same}
use Rattle.key_order.proofs.compare.Goals as goal

pub loop-i-init : goal.loop-i-init
loop-i-init c = (omega (arith, c.same_blocks-i.ensures), search rules, c.same_blocks-i.ensures)

-- the two words differ
pub returns-then-x-y : goal.returns-then-x-y
returns-then-x-y c = let args = c.args in
    rw (c.cmp.ensures, c.loop-i.invariant.2.order, cmp_numbers)
    (sym (word_decides args.a.now args.b.now c.loop-i.i (search rules) (search rules)
    (record { small = λ k. omega (arith, c.type_inv.a k) }) (record { small = λ k. omega (arith, c.type_inv.b k) })
    c.word-x.ensures c.word-y.ensures (λ e. absurd (c.if-x-y.true e))))

pub loop-i-preserved : goal.loop-i-preserved
loop-i-preserved c = let args = c.args in (
  search rules,
  search rules,
  record {
    first = search rules;
    second = search rules;
    order = c.loop-i.invariant.2.order
        ∙ word_same args.a.now args.b.now c.loop-i.i (search rules) (search rules)
        (record { small = λ k. omega (arith, c.type_inv.a k) }) (record { small = λ k. omega (arith, c.type_inv.b k) })
        c.word-x.ensures c.word-y.ensures (search rules);
  },
)

pub returns : goal.returns
returns c = rw (c.compare_from.ensures, c.loop-i.invariant.2.order)
