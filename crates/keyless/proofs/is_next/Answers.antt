-- `keyless::is_next` meets its contract: another length or last byte is no next key; of those, the bytes before the last decide. Assumes nothing.
use Rattle.std.specs.Ordering.{is_eq}
use mathlib.Core.Path.{sym, ap, ◌∙◌}
use native.Mathlib.Omega.{arith}
use Rattle.keyless.proofs.Next.{next_length, next_last, next_part}
use Rattle.keyless.proofs.is_next.Goals as goal

pub returns-then-b-n : goal.returns-then-b-n
returns-then-b-n c = sym (next_length c.args.a.now c.args.b.now (λ e. omega arith))

pub returns-then-b-n-ne1 : goal.returns-then-b-n-ne1
returns-then-b-n-ne1 c = sym (next_length c.args.a.now c.args.b.now (λ e. c.if-b-n-ne1.true (omega arith)))

pub returns-then-b-n-ne0 : goal.returns-then-b-n-ne0
returns-then-b-n-ne0 c = sym (next_last c.args.a.now c.args.b.now c.if-b-n-ne0.true)

pub returns : goal.returns
returns c = c.is_eq.ensures
    ∙ ap is_eq (c.compare.ensures ∙ next_part c.args.a.now c.args.b.now (omega arith) (omega arith))
