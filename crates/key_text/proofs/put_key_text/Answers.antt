-- `put_key_text` meets its contract: no byte, or all of them. Assumes nothing.
use mathlib.Core.Path.{refl, sym, ◌∙◌}
use native.Mathlib.Omega.{arith}
use lib.ListN.{length}
use borrow.Author.Tests.{eqb-true, eqb-false}
use Rattle.key_text.proofs.Laws.{key_none, key_some}
use Rattle.key_text.proofs.put_key_text.Goals as goal

pub returns-then-is_empty : goal.returns-then-is_empty
returns-then-is_empty c = rw (key_none c.args.key.now (eqb-true _ _ (sym c.is_empty.ensures ∙ c.if-is_empty.true))) (refl, c.put_past.ensures, omega arith)

pub returns : goal.returns
returns c =
    let some = eqb-false (length c.args.key.now) 0 (sym c.is_empty.ensures ∙ c.if-is_empty.false) in
    rw (key_some c.args.key.now (omega arith)) c.put_hex.ensures
