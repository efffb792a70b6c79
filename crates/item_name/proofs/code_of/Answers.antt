-- `item_name::code_of` meets its contract: names of another length are others. Assumes nothing.
use mathlib.Core.Path.{sym, ◌∙◌}
use native.Mathlib.Omega.{arith}
use Rattle.item_name.proofs.Laws.{code_by_length, code_of_none}
use Rattle.item_name.proofs.code_of.Goals as goal

pub returns-in-3 : goal.returns-in-3
returns-in-3 c = c.code_if.ensures ∙ sym (code_by_length _ 3 c.in-3.is)

pub returns-in-5 : goal.returns-in-5
returns-in-5 c = c.code_if-in-5.ensures ∙ sym (code_by_length _ 5 c.in-5.is)

pub returns-in-7 : goal.returns-in-7
returns-in-7 c = c.code_if-in-7.ensures ∙ sym (code_by_length _ 7 c.in-7.is)

pub returns-in-10 : goal.returns-in-10
returns-in-10 c = c.code_if-in-10.ensures ∙ sym (code_by_length _ 10 c.in-10.is)

pub returns-in-12 : goal.returns-in-12
returns-in-12 c = c.code_if-in-12.ensures ∙ sym (code_by_length _ 12 c.in-12.is)

pub returns-in-14 : goal.returns-in-14
returns-in-14 c = c.code_if-in-14.ensures ∙ sym (code_by_length _ 14 c.in-14.is)

pub returns-in-16 : goal.returns-in-16
returns-in-16 c = c.code_if-in-16.ensures ∙ sym (code_by_length _ 16 c.in-16.is)

pub returns-in-21 : goal.returns-in-21
returns-in-21 c = c.code_if-in-21.ensures ∙ sym (code_by_length _ 21 c.in-21.is)

pub returns-in_default : goal.returns-in_default
returns-in_default c =
    sym (code_of_none _ (omega arith) (omega arith) (omega arith) (omega arith) (omega arith) (omega arith) (omega arith) (omega arith) (omega arith))
