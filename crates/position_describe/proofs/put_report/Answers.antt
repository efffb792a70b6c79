-- `put_report` meets its contract: the six parts of the text, one after another. Assumes nothing.
use Prim.Native.Nat.{◌+◌}
use mathlib.Core.List.{◌∷◌, [], ◌++◌}
use native.Mathlib.Omega.{arith}
use Rattle.lent_text.specs.Text.{decimal}
use Rattle.position_describe.specs.Text.{positions_word, first_part, numbers_of}
use Rattle.lent_text.proofs.Laws.{stored_next, stored_three}
use Rattle.position_describe.proofs.put_report.Goals as goal

pub returns : goal.returns
returns c = let b = c.put_number-a.result + c.put_text.result in
    let at_list = b + c.put_first.result in
    let d = at_list + c.put_text-2.result in
    let end = stored_next c.put_text-2.new.out c.put_numbers.new.out c.put_text-3.new.out d c.put_numbers.result c.put_text-3.result (numbers_of c.args.report) (93 ∷ []) c.put_numbers.ensures.1 c.put_numbers.ensures.0 c.put_text-3.ensures.1 c.put_text-3.ensures.0 in
    let list = stored_next c.put_first.new.out c.put_text-2.new.out c.put_text-3.new.out at_list c.put_text-2.result (c.put_numbers.result + c.put_text-3.result) (58 ∷ 32 ∷ 91 ∷ [])
    (numbers_of c.args.report ++ (93 ∷ [])) c.put_text-2.ensures.1 c.put_text-2.ensures.0 end.1 end.0 in
    let shown = stored_next c.put_text.new.out c.put_first.new.out c.put_text-3.new.out b c.put_first.result (c.put_text-2.result + (c.put_numbers.result + c.put_text-3.result))
    (first_part c.args.report.total.0 c.args.report.count) _ c.put_first.ensures.1 c.put_first.ensures.0 list.1 list.0 in
    let all = stored_three c.args.out.now c.put_number-a.new.out c.put_text.new.out c.put_text-3.new.out c.put_number-a.result c.put_text.result
    (c.put_first.result + (c.put_text-2.result + (c.put_numbers.result + c.put_text-3.result))) (decimal c.args.report.total.0) positions_word _ c.put_number-a.ensures.1 c.put_number-a.ensures.0 c.put_text.ensures.1
    c.put_text.ensures.0 shown.1 shown.0 in
    (omega (arith, all.0), all.1)
