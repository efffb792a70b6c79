-- `lent_text::put_spaced` meets its contract. Assumes nothing.
use mathlib.Core.List.{◌∷◌, []}
use mathlib.Core.Path.{refl, ◌∙◌}
use native.Mathlib.Omega.{arith}
use Rattle.lent_text.specs.Text.{decimal}
use Rattle.lent_text.proofs.Laws.{stored_capped, stored_next}
use Rattle.lent_text.proofs.put_spaced.Goals as goal

pub returns : goal.returns
returns c =
    let more = c.put_number.ensures.1 ∙ stored_capped _ _ _ _ _ c.saturating_add.ensures (omega arith) in
    let two = stored_next c.args.out.now c.put.new.out c.put_number.new.out c.args.at 1 c.put_number.result (32 ∷ []) (decimal c.args.n) c.put.ensures refl more c.put_number.ensures.0 in
    (two.0, two.1, omega (arith, c.put_number.ensures.2))
