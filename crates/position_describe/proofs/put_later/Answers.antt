-- `put_later` meets its contract. Assumes nothing.
use mathlib.Core.List.{◌∷◌, []}
use native.Mathlib.Omega.{arith}
use Rattle.lent_text.specs.Text.{decimal}
use Rattle.lent_text.proofs.Laws.{stored_next}
use Rattle.position_describe.proofs.put_later.Goals as goal

pub returns : goal.returns
returns c = let both = stored_next c.args.out.now c.put_text-a.new.out c.put_number.new.out c.args.at c.put_text-a.result c.put_number.result (44 ∷ 32 ∷ []) (decimal c.args.p)
    c.put_text-a.ensures.1 c.put_text-a.ensures.0 c.put_number.ensures.1 c.put_number.ensures.0 in
    (both.0, both.1, omega (arith, c.put_text-a.ensures.0, c.put_number.ensures.2))
