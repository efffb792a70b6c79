use mathlib.Core.Path.{refl, ap}
use mathlib.Core.List.{◌∷◌, []}
use Prim.Native.Nat.{◌+◌, ◌/◌, ◌%◌, ◌≤◌}
use native.Mathlib.Omega.{arith}
use lib.ListN.{length, length-append}
use Rattle.lent_text.specs.Text.{decimal}
use Rattle.lent_text.proofs.Laws.{decimal_one, decimal_many, decimal_few, stored_next}
use Rattle.lent_text.proofs.+put_number.Goals as goal

pub returns-then-n-lt10 : goal.returns-then-n-lt10
returns-then-n-lt10 t c = rw (decimal_one c.args.n c.if-n-lt10.true, ← c.digit.ensures) (refl, c.put.ensures, omega arith)

pub returns : goal.returns
returns t c =
    let more = decimal_many c.args.n c.if-n-lt10.false (omega arith) in
    let few : c.put_number-k.result + 1 ≤ 20 =
    omega (
      arith,
      c.put_number-k.ensures.0,
      ap length more,
      length-append (decimal (c.args.n / 10)) ((48 + c.args.n % 10) ∷ []),
      decimal_few c.args.n,
    ) in
    let two =
    stored_next c.args.out.now c.put_number-k.new.out c.put_past.new.out c.args.at c.put_number-k.result 1 (decimal (c.args.n / 10))
    (c.digit-2.result ∷ []) c.put_number-k.ensures.1 c.put_number-k.ensures.0 c.put_past.ensures refl in
    rw (more, ← c.digit-2.ensures) (two.0, two.1, few)
