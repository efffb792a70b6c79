-- `sheet_read::put_bytes` meets its contract. The invariant: storing the bytes of the digits that are left over what is there gives what storing all
-- of them at first gives. Assumes nothing.
use Prim.Native.Nat.{◌+◌}
use mathlib.Core.Path.{◌≡◌}
use Rattle.lent_text.specs.Text.{stored}
use Rattle.sheet_row.specs.Lanes.{hex_bytes}
use Rattle.sheet_read.specs.Passes.{Digits}
use Rattle.sheet_read.proofs.put_bytes.Given as goal

abbrev pub invariant-loop-i : goal.invariant-loop-i
invariant-loop-i l = (l.i-iterator.iter.size ≡ 2)
    × Digits l.i-iterator.iter.rest.now
    × (stored l.out (l.at + l.i-iterator.count) (hex_bytes l.i-iterator.iter.rest.now) ≡ stored l.initial.out l.at (hex_bytes l.s))
