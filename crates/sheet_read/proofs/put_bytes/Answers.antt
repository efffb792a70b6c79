use mathlib.Core.Path.{sym, ◌∙◌}
use Prim.Native.Nat.{◌+◌}
use Rattle.sheet_read.proofs.Digits.{digits_turn, bytes_turn, bytes_done}
use Rattle.sheet_read.proofs.Measures.{length_hex_bytes}
use Rattle.sheet_read.proofs.put_bytes.Goals as goal

pub byte_of-requires : goal.byte_of-requires
byte_of-requires c =
    let two = c.in-Some.ensures.steps.0.1 in
    (digits_turn c.in-Some.pair.now c.next.new.self.iter.rest.now (two.1 ∙ c.loop-i.invariant.0) (rw two.0 at c.loop-i.invariant.1)).0

pub loop-i-preserved : goal.loop-i-preserved
loop-i-preserved c =
    let steps = c.in-Some.ensures.steps in
    let two = steps.0.1 in
    let p = c.in-Some.pair.now in
    let r = c.next.new.self.iter.rest.now in
    let even = two.1 ∙ c.loop-i.invariant.0 in
    let turn = bytes_turn c.loop-i.out c.put_past.new.out p r c.args.at c.loop-i.i-iterator.count c.byte_of.result even c.byte_of.ensures
    (rw steps.1 at c.put_past.ensures) in (
      steps.0.0 ∙ c.loop-i.invariant.0,
      (digits_turn p r even (rw two.0 at c.loop-i.invariant.1)).1,
      rw steps.2 (turn ∙ rw two.0 at c.loop-i.invariant.2),
    )

pub returns : goal.returns
returns c =
    let left = c.loop-i.i-iterator.iter.rest.now in
    let few = rw c.loop-i.invariant.0 at c.in-None.ensures.steps.0.1.0 in
    let done = bytes_done c.loop-i.out left (c.args.at + c.loop-i.i-iterator.count) few in
    (sym (length_hex_bytes c.args.s.now), sym done ∙ c.loop-i.invariant.2)
