-- `fernsponge::numbers::set_numbers` meets its contract: the words of the two boundaries, in their order. Assumes nothing.
use Rattle.fernsponge.specs.Answers.{set_words}
use Rattle.fernsponge.proofs.numbers.set_numbers.Goals as goal

pub returns : goal.returns
unfolding set_words
returns c = rw (
  c.kind_number-2.ensures,
  c.kind-2.ensures,
  c.kind_number.ensures,
  c.kind.ensures,
  c.key-end.ensures,
  c.key-start.ensures,
)
