-- `numbers::set_of_words` meets its contract: both boundaries are made of a kind and a key. Assumes nothing.
use Rattle.fernsponge.specs.Answers.{set_of_words}
use Rattle.fernsponge.proofs.numbers.set_of_words.Goals as goal

pub returns : goal.returns
unfolding set_of_words
returns c = rw (c.with_key-2.ensures, c.kind_numbered-2.ensures, c.with_key.ensures, c.kind_numbered.ensures)
