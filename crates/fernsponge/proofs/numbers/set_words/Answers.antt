-- `set_words` meets its contract, by computation. Assumes nothing.
use mathlib.Core.Path.{refl}
use Rattle.fernsponge.specs.Answers.{set_words_in}
use Rattle.fernsponge.proofs.numbers.set_words.Goals as goal

pub returns : goal.returns
unfolding set_words_in
returns c = refl
