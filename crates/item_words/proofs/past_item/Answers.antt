-- `item_words::past_item` meets its contract: words past the list's end are 0, also where the index is put back to the end.
-- Assumes nothing.
use Rattle.query_item.proofs.Words.{item_clipped}
use Rattle.item_words.proofs.past_item.Goals as goal

pub returns : goal.returns
returns c = rw (
  c.word_or_zero.ensures,
  c.word_or_zero-2.ensures,
  c.word_or_zero-3.ensures,
  c.word_or_zero-4.ensures,
  c.word_or_zero-5.ensures,
  c.word_or_zero-6.ensures,
) (item_clipped c.args.words.now c.args.i c.min-at.result c.min-at.ensures)
