-- The half that is asked has the answer of the whole. The measure is the number of words. Assumes nothing.
use lib.ListN.{length}
use Rattle.position_intervals.proofs.ask.+in_one_of.Given as goal

abbrev pub decreases-in_one_of : goal.decreases-in_one_of
decreases-in_one_of l = length l.intervals.now
