-- The half that is asked has the answer of the whole. The measure is the number of words. Assumes nothing.
use lib.ListN.{length}
use Rattle.position_intervals.proofs.ask.+contains_accepted.Given as goal

abbrev pub decreases-contains_accepted : goal.decreases-contains_accepted
decreases-contains_accepted l = length l.intervals.now
