-- `contains` meets its contract: the check, then the halves. Assumes nothing.
use Rattle.position_given.proofs.Accepted.{sound_of}
use Rattle.position_intervals.proofs.ask.contains.Goals as goal

pub in_one_of-requires : goal.in_one_of-requires
in_one_of-requires c = sound_of _ _ c.check_intervals.ensures c.in_ok-check_intervals.was
