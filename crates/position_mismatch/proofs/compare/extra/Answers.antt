-- `extra` meets its contract: the checks, then the pass. Assumes nothing.
use Rattle.position_given.proofs.Accepted.{sound_proved}
use Rattle.position_mismatch.proofs.compare.extra.Goals as goal

pub extra_positions-requires : goal.extra_positions-requires
extra_positions-requires c = record { sound = sound_proved _ _ _ c.check_proved.ensures c.in_ok-check_proved.was }
