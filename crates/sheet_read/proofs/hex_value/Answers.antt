-- `sheet_read::hex_value` meets its contract: what a digit counts by its last four bits. Assumes nothing.
use Rattle.sheet_read.proofs.Digits.{value_hex}
use Rattle.sheet_read.proofs.hex_value.Goals as goal

pub returns : goal.returns
returns c = value_hex _ c.requires
