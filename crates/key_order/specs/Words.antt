-- Bytes read as a number. Definitions only. Assumes nothing.
use Rattle.std.specs.Prelude.{ℕ, ◌+◌, ◌*◌, ◌^◌, List, [], ◌∷◌, length}

-- 01 m6.1: big-endian: the number of a list of bytes, the first byte the greatest
unfoldable pub be : List ℕ → ℕ
be [] = 0
be (b ∷ bs) = b * 256 ^ length bs + be bs
