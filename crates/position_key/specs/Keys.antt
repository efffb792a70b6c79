-- Position keys. Definitions only. Assumes nothing.
use Rattle.item_check.specs.declared.Refusal.{Refusal}
use Rattle.std.specs.Prelude.{ℕ, zero, suc, ◌/◌, ◌%◌, ◌^◌, List, [], ◌∷◌, cond, length, eqb, Ok, Err, Result}
use Rattle.key_order.specs.Words.{be}
use Rattle.item_check.specs.Checks.{Answer, refused}
use Rattle.position_given.specs.declared.LogPosition.{LogPosition}

-- 01 m6.1: the last k bytes of a number, the greatest first
unfoldable pub be_bytes : ℕ → ℕ → List ℕ
be_bytes zero p = []
be_bytes (suc k) p = p / 256 ^ k % 256 ∷ be_bytes k p

-- 01 m6.1: keys are u64: 8 bytes
abbrev pub key_size : ℕ
key_size = 8

-- 01 m6.1: the key of a position
abbrev pub position_key : ℕ → List ℕ
position_key p = be_bytes key_size p

-- 01 m6.2, no.7, refusal.3: reading a position key answers with the number, or with refusal 7 where it is not 8 bytes; a single item has index 0
abbrev pub position_answer : List ℕ → Answer ℕ
position_answer k = cond (eqb (length k) key_size) (Ok (be k)) (refused 7 0 0)

-- 01 form.11: the answer that the code gives, with the number of its position
abbrev pub position_of : Result LogPosition Refusal → Answer ℕ
position_of (Ok p) = Ok p.0
position_of (Err r) = Err r
