-- The two numbers that reading a sheet tells. Definitions only. Assumes nothing.
use Rattle.std.specs.Prelude.{ℕ}
use Rattle.sheet_read.specs.declared.SheetCounts.{SheetCounts}

-- 02 §1.9: how many items
abbrev pub items_read : SheetCounts → ℕ
items_read c = c.items

-- 02 §1.8: how many bytes their keys have together
abbrev pub bytes_read : SheetCounts → ℕ
bytes_read c = c.bytes
