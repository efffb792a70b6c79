-- A sheet's plain form, the text of its lanes, is read as the sheet is. Assumes nothing.
use Rattle.std.specs.Prelude.{Ok}
use Prim.Native.Nat.{ℕ}
use mathlib.Core.Path.{◌≡◌, sym, ◌∙◌}
use mathlib.Core.List.{List}
use Rattle.sheet_row.specs.Lanes.{Lane, lanes, sheet_of, sheet_text}
use Rattle.sheet_row.proofs.Laws.{plain_lanes}
use Rattle.sheet_read.specs.declared.SheetCounts.{SheetCounts}
use Rattle.sheet_read.specs.Reading.{lanes_in, read_answer, read_pool, read_list}
use Rattle.sheet_read.proofs.Read.{read_good}

-- what a call answers and leaves goes by the text's lanes alone
same_reading : (text other : List ℕ) → sheet_of text ≡ sheet_of other → (pool out : List ℕ)
    → (read_answer text pool out ≡ read_answer other pool out)
    × (read_pool text pool out ≡ read_pool other pool out)
    × (read_list text pool out ≡ read_list other pool out)
same_reading text other e pool out = (rw e, rw e, rw e)

-- of a text without a bad row, whatever the answer
pub plain_again : (text : List ℕ) (ls : List Lane) → sheet_of text ≡ lanes ls → (pool out : List ℕ)
    → (read_answer (sheet_text ls) pool out ≡ read_answer text pool out)
    × (read_pool (sheet_text ls) pool out ≡ read_pool text pool out)
    × (read_list (sheet_text ls) pool out ≡ read_list text pool out)
plain_again text ls e = same_reading (sheet_text ls) text (plain_lanes text ls e ∙ sym e)

-- and so of a text that was read, into any pool and list
pub read_again : (text pool out : List ℕ) (c : SheetCounts) → read_answer text pool out ≡ Ok c → (pool₂ out₂ : List ℕ)
    → (read_answer (sheet_text (lanes_in text)) pool₂ out₂ ≡ read_answer text pool₂ out₂)
    × (read_pool (sheet_text (lanes_in text)) pool₂ out₂ ≡ read_pool text pool₂ out₂)
    × (read_list (sheet_text (lanes_in text)) pool₂ out₂ ≡ read_list text pool₂ out₂)
read_again text pool out c h = plain_again text (lanes_in text) (read_good text pool out c h)
