-- A refusal of document 01, byte for byte, and the other forms of its line, by computation. Assumes nothing.
use mathlib.Core.Path.{◌≡◌, refl}
use mathlib.Core.List.{[], ◌∷◌}
use Rattle.lent_text.specs.Text.{digits}
use Rattle.item_check.specs.Checks.{refusal}
use Rattle.krl_line.specs.Lines.{side_text, place_text, refusal_line}

-- "refused 4 theirs 1"
document_refusal : refusal_line (refusal 4 1 1) ≡ 114 ∷ 101 ∷ 102 ∷ 117 ∷ 115 ∷ 101 ∷ 100 ∷ 32 ∷ 52 ∷ 32 ∷ 116 ∷ 104 ∷ 101 ∷ 105 ∷ 114 ∷ 115 ∷ 32 ∷ 49 ∷ 10 ∷ []
unfolding digits side_text place_text
document_refusal = refl

-- "refused 2 ours 12"
our_refusal : refusal_line (refusal 2 0 12) ≡ 114 ∷ 101 ∷ 102 ∷ 117 ∷ 115 ∷ 101 ∷ 100 ∷ 32 ∷ 50 ∷ 32 ∷ 111 ∷ 117 ∷ 114 ∷ 115 ∷ 32 ∷ 49 ∷ 50 ∷ 10 ∷ []
unfolding digits side_text place_text
our_refusal = refl

-- "refused 6", "refused 10"

bare_room : refusal_line (refusal 6 0 0) ≡ 114 ∷ 101 ∷ 102 ∷ 117 ∷ 115 ∷ 101 ∷ 100 ∷ 32 ∷ 54 ∷ 10 ∷ []
unfolding digits place_text
bare_room = refl

bare_file : refusal_line (refusal 10 0 0) ≡ 114 ∷ 101 ∷ 102 ∷ 117 ∷ 115 ∷ 101 ∷ 100 ∷ 32 ∷ 49 ∷ 48 ∷ 10 ∷ []
unfolding digits place_text
bare_file = refl
