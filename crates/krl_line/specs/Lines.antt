-- What a line ends in, and the line of a refusal. Definitions only. Assumes nothing.
use Rattle.std.specs.Prelude.{ℕ, ◌≡◌, cond, ◌||◌, List, [], ◌∷◌, ◌++◌, length, eqb}
use Rattle.lent_text.specs.Text.{spaced_number, stored}
use Rattle.item_check.specs.declared.Refusal.{Refusal}

-- 01 m7.7: every line ends in one line feed
abbrev pub line_feed : List ℕ
line_feed = 10 ∷ []

-- ---- the two sides, by their names in the listing and in a refusal (01 m7.3, m7.6)

-- "ours"
abbrev pub ours_word : List ℕ
ours_word = 111 ∷ 117 ∷ 114 ∷ 115 ∷ []

-- "theirs"
abbrev pub theirs_word : List ℕ
theirs_word = 116 ∷ 104 ∷ 101 ∷ 105 ∷ 114 ∷ 115 ∷ []

-- ---- a refusal (01 m7.6)

-- "refused"
abbrev pub refused_word : List ℕ
refused_word = 114 ∷ 101 ∷ 102 ∷ 117 ∷ 115 ∷ 101 ∷ 100 ∷ []

-- 01 refusal.1: the side, 0 ours, 1 theirs
unfoldable pub side_text : ℕ → List ℕ
side_text side = 32 ∷ cond (eqb side 0) ours_word theirs_word

-- 01 m7.6: 6 and 10 stand bare
unfoldable pub place_text : ℕ → ℕ → ℕ → List ℕ
place_text number side index = cond (eqb number 6 || eqb number 10) [] (side_text side ++ spaced_number index)

-- 01 m7.6: a refusal writes one line, with side and index
abbrev pub refusal_line : Refusal → List ℕ
refusal_line r = refused_word ++ (spaced_number r.number ++ (place_text r.number r.side r.index ++ line_feed))

-- ---- a text at the front of lent bytes. No promise of a public call cites this (01 m7.7)

-- how many bytes the text has, and the lent bytes with it stored in them as far as they go
abbrev pub PutFront : List ℕ → List ℕ → ℕ → List ℕ → Type 0
PutFront out text n out' = (n ≡ length text) × (out' ≡ stored out 0 text)
