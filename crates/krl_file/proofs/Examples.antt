-- The file of document 01's listing, by computation: a pool of the keys 01, 05 and 03, of ours [01,05), of theirs Key 03. Assumes nothing.
use Prim.Native.Nat.{ℕ}
use mathlib.Core.Path.{◌≡◌, refl}
use mathlib.Core.Bool.{true, false}
use mathlib.Core.List.{List, [], ◌∷◌, ◌++◌}
use Rattle.query_item.specs.Items.{key_at, absent, item_words}
use Rattle.krl_file.specs.File.{u16_at, well_formed, pool_of, record_at, records_from, ours_of, theirs_of}

abbrev head : List ℕ
head = 75 ∷ 82 ∷ 76 ∷ 0 ∷ 1 ∷ 0 ∷ 3 ∷ 0 ∷ 1 ∷ 0 ∷ 1 ∷ []

abbrev body : List ℕ
body = 1 ∷ 5 ∷ 3 ∷ 1 ∷ 0 ∷ 0 ∷ 0 ∷ 1 ∷ 0 ∷ 1 ∷ 1 ∷ 0 ∷ 0 ∷ 0 ∷ 2 ∷ 1 ∷ 0 ∷ 0 ∷ 0 ∷ []

listing_formed : well_formed (head ++ body) ≡ true
unfolding u16_at
listing_formed = refl

-- nothing follows, and nothing is missing

one_more : well_formed (head ++ body ++ 0 ∷ []) ≡ false
unfolding u16_at
one_more = refl

head_alone : well_formed head ≡ false
unfolding u16_at
head_alone = refl

listing_pool : pool_of (head ++ body) ≡ 1 ∷ 5 ∷ 3 ∷ []
unfolding u16_at
listing_pool = refl

listing_ours : ours_of (head ++ body) ≡ item_words 1 0 (key_at 0 1) (key_at 1 1) ∷ []
unfolding u16_at record_at records_from
listing_ours = refl

listing_theirs : theirs_of (head ++ body) ≡ item_words 0 0 (key_at 2 1) absent ∷ []
unfolding u16_at record_at records_from
listing_theirs = refl
