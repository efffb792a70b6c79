-- What demand 3 speaks of: the result lists as words, and that each item holds a key. Accepted lists, the keys that a list holds and lists that are
-- the same by bytes are defined in specs/Lists.antt of `item_lists`. Definitions only. It serves 01 demand.3, tight.7, and 02 §2.5. Assumes nothing.
use Rattle.std.specs.Prelude.{ℕ, ◌≡◌, true, List, [], ◌∷◌}
use Rattle.query_item.specs.declared.ItemWords.{ItemWords}
use Rattle.query_item.specs.Items.{query_item, holds, flat_all}
use Rattle.query_item.specs.Boundaries.{range_of}
use Rattle.keyless.specs.Keyless.{first_of}
use Rattle.intersect_many.specs.Lists.{shared_items, only_items}

-- A shared with B, and A without B, as the words that are written
abbrev pub shared_words : List ℕ → List ℕ → List ℕ → List ℕ
shared_words pool A B = flat_all (shared_items pool A B)

abbrev pub without_words : List ℕ → List ℕ → List ℕ → List ℕ
without_words pool A B = flat_all (only_items pool A B)

-- 02 §2.1: each item of a list holds a key, the first at or past its start: none stands in it that holds no key
abbrev pub EachHolds : List ℕ → List ItemWords → Type 0
EachHolds pool [] = Unit {0}
EachHolds pool (it ∷ its) = (holds pool (query_item it) (first_of pool (range_of it)) ≡ true) × EachHolds pool its
