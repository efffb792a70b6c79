-- The lines of the listing. Definitions only. Assumes nothing.
use Rattle.std.specs.Prelude.{ℕ, List, [], ◌∷◌, ◌++◌, length, get_or}
use Rattle.query_item.specs.declared.KeyAt.{KeyAt}
use Rattle.query_item.specs.declared.ItemWords.{ItemWords}
use Rattle.query_item.specs.declared.QueryItem.{QueryItem}
use Rattle.query_item.specs.declared.QueryItem.TheVariants.{
  Key,
  Range,
  RangeInclusive,
  RangeFull,
  RangeFrom,
  RangeTo,
  RangeToInclusive,
  RangeAfter,
  RangeAfterTo,
  RangeAfterToInclusive,
}
use Rattle.query_item.specs.Items.{query_item, items_from}
use Rattle.intersect_many.specs.declared.ManyCounts.{ManyCounts}
use Rattle.lent_text.specs.Text.{spaced_number}
use Rattle.key_text.specs.Text.{spaced_key}
use Rattle.item_name.specs.Names.{
  key_name,
  range_name,
  range_inclusive_name,
  range_full_name,
  range_from_name,
  range_to_name,
  range_to_inclusive_name,
  range_after_name,
  range_after_to_name,
  range_after_to_inclusive_name,
}
use Rattle.krl_line.specs.Lines.{line_feed, ours_word, theirs_word}

-- ---- items, by their names in the table of 01

-- 01 m7.3, the example: an item is its name, and its keys behind it: none, one or two

abbrev pub bare_line : List ℕ → List ℕ
bare_line name = name ++ line_feed

abbrev pub key_line : List ℕ → List ℕ → KeyAt → List ℕ
key_line pool name a = name ++ (spaced_key pool a ++ line_feed)

abbrev pub keys_line : List ℕ → List ℕ → KeyAt → KeyAt → List ℕ
keys_line pool name a b = name ++ (spaced_key pool a ++ (spaced_key pool b ++ line_feed))

-- 01 keys.4: which keys each item has
unfoldable pub item_line : List ℕ → QueryItem → List ℕ
item_line pool (Key a) = key_line pool key_name a
item_line pool (Range a b) = keys_line pool range_name a b
item_line pool (RangeInclusive a b) = keys_line pool range_inclusive_name a b
item_line pool RangeFull = bare_line range_full_name
item_line pool (RangeFrom a) = key_line pool range_from_name a
item_line pool (RangeTo b) = key_line pool range_to_name b
item_line pool (RangeToInclusive b) = key_line pool range_to_inclusive_name b
item_line pool (RangeAfter a) = key_line pool range_after_name a
item_line pool (RangeAfterTo a b) = keys_line pool range_after_to_name a b
item_line pool (RangeAfterToInclusive a b) = keys_line pool range_after_to_inclusive_name a b

-- ---- the listing (01 m7.3)

-- "shared"
abbrev pub shared_word : List ℕ
shared_word = 115 ∷ 104 ∷ 97 ∷ 114 ∷ 101 ∷ 100 ∷ []

-- 01 m7.3, the example: each list has a line with its name and its count
abbrev pub title_line : List ℕ → ℕ → List ℕ
title_line title n = title ++ (spaced_number n ++ line_feed)

-- 01 m3.7: then its items; wrappers are read through
unfoldable pub item_lines : List ℕ → List ItemWords → List (List ℕ)
item_lines pool [] = []
item_lines pool (it ∷ its) = item_line pool (query_item it) ∷ item_lines pool its

unfoldable pub list_lines : List ℕ → List ℕ → List ItemWords → List (List ℕ)
list_lines pool title its = title_line title (length its) ∷ item_lines pool its

-- 01 m7.3, the example: first what is shared, then ours, then theirs
unfoldable pub listing_lines : List ℕ → List ItemWords → List ItemWords → List ItemWords → List (List ℕ)
listing_lines pool shared_out ours_out theirs_out = list_lines pool shared_word shared_out ++ (list_lines pool ours_word ours_out ++ list_lines pool theirs_word theirs_out)

-- 01 m7.7: the program writes the lines one after the other
unfoldable pub text_of_lines : List (List ℕ) → List ℕ
text_of_lines [] = []
text_of_lines (l ∷ ls) = l ++ text_of_lines ls

-- 01 m7.3: the line at an index, of lists of words and their counts; past the last line there are no bytes
unfoldable pub line_at : List ℕ → List ℕ → List ℕ → List ℕ → ManyCounts → ℕ → List ℕ
line_at pool shared_out ours_out theirs_out n i =
    get_or (listing_lines pool (items_from shared_out 0 n.shared) (items_from ours_out 0 n.ours) (items_from theirs_out 0 n.theirs)) i []

-- 01 m7.4, no.2: the longest line of items with keys of at most 255 bytes: RangeAfterToInclusive with two of them
abbrev pub most_line : ℕ
most_line = 1044
