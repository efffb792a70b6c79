-- How many lines a listing has, and that a buffer of the longest line serves for every line. Assumes nothing.
use Prim.Native.Nat.{ℕ, ◌+◌, ◌≤◌}
use mathlib.Core.Path.{◌≡◌}
use mathlib.Core.Bool.{false}
use mathlib.Core.List.{List, [], ◌∷◌, ◌++◌}
use native.Mathlib.Omega.{arith}
use lib.ListN.{length, length-append}
use lib.Dec.{ltb}
use borrow.Author.Tests.{ltb-false}
use Rattle.intervals.proofs.Laws.{All, all_append}
use Rattle.query_item.specs.declared.KeyAt.{KeyAt}
use Rattle.query_item.specs.declared.ItemWords.{ItemWords}
use Rattle.query_item.specs.declared.QueryItem.TheVariants.{RangeAfterToInclusive}
use Rattle.query_item.specs.Items.{bytes_of, query_item}
use Rattle.query_item.proofs.Laws.{each_item}
use Rattle.item_check.specs.Checks.{most_key, key_out, item_fault, upright_fault}
use Rattle.item_check.proofs.Laws.{both_false, first_none, keys_in}
use Rattle.lent_text.specs.Text.{spaced_number}
use Rattle.lent_text.proofs.Laws.{decimal_few}
use Rattle.key_text.specs.Text.{key_text, spaced_key}
use Rattle.key_text.proofs.Laws.{length_hex, key_some, spaced_few}
use Rattle.krl_line.specs.Lines.{line_feed, ours_word, theirs_word}
use Rattle.item_name.specs.Names.{
  key_name,
  range_name,
  range_inclusive_name,
  range_full_name,
  range_from_name,
  range_to_name,
  range_to_inclusive_name,
  range_after_name,
  range_after_to_name,
  range_after_to_inclusive_name,
}
use Rattle.krl_listing.specs.Listing.{
  bare_line,
  key_line,
  keys_line,
  item_line,
  shared_word,
  title_line,
  item_lines,
  list_lines,
  listing_lines,
  most_line,
}
use Rattle.krl_listing.proofs.Lines.{length_list_lines}

-- ---- how many lines

-- there are 3 lines more than items
pub length_listing_lines : (pool : List ℕ) (shared_out ours_out theirs_out : List ItemWords)
    → length (listing_lines pool shared_out ours_out theirs_out) ≡ 3 + (length shared_out + length ours_out + length theirs_out)
unfolding listing_lines
length_listing_lines pool shared_out ours_out theirs_out =
    let s = list_lines pool shared_word shared_out in
    let o = list_lines pool ours_word ours_out in
    let t = list_lines pool theirs_word theirs_out in
    omega (
      arith,
      length-append s (o ++ t),
      length-append o t,
      length_list_lines pool shared_word shared_out,
      length_list_lines pool ours_word ours_out,
      length_list_lines pool theirs_word theirs_out,
    )

-- ---- the longest line

-- an item whose keys have at most 255 bytes, as every item of a checked list
pub record ShortKeys (it : ItemWords) : Type 0 where
  pub start : it.start.length ≤ most_key
  pub end : it.end.length ≤ most_key

-- an item with which nothing is wrong has such keys: those that its kind does not have are 0
pub sound_short : (pool : List ℕ) (it : ItemWords) → upright_fault pool it ≡ 0 → ShortKeys it
sound_short pool it e =
    let keys = keys_in pool it ((first_none (item_fault pool it) _).0 e).0 in
    record { start = key_short it.start keys.0; end = key_short it.end keys.1 }
  where
    key_short : (k : KeyAt) → key_out pool k ≡ false → k.length ≤ most_key
    key_short k o = ltb-false most_key k.length ((both_false (ltb most_key k.length) (ltb (length pool) (k.offset + k.length))).0 o).0

abbrev pub Short : List ℕ → Type 0
Short line = length line ≤ most_line

module _ (pool : List ℕ) where
  bare_few : (name : List ℕ) → length name ≤ 21 → length (bare_line name) ≤ most_line
  bare_few name h = omega (arith, length-append name line_feed)

  one_few : (name : List ℕ) (a : KeyAt) → length name ≤ 21 → a.length ≤ most_key → length (key_line pool name a) ≤ most_line
  one_few name a h k =
      omega (
        arith,
        length-append name (spaced_key pool a ++ line_feed),
        length-append (spaced_key pool a) line_feed,
        spaced_few pool a most_key k (omega arith),
      )

  two_few : (name : List ℕ) (a b : KeyAt) → length name ≤ 21 → a.length ≤ most_key → b.length ≤ most_key → length (keys_line pool name a b) ≤ most_line
  two_few name a b h k l =
      omega (
        arith,
        length-append name (spaced_key pool a ++ (spaced_key pool b ++ line_feed)),
        length-append (spaced_key pool a) (spaced_key pool b ++ line_feed),
        length-append (spaced_key pool b) line_feed,
        spaced_few pool a most_key k (omega arith),
        spaced_few pool b most_key l (omega arith),
      )

  pub item_few : (it : ItemWords) → ShortKeys it → length (item_line pool (query_item it)) ≤ most_line
  unfolding item_line
  item_few it k =
      let a = it.start in
      let b = it.end in
      each_item a b (λ c q. length (item_line pool q) ≤ most_line)
      (one_few key_name a (omega arith) k.start)
      (two_few range_name a b (omega arith) k.start k.end)
      (two_few range_inclusive_name a b (omega arith) k.start k.end)
      (bare_few range_full_name (omega arith))
      (one_few range_from_name a (omega arith) k.start)
      (one_few range_to_name b (omega arith) k.end)
      (one_few range_to_inclusive_name b (omega arith) k.end)
      (one_few range_after_name a (omega arith) k.start)
      (two_few range_after_to_name a b (omega arith) k.start k.end)
      (two_few range_after_to_inclusive_name a b (omega arith) k.start k.end)
      (λ c h. bare_few range_full_name (omega arith))
      it.code

  title_few : (title : List ℕ) (n : ℕ) → length title ≤ 21 → length (title_line title n) ≤ most_line
  title_few title n h =
      omega (arith, length-append title (spaced_number n ++ line_feed), length-append (spaced_number n) line_feed, decimal_few n)

  items_few : (its : List ItemWords) → All ShortKeys its → All Short (item_lines pool its)
  unfolding item_lines
  items_few [] k = tt
  items_few (it ∷ its) k = (item_few it k.0, items_few its k.1)

  list_few : (title : List ℕ) (its : List ItemWords) → length title ≤ 21 → All ShortKeys its → All Short (list_lines pool title its)
  unfolding list_lines
  list_few title its h k = (title_few title (length its) h, items_few its k)

  -- no line of a listing of such items is longer than the longest
  pub lines_few : (shared_out ours_out theirs_out : List ItemWords) → All ShortKeys shared_out → All ShortKeys ours_out → All ShortKeys theirs_out
      → All Short (listing_lines pool shared_out ours_out theirs_out)
  unfolding listing_lines
  lines_few shared_out ours_out theirs_out b m y =
      all_append Short (list_lines pool shared_word shared_out) (list_lines pool ours_word ours_out ++ list_lines pool theirs_word theirs_out)
      (list_few shared_word shared_out (omega arith) b)
      (all_append Short (list_lines pool ours_word ours_out) (list_lines pool theirs_word theirs_out) (list_few ours_word ours_out (omega arith) m) (list_few theirs_word theirs_out (omega arith) y))

-- and an item whose two keys have 255 bytes reaches it
pub line_longest : (pool : List ℕ) (a b : KeyAt) → length (bytes_of pool a) ≡ most_key → length (bytes_of pool b) ≡ most_key
    → length (item_line pool (RangeAfterToInclusive a b)) ≡ most_line
unfolding item_line
line_longest pool a b h k =
    omega (
      arith,
      length-append range_after_to_inclusive_name (spaced_key pool a ++ (spaced_key pool b ++ line_feed)),
      length-append (spaced_key pool a) (spaced_key pool b ++ line_feed),
      length-append (spaced_key pool b) line_feed,
      full (bytes_of pool a) h,
      full (bytes_of pool b) k,
    )
  where
    full : (x : List ℕ) → length x ≡ most_key → length (key_text x) ≡ 510
    full x e = rw (key_some x (omega arith), length_hex x) (omega arith)
