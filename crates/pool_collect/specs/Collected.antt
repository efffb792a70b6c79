-- Collecting a pool: the keys in use, each once, one after another in a fresh pool, and the items that name them there. Definitions only. Assumes nothing.
use Rattle.std.specs.Prelude.{ℕ, ◌+◌, ◌≡◌, List, [], ◌∷◌, ◌++◌, map, Bool, true, false, cond, ◌||◌, length, drop, ltb, Ok}
use Rattle.query_item.specs.declared.KeyAt.{KeyAt}
use Rattle.query_item.specs.declared.ItemWords.{ItemWords}
use Rattle.query_item.specs.Items.{bytes_of, same, key_at, with_keys, flat_all}
use Rattle.item_check.specs.Checks.{Answer, refused, Verdict, and_then, words_by, item_fault, pool_verdict, shape_verdict, first_bad, items_of}

-- ---- keys

-- 02 §6.4: the empty key
abbrev pub is_empty : List ℕ → Bool
is_empty [] = true
is_empty (b ∷ k) = false

-- 02 §6.1, §6.3: the keys in use, start before end. An absent key's words are 0, so that it reads as the empty key, which needs no bytes
unfoldable pub keys_of : List ℕ → List ItemWords → List (List ℕ)
keys_of pool [] = []
keys_of pool (it ∷ its) = bytes_of pool it.start ∷ bytes_of pool it.end ∷ keys_of pool its

-- 02 §6.3: ours before theirs
abbrev pub keys_in_use : List ℕ → List ItemWords → List ItemWords → List (List ℕ)
keys_in_use pool ours theirs = keys_of pool (ours ++ theirs)

-- 02 §6.2: a key that needs no place of its own: it is the empty one, or equal to one that has a place
unfoldable pub is_known : List (List ℕ) → List ℕ → Bool
is_known [] k = is_empty k
is_known (d ∷ D) k = same d k || is_known D k

-- 02 §6.2, §6.3: equal keys once, in order of first use

unfoldable pub add_key : List (List ℕ) → List ℕ → List (List ℕ)
add_key D k = cond (is_known D k) D (D ++ k ∷ [])

unfoldable pub gather : List (List ℕ) → List (List ℕ) → List (List ℕ)
gather D [] = D
gather D (k ∷ ks) = gather (add_key D k) ks

abbrev pub distinct : List (List ℕ) → List (List ℕ)
distinct ks = gather [] ks

-- 02 §6.1: what is written: the keys, one after another
unfoldable pub packed : List (List ℕ) → List ℕ
packed [] = []
packed (d ∷ D) = d ++ packed D

-- 02 §6.8: how many bytes keys have together
unfoldable pub together : List (List ℕ) → ℕ
together [] = 0
together (d ∷ D) = length d + together D

-- 02 §6.4, §6.5: where a key stands among the packed keys; the empty key gets offset 0
unfoldable pub offset_in : List (List ℕ) → List ℕ → ℕ
offset_in [] k = 0
offset_in (d ∷ D) k = cond (is_empty k || same d k) 0 (length d + offset_in D k)

-- ---- items

-- 02 §6.5: the items' offsets are rewritten

abbrev pub moved_key : List ℕ → List (List ℕ) → KeyAt → KeyAt
moved_key pool D k = key_at (offset_in D (bytes_of pool k)) k.length

abbrev pub moved_item : List ℕ → List (List ℕ) → ItemWords → ItemWords
moved_item pool D it = with_keys it (moved_key pool D it.start) (moved_key pool D it.end)

abbrev pub moved_items : List ℕ → List (List ℕ) → List ItemWords → List ItemWords
moved_items pool D its = map (moved_item pool D) its

-- ---- the call

-- 02 §6.7, reading B12: the old pool's size, then the fresh one's, which is a pool afterwards
abbrev pub pools_verdict : List ℕ → List ℕ → Verdict
pools_verdict pool fresh = and_then (pool_verdict pool) (pool_verdict fresh)

-- 02 §6.7, 01 refusal.6: of a list its shape, then item by item 1 and 2; it need be neither upright nor strict
abbrev pub named_verdict : List ℕ → List ℕ → ℕ → Verdict
named_verdict pool ws side = and_then (shape_verdict ws side) (first_bad (item_fault pool) side 0 (items_of ws))

-- 01 refusal.6: ours entirely before theirs
abbrev pub lists_verdict : List ℕ → List ℕ → List ℕ → Verdict
lists_verdict pool ours theirs = and_then (named_verdict pool ours 0) (named_verdict pool theirs 1)

abbrev pub collect_verdict : List ℕ → List ℕ → List ℕ → List ℕ → Verdict
collect_verdict pool fresh ours theirs = and_then (pools_verdict pool fresh) (lists_verdict pool ours theirs)

-- 02 §6.1, §6.2: the keys of two lists of words, each once
abbrev pub keys_kept : List ℕ → List ℕ → List ℕ → List (List ℕ)
keys_kept pool ours theirs = distinct (keys_in_use pool (items_of ours) (items_of theirs))

-- 02 §6.8: 6 exactly if the distinct keys together exceed the new pool; the answer is how many of its bytes are used
abbrev pub pool_room_answer : List (List ℕ) → List ℕ → Answer ℕ
pool_room_answer D fresh = cond (ltb (length fresh) (together D)) (refused 6 0 0) (Ok (together D))

abbrev pub collect_answer : List ℕ → List ℕ → List ℕ → List ℕ → Answer ℕ
collect_answer pool fresh ours theirs =
    and_then (collect_verdict pool fresh ours theirs) (pool_room_answer (keys_kept pool ours theirs) fresh)

-- 02 §6.6: bytes after the last key stay unchanged
abbrev pub packed_over : List (List ℕ) → List ℕ → List ℕ
packed_over D fresh = packed D ++ drop (length (packed D)) fresh

-- 02 §6.5: the words of a list, its offsets rewritten
abbrev pub rewritten : List ℕ → List (List ℕ) → List ℕ → List ℕ
rewritten pool D ws = flat_all (moved_items pool D (items_of ws))

-- 01 demand.1: what the call leaves in the fresh pool, and in a list, ours or theirs; where it refuses all is as it was

abbrev pub collect_bytes : List ℕ → List ℕ → List ℕ → List ℕ → List ℕ
collect_bytes pool fresh ours theirs = words_by (collect_answer pool fresh ours theirs) fresh (packed_over (keys_kept pool ours theirs) fresh)

abbrev pub collect_words : List ℕ → List ℕ → List ℕ → List ℕ → List ℕ → List ℕ
collect_words pool fresh ours theirs ws = words_by (collect_answer pool fresh ours theirs) ws (rewritten pool (keys_kept pool ours theirs) ws)

-- 02 §6.5, §6.6, §6.8: the call: its answer, and every byte and word lent to it
pub record Collects (pool fresh ours theirs : List ℕ) (got : Answer ℕ) (fresh' ours' theirs' : List ℕ) : Type 0 where
  pub answer : got ≡ collect_answer pool fresh ours theirs
  pub bytes : fresh' ≡ collect_bytes pool fresh ours theirs
  pub ours_words : ours' ≡ collect_words pool fresh ours theirs ours
  pub theirs_words : theirs' ≡ collect_words pool fresh ours theirs theirs
