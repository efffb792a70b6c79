-- What the passes go by: the distinct keys found so far, in order of first use in one array, their indices in order of bytes in another, and where
-- each key in use goes in a third. It serves 02 §6.2, §6.3, §6.5; no promise of the public call cites it. Definitions only. Assumes nothing.
use Rattle.std.specs.Ordering.{is_lt}
use Rattle.std.specs.Prelude.{ℕ, ◌+◌, ◌*◌, ◌/◌, ◌%◌, ◌≤◌, ◌<◌, ◌≡◌, Bool, true, false, cond, ◌&&◌, List, [], ◌∷◌, map, length, get_or, take, ltb}
use Rattle.std.proofs.lemmas.List.Edits.{sets}
use Rattle.key_order.specs.Order.{compare_keys}
use Rattle.query_item.specs.declared.KeyAt.{KeyAt}
use Rattle.query_item.specs.declared.ItemWords.{ItemWords}
use Rattle.query_item.specs.Items.{bytes_of, key_at, with_keys, same, item_size, item_at}
use Rattle.item_check.specs.Checks.{most_key, most_pool, most_items, items_of}
use Rattle.pool_collect.specs.Collected.{is_empty, is_known, add_key, gather, packed, together, offset_in, moved_items, keys_kept, packed_over, rewritten}

-- two lists of 2,048 items with two keys each
abbrev pub most_keys : ℕ
most_keys = 8192

-- and the bytes that these can have
abbrev pub most_bytes : ℕ
most_bytes = most_keys * most_key

-- ---- an entry: where a key goes in the fresh pool, its offset in the old one, its length

abbrev pub entry_of : ℕ → KeyAt → ℕ
entry_of to k = to * 16777216 + k.offset * 256 + k.length

abbrev pub new_offset : ℕ → ℕ
new_offset e = e / 16777216

abbrev pub old_key : ℕ → KeyAt
old_key e = key_at (e / 256 % 65536) (e % 256)

-- the key of an entry
unfoldable pub entry_key : List ℕ → ℕ → List ℕ
entry_key pool e = bytes_of pool (old_key e)

-- the keys of the first m entries
unfoldable pub keys_in : List ℕ → List ℕ → ℕ → List (List ℕ)
keys_in pool order m = map (entry_key pool) (take m order)

-- ---- the entries in order of bytes

-- by the table of their indices
abbrev pub entry_at : List ℕ → List ℕ → ℕ → ℕ
entry_at order table i = get_or order (get_or table i 0) 0

abbrev pub Ascending : List ℕ → (ℕ → ℕ) → ℕ → Type 0
Ascending pool T m = (i j : ℕ) → i < j → j < m → is_lt (compare_keys (entry_key pool (T i)) (entry_key pool (T j))) ≡ true

-- the first m entries ascend and are those of the keys D, with their offsets
pub record Indexed (pool : List ℕ) (T : ℕ → ℕ) (m : ℕ) (D : List (List ℕ)) : Type 0 where
  pub ascending : Ascending pool T m
  pub sound : (i : ℕ) → i < m
      → (is_known D (entry_key pool (T i)) ≡ true) × (new_offset (T i) ≡ offset_in D (entry_key pool (T i)))
  pub complete : (k : List ℕ) → is_empty k ≡ false → is_known D k ≡ true → (i : ℕ) × ((i < m) × (entry_key pool (T i) ≡ k))

-- where a key stands, or would stand
pub record Spot (pool : List ℕ) (T : ℕ → ℕ) (m : ℕ) (k : List ℕ) (p : ℕ) : Type 0 where
  pub within : p ≤ m
  pub below : (i : ℕ) → i < p → is_lt (compare_keys (entry_key pool (T i)) k) ≡ true
  pub others : (i : ℕ) → p ≤ i → i < m → is_lt (compare_keys (entry_key pool (T i)) k) ≡ false

-- the key of the entry at an index is below a key; there is none past the entries
abbrev pub is_below : List ℕ → List ℕ → List ℕ → ℕ → Bool
is_below pool order k i = ltb i (length order) && is_lt (compare_keys (entry_key pool (get_or order i 0)) k)

-- an entry is put at p, and those up to m move on by one
pub record Shifted (T : ℕ → ℕ) (p m e : ℕ) (T' : ℕ → ℕ) : Type 0 where
  pub below : (i : ℕ) → i < p → T' i ≡ T i
  pub here : T' p ≡ e
  pub moved : (i : ℕ) → p ≤ i → i < m → T' (i + 1) ≡ T i

-- the same of a list
pub record Inserted (L : List ℕ) (p m e : ℕ) (L' : List ℕ) : Type 0 where
  pub long : length L' ≡ length L
  pub shifted : Shifted (λ i. get_or L i 0) p m e (λ i. get_or L' i 0)

-- what a search needs
pub record Searchable (pool order table : List ℕ) (known : ℕ) : Type 0 where
  pub order_long : known ≤ length order
  pub table_long : known ≤ length table
  pub indices : (i : ℕ) → i < known → get_or table i 0 < known
  pub ascending : Ascending pool (entry_at order table) known

-- ---- the state of the first pass

-- known keys, used bytes of them; order has the keys in order of first use, table their indices in order of bytes
pub record State (pool order table : List ℕ) (known used : ℕ) : Type 0 where
  pub order_long : most_keys ≤ length order
  pub table_long : most_keys ≤ length table
  pub used_is : used ≡ length (packed (keys_in pool order known))
  pub indices : (i : ℕ) → i < known → get_or table i 0 < known
  pub index : Indexed pool (entry_at order table) known (keys_in pool order known)

-- a key that is not too long and lies in its pool
pub record Lies (pool : List ℕ) (k : KeyAt) : Type 0 where
  pub short : k.length ≤ most_key
  pub within : k.offset + k.length ≤ length pool

-- and a pool of a size that is accepted
pub record Inside (pool : List ℕ) (k : KeyAt) : Type 0 where
  pub lies : Lies pool k
  pub small : length pool ≤ most_pool

-- after one key more, and where that key goes
pub record Gathers (pool order : List ℕ) (known used : ℕ) (k : List ℕ) (order' table' : List ℕ) (known' used' to : ℕ) : Type 0 where
  pub state : State pool order' table' known' used'
  pub keys : keys_in pool order' known' ≡ add_key (keys_in pool order known) k
  pub few : known' ≤ known + 1
  pub most : used' ≤ used + most_key
  pub place : to ≡ offset_in (keys_in pool order' known') k

-- the key at a spot is a key
unfoldable pub is_there : List ℕ → (ℕ → ℕ) → ℕ → ℕ → List ℕ → Bool
is_there pool T m p k = cond (ltb p m) (same (entry_key pool (T p)) k) false

-- a state that can take one key more
pub record Ready (pool order table : List ℕ) (known used : ℕ) (k : KeyAt) : Type 0 where
  pub state : State pool order table known used
  pub room : known < most_keys
  pub fits : used ≤ most_bytes
  pub inside : Inside pool k

-- where keys go
abbrev pub places_of : List (List ℕ) → List (List ℕ) → List ℕ
places_of D ks = map (offset_in D) ks

-- after n keys more, where they go noted from at on
pub record GathersAll (pool order places : List ℕ) (known used at : ℕ) (ks : List (List ℕ)) (n : ℕ) (order' table' places' : List ℕ) (known' used' : ℕ)
    : Type 0 where
  pub state : State pool order' table' known' used'
  pub keys : keys_in pool order' known' ≡ gather (keys_in pool order known) ks
  pub few : known' ≤ known + n
  pub most : used' ≤ used + most_key * n
  pub noted : places' ≡ sets places at (places_of (keys_in pool order' known') ks)

-- a state that can take n keys more, and room to note where they go
pub record ReadyAll (pool order table places : List ℕ) (known used at n : ℕ) : Type 0 where
  pub state : State pool order table known used
  pub room : known + n ≤ most_keys
  pub fits : used + most_key * n ≤ most_bytes
  pub notes : at + n ≤ most_keys
  pub places_long : most_keys ≤ length places

pub record BothInside (pool : List ℕ) (it : ItemWords) : Type 0 where
  pub start_in : Inside pool it.start
  pub end_in : Inside pool it.end

-- the pool has the keys of each item
abbrev pub AllInside : List ℕ → List ℕ → Type 0
AllInside pool ws = (i : ℕ) → i < length ws / item_size → BothInside pool (item_at ws i)

-- ---- the second pass

-- an item, and items, with the offsets noted from at on

abbrev pub placed_item : List ℕ → ℕ → ItemWords → ItemWords
placed_item P at it = with_keys it (key_at (get_or P at 0) it.start.length) (key_at (get_or P (at + 1) 0) it.end.length)

unfoldable pub placed_items : List ℕ → ℕ → List ItemWords → List ItemWords
placed_items P at [] = []
placed_items P at (it ∷ its) = placed_item P at it ∷ placed_items P (at + 2) its

-- two offsets for each item of a list
pub record Noted (P : List ℕ) (at : ℕ) (ws : List ℕ) : Type 0 where
  pub room : at + 2 * (length ws / item_size) ≤ length P
  pub whole : length ws % item_size ≡ 0

-- ---- both passes

-- what the checks leave of a list
pub record Accepts (pool ws : List ℕ) : Type 0 where
  pub inside : AllInside pool ws
  pub whole : length ws % item_size ≡ 0
  pub few : length ws / item_size ≤ most_items

-- two lists, and arrays with room
pub record Start (pool ours theirs order table places : List ℕ) : Type 0 where
  pub ours_ok : Accepts pool ours
  pub theirs_ok : Accepts pool theirs
  pub order_long : most_keys ≤ length order
  pub table_long : most_keys ≤ length table
  pub places_long : most_keys ≤ length places

-- all keys of both lists are in order, and where each goes in places
pub record Complete (pool ours theirs order places : List ℕ) (known : ℕ) : Type 0 where
  pub within : known ≤ length order
  pub keys : keys_in pool order known ≡ keys_kept pool ours theirs
  pub places_long : most_keys ≤ length places
  pub ours_placed : placed_items places 0 (items_of ours) ≡ moved_items pool (keys_kept pool ours theirs) (items_of ours)
  pub theirs_placed : placed_items places (2 * (length ours / item_size)) (items_of theirs) ≡ moved_items pool (keys_kept pool ours theirs) (items_of theirs)

-- and a fresh pool with room for them
pub record Writable (pool fresh ours theirs order places : List ℕ) (known : ℕ) : Type 0 where
  pub all : Complete pool ours theirs order places known
  pub ours_ok : Accepts pool ours
  pub theirs_ok : Accepts pool theirs
  pub room : together (keys_kept pool ours theirs) ≤ length fresh

pub record Writes (pool fresh ours theirs fresh' ours' theirs' : List ℕ) : Type 0 where
  pub bytes : fresh' ≡ packed_over (keys_kept pool ours theirs) fresh
  pub ours_words : ours' ≡ rewritten pool (keys_kept pool ours theirs) ours
  pub theirs_words : theirs' ≡ rewritten pool (keys_kept pool ours theirs) theirs
