-- The lanes of a sheet are sound, so that its plain form, the text of these lanes, is read to the same lanes. And a plain item shows what its
-- lane says. Assumes nothing.
use Prim.Native.Nat.{ℕ, zero, suc, ◌+◌, ◌-◌, ◌≤◌, ◌<◌}
use mathlib.Core.Path.{◌≡◌, refl, sym, ap₂}
use mathlib.Core.Bool.{Bool, true, false, cond, ◌&&◌, false≢true}
use mathlib.Core.List.{List, [], ◌∷◌, map}
use native.Mathlib.Decide.{dec_lt}
use native.Mathlib.Omega.{arith}
use lib.ListN.{length, drop, length-take, get_or-eq_default}
use lib.Seq.{get_or-take, get_or-drop}
use lib.Dec.{ltb, leb}
use borrow.Author.Tests.{ltb-true, leb-true, eqb-true}
use Rattle.query_item.specs.declared.KeyAt.{KeyAt}
use Rattle.query_item.specs.declared.ItemWords.{ItemWords}
use Rattle.query_item.specs.Items.{bytes_of, absent, Shown, shown}
use Rattle.item_check.specs.Checks.{has_start, has_end, item_fault}
use Rattle.item_check.proofs.Laws.{All, fault_parts, Formed, formed_parts}
use Rattle.sheet_row.specs.Fields.{Ended, ended, unended, field, next_field, end_of, content}
use Rattle.item_name.specs.Names.{code_of}
use Rattle.sheet_row.specs.Lanes.{
  is_decimal,
  is_upper,
  is_lower,
  hex_value,
  hex_bytes,
  fits_field,
  Lane,
  lane_of,
  lane_at,
  is_lane,
  Row,
  row,
  bad_row,
  closed,
  first_row,
  Sheet,
  lanes,
  bad_at,
  with_lane,
  then_rows,
  rows_from,
  sheet_of,
  sheet_text,
}
use Rattle.key_order.proofs.Bools.{both_true}
use Rattle.sheet_row.proofs.Written.{Bytes, Sound, SoundAll, none, more, sheet_text_lem}

-- ---- two digits make a byte

value_small : (c : ℕ) → hex_value c < 16
unfolding hex_value
value_small c = go (is_decimal c) (is_upper c) (is_lower c) refl refl refl
  where
    go : (d u l : Bool) → is_decimal c ≡ d → is_upper c ≡ u → is_lower c ≡ l → cond d (c - 48) (cond u (c - 55) (cond l (c - 87) 0)) < 16
    go true u l d e f = omega (arith, leb-true c 57 (both_true (leb 48 c) (leb c 57) d).1)
    go false true l d e f = omega (arith, leb-true c 70 (both_true (leb 65 c) (leb c 70) e).1)
    go false false true d e f = omega (arith, leb-true c 102 (both_true (leb 97 c) (leb c 102) f).1)
    go false false false d e f = omega arith

bytes_hex : (s : List ℕ) → Bytes (hex_bytes s)
unfolding hex_bytes
bytes_hex [] i = omega arith
bytes_hex (c ∷ []) i = omega arith
bytes_hex (c ∷ d ∷ s) zero = omega (arith, value_small c, value_small d)
bytes_hex (c ∷ d ∷ s) (suc i) = bytes_hex s i

-- ---- the lanes of a sheet

fits_none : (p : Bool) (s : List ℕ) → fits_field p s ≡ true → p ≡ false → hex_bytes s ≡ []
unfolding hex_bytes
fits_none true s h e = absurd (false≢true (sym e))
fits_none false [] h e = refl
fits_none false (b ∷ s) h e = absurd (omega (arith, eqb-true (length (b ∷ s)) 0 h))

lane_sound : (c : ℕ) (a b : List ℕ) → is_lane c a b ≡ true → Sound (lane_of c (hex_bytes a) (hex_bytes b))
lane_sound c a b h =
    let front = (both_true (ltb c 10 && fits_field (has_start c) a) (fits_field (has_end c) b) h).0 in
    record {
      known = ltb-true c 10 (both_true (ltb c 10) (fits_field (has_start c) a) front).0;
      start = bytes_hex a;
      end = bytes_hex b;
      no_start = fits_none (has_start c) a (both_true (ltb c 10) (fits_field (has_start c) a) front).1;
      no_end = fits_none (has_end c) b (both_true (ltb c 10 && fits_field (has_start c) a) (fits_field (has_end c) b) h).1;
    }

abbrev SoundRow : Row → Type 0
SoundRow (row l s) = Sound l
SoundRow bad_row = Unit {0}

closed_sound : (c : ℕ) (a b : List ℕ) (e : Ended) → SoundRow (closed c a b e)
closed_sound c a b unended = tt
closed_sound c a b (ended s) = go (is_lane c a b) refl
  where
    go : (t : Bool) → is_lane c a b ≡ t → SoundRow (cond t (row (lane_of c (hex_bytes a) (hex_bytes b)) s) bad_row)
    go true h = lane_sound c a b h
    go false h = tt

first_sound : (s : List ℕ) → SoundRow (first_row s)
unfolding first_row
first_sound s =
    let a = next_field (field s) in
    closed_sound (code_of (content (field s))) (content a) (content (next_field a)) (end_of (next_field a))

abbrev SoundSheet : Sheet → Type 0
SoundSheet (lanes ls) = SoundAll ls
SoundSheet (bad_at n) = Unit {0}

with_sound : (l : Lane) (s : Sheet) → Sound l → SoundSheet s → SoundSheet (with_lane l s)
with_sound l (lanes ls) h hs = more h hs
with_sound l (bad_at n) h hs = tt

then_sound : (n : ℕ) (rest : List ℕ → Sheet) (r : Row) → ((s : List ℕ) → SoundSheet (rest s)) → SoundRow r → SoundSheet (then_rows n rest r)
then_sound n rest (row l s) hs h = with_sound l (rest s) h (hs s)
then_sound n rest bad_row hs h = tt

rows_sound : (k n : ℕ) (s : List ℕ) → SoundSheet (rows_from k n s)
unfolding rows_from
rows_sound zero n s = none
rows_sound (suc k) n [] = none
rows_sound (suc k) n (b ∷ s) = then_sound n (rows_from k (suc n)) (first_row (b ∷ s)) (rows_sound k (suc n)) (first_sound (b ∷ s))

-- a row says a known code, bytes, and no key where the item has none
pub lanes_sound : (text : List ℕ) (ls : List Lane) → sheet_of text ≡ lanes ls → SoundAll ls
lanes_sound text ls e = rw e at (rows_sound (length text) 0 text)

-- the plain form of a sheet is read to the same lanes
pub plain_lanes : (text : List ℕ) (ls : List Lane) → sheet_of text ≡ lanes ls → sheet_of (sheet_text ls) ≡ lanes ls
plain_lanes text ls e = sheet_text_lem ls (lanes_sound text ls e)

-- ---- a plain item

-- nothing of 1 and 2 is wrong with it, and it has no wrapper
abbrev pub PlainIn : List ℕ → ItemWords → Type 0
PlainIn pool it = (item_fault pool it ≡ 0) × (it.wrapper ≡ 0)

-- what a lane shows: code, wrapper 0, start bytes, end bytes
abbrev pub lane_shown : Lane → Shown
lane_shown l = (l.code, 0, l.start, l.end)

plain_formed : (pool : List ℕ) (it : ItemWords) → PlainIn pool it → Formed it
plain_formed pool it p = formed_parts it (fault_parts pool it p.0).0

-- a key that the item does not have is not said
said_bytes : (p : Bool) (k : List ℕ) → Bytes k → Bytes (cond p k [])
said_bytes true k h = h
said_bytes false k h = λ (i : ℕ). omega arith

said_none : (p : Bool) (k : List ℕ) → p ≡ false → cond p k [] ≡ []
said_none true k h = absurd (false≢true (sym h))
said_none false k h = refl

module _ (pool : List ℕ) where
  key_bytes_lem : (k : KeyAt) → Bytes pool → Bytes (bytes_of pool k)
  key_bytes_lem k h i = elim (dec_lt i k.length) [
    | yes l ↦ rw (get_or-take k.length (drop k.offset pool) i 0 l, get_or-drop k.offset pool i 0) (h (k.offset + i))
    | no l ↦
        let few : length (bytes_of pool k) ≤ i = rw (length-take k.length (drop k.offset pool)) (omega arith) in
        rw (get_or-eq_default (bytes_of pool k) 0 {n = i} few) (omega arith)
  ]

  -- the words of a key that the item does not have name no bytes
  said_shown : (p : Bool) (k : KeyAt) → (p ≡ false → k ≡ absent) → bytes_of pool k ≡ cond p (bytes_of pool k) []
  said_shown true k h = refl
  said_shown false k h = rw (h refl)

  item_sound : (it : ItemWords) → Bytes pool → PlainIn pool it → Sound (lane_at pool it)
  item_sound it h p = record {
    known = omega (arith, (plain_formed pool it p).known);
    start = said_bytes (has_start it.code) (bytes_of pool it.start) (key_bytes_lem it.start h);
    end = said_bytes (has_end it.code) (bytes_of pool it.end) (key_bytes_lem it.end h);
    no_start = said_none (has_start it.code) (bytes_of pool it.start);
    no_end = said_none (has_end it.code) (bytes_of pool it.end);
  }

  -- the lanes of plain items are sound
  pub items_sound : (its : List ItemWords) → Bytes pool → All (PlainIn pool) its → SoundAll (map (lane_at pool) its)
  items_sound [] h a = none
  items_sound (it ∷ its) h a = more (item_sound it h a.0) (items_sound its h a.1)

  shown_lane : (it : ItemWords) → PlainIn pool it → shown pool it ≡ lane_shown (lane_at pool it)
  shown_lane it p =
      let a = said_shown (has_start it.code) it.start (plain_formed pool it p).no_start in
      let b = said_shown (has_end it.code) it.end (plain_formed pool it p).no_end in
      λ j. (it.code, p.1 j, a j, b j)

  -- plain items show what their lanes say
  pub shown_lanes : (its : List ItemWords) → All (PlainIn pool) its → map (shown pool) its ≡ map lane_shown (map (lane_at pool) its)
  shown_lanes [] a = refl
  shown_lanes (it ∷ its) a = ap₂ ◌∷◌ (shown_lane it a.0) (shown_lanes its a.1)
