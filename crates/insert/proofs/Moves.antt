-- The pass that rewrites a tail: what is written so far and what is still to come make up the list after it. Assumes nothing.
use Rattle.std.specs.Ordering.{is_lt}
use Prim.Native.Nat.{ℕ, ◌+◌, ◌-◌, ◌*◌, ◌/◌, ◌≤◌, ◌<◌, max}
use mathlib.Core.Path.{◌≡◌, refl, sym, ap, ◌∙◌}
use mathlib.Core.Bool.{Bool, true, false, cond, not, ◌&&◌}
use mathlib.Core.List.{List, [], ◌∷◌, ◌++◌, append_assoc}
use native.Mathlib.Omega.{arith}
use native.Mathlib.Nat.{sub-zero}
use lib.ListN.{length, take, drop, take-append-drop}
use lib.Seq.{slice, drop-drop, take_at, drop_at}
use lib.Dec.{leb, eqb}
use borrow.Author.Tests.{leb-true, eqb-true}
use Rattle.key_order.proofs.Bools.{both_true}
use Rattle.key_order.proofs.Impossible.{impossible}
use Rattle.query_item.specs.declared.ItemWords.{ItemWords}
use Rattle.query_item.specs.Items.{item_size, item_at, items_from, flat, flat_all, with_item}
use Rattle.item_check.proofs.Scans.{items_end, items_more}
use Rattle.insert_order.specs.Order.{compare_items}
use Rattle.insert_merge.specs.declared.Fate.{Fate}
use Rattle.insert_merge.specs.declared.Fate.TheVariants.{Replaced, Stays, Merges}
use Rattle.insert_merge.specs.Merge.{fate_of, keep_by, staying, is_staying}
use Rattle.insert.specs.Insertion.{placed}
use Rattle.insert.specs.Answers.{laid}
use Rattle.insert.specs.Passes.{Stay, stays_at, pick, goes_first, Moved, raised, cleared}
use Rattle.insert.proofs.Windows.{stay_whole, stays_is}
use Rattle.insert.proofs.Raised.{slice_is, length_raised, take_raised, drop_raised}
use Rattle.item_lists.proofs.Written.{length_with, length_flat}
use Rattle.item_lists.proofs.Words.{take_with, drop_with, item_alike, flat_items, length_items}

-- what comes of the item in hand and some that stay
unfoldable pub handed : List ℕ → Bool → ItemWords → List ItemWords → List ItemWords
handed pool is_placed hand its = cond is_placed (hand ∷ its) (placed pool hand its)

-- one of them is written, the other is in hand then
handed_more : (pool : List ℕ) (is_placed : Bool) (hand it : ItemWords) (its : List ItemWords) (t : Bool) → t ≡ goes_first pool is_placed it hand
    → handed pool is_placed hand (it ∷ its) ≡ pick t it hand ∷ handed pool (not t) (pick t hand it) its
unfolding handed placed
handed_more pool true hand it its t e = rw e
handed_more pool false hand it its t e = rw e (go (is_lt (compare_items pool it hand)))
  where
    go : (u : Bool) → cond u (it ∷ placed pool hand its) (hand ∷ it ∷ its) ≡ pick u it hand ∷ handed pool (not u) (pick u hand it) its
    go true = refl
    go false = refl

handed_end : (pool : List ℕ) (is_placed : Bool) (hand : ItemWords) → handed pool is_placed hand [] ≡ hand ∷ []
unfolding handed placed
handed_end pool true hand = refl
handed_end pool false hand = refl

keep_staying : (f : Fate) (it : ItemWords) (its : List ItemWords) → is_staying f ≡ true → keep_by f it its ≡ it ∷ its
keep_staying Replaced it its e = impossible cc
keep_staying Stays it its e = refl
keep_staying Merges it its e = impossible cc

keep_taken : (f : Fate) (it : ItemWords) (its : List ItemWords) → is_staying f ≡ false → keep_by f it its ≡ its
keep_taken Replaced it its e = refl
keep_taken Stays it its e = impossible cc
keep_taken Merges it its e = refl

-- ---- the test by which the pass ends early

rest_told : (is_placed : Bool) (asked to i : ℕ) → is_placed && leb asked i && eqb to i ≡ true → (is_placed ≡ true) × (asked ≤ i) × (to ≡ i)
rest_told is_placed asked to i e =
    let last = both_true (is_placed && leb asked i) (eqb to i) e in
    let first = both_true is_placed (leb asked i) last.0 in
    (first.0, leb-true asked i first.1, eqb-true to i last.1)

-- ---- the pass

-- ws₀ is the tail at entry, out the list after it
module _ (pool ws₀ : List ℕ) (count : ℕ) (new : ItemWords) (out : List ItemWords) where
  abbrev left : ℕ → List ItemWords
  left i = staying pool new (items_from ws₀ i (count - i))

  left_staying : (i : ℕ) → i < count → is_staying (fate_of pool new (item_at ws₀ i)) ≡ true → left i ≡ item_at ws₀ i ∷ left (i + 1)
  unfolding staying
  left_staying i h e = rw (items_more ws₀ i count h) (keep_staying (fate_of pool new (item_at ws₀ i)) (item_at ws₀ i) (left (i + 1)) e)

  left_taken : (i : ℕ) → i < count → is_staying (fate_of pool new (item_at ws₀ i)) ≡ false → left i ≡ left (i + 1)
  unfolding staying
  left_taken i h e = rw (items_more ws₀ i count h) (keep_taken (fate_of pool new (item_at ws₀ i)) (item_at ws₀ i) (left (i + 1)) e)

  left_end : (i : ℕ) → count ≤ i → left i ≡ []
  unfolding staying
  left_end i h = rw (items_end ws₀ i count h)

  -- i items are read, `to` are written, and from i on the words stand as they were
  pub record Moving (ws : List ℕ) (hand : ItemWords) (is_placed : Bool) (to i : ℕ) : Type 0 where
    pub read : i ≤ count
    pub behind : to ≤ i
    pub size : length ws ≡ length ws₀
    pub unread : drop (item_size * i) ws ≡ drop (item_size * i) ws₀
    pub many : to + length (handed pool is_placed hand (left i)) ≡ length out
    pub whole : take (item_size * to) ws ++ flat_all (handed pool is_placed hand (left i)) ≡ flat_all out

  drop_past : (ws : List ℕ) (a : ℕ) → drop (item_size * a) ws ≡ drop (item_size * a) ws₀ → (b : ℕ) → a ≤ b → drop (item_size * b) ws ≡ drop (item_size * b) ws₀
  drop_past ws a e b o =
      let f : item_size * a + (item_size * b - item_size * a) ≡ item_size * b = omega arith in
      ap (λ (n : ℕ). drop n ws) (sym f)
      ∙ sym (drop-drop (item_size * b - item_size * a) (item_size * a) ws)
      ∙ ap (λ (l : List ℕ). drop (item_size * b - item_size * a) l) e
      ∙ drop-drop (item_size * b - item_size * a) (item_size * a) ws₀
      ∙ ap (λ (n : ℕ). drop n ws₀) f

  module _ (ws : List ℕ) (hand : ItemWords) (is_placed : Bool) (to i : ℕ) (m : Moving ws hand is_placed to i) where
    old_is : {old : ItemWords} → old ≡ item_at ws i → old ≡ item_at ws₀ i
    old_is p = p ∙ item_alike ws ws₀ i m.unread

    -- from the index asked on it stays
    pub moving_fate : {old : ItemWords} {t : Bool} (asked : ℕ) → Stay pool ws₀ new asked count → i < count → old ≡ item_at ws i → t ≡ stays_at pool i asked new old
        → t ≡ is_staying (fate_of pool new old)
    moving_fate {old} asked s h p q = q ∙ stays_is pool i asked new old (λ l. rw (old_is p) (s i l h))

    -- the item read does not stay
    pub moving_skip : {old : ItemWords} {t : Bool} → i < count → old ≡ item_at ws i → t ≡ is_staying (fate_of pool new old) → t ≡ false
        → Moving ws hand is_placed to (i + 1)
    moving_skip h p q r =
        let e = left_taken i h (rw (← old_is p) (sym q ∙ r)) in
        record {
          read = omega arith;
          behind = omega (arith, m.behind);
          size = m.size;
          unread = drop_past ws i m.unread (i + 1) (omega arith);
          many = rw (← e) m.many;
          whole = rw (← e) m.whole;
        }

    -- it stays: one goes out, the other is in hand
    pub moving_more : {old out' hand' : ItemWords} {t first : Bool} {ws' : List ℕ} → i < count → count ≤ length ws₀ / item_size
        → old ≡ item_at ws i → t ≡ is_staying (fate_of pool new old) → t ≡ true → first ≡ goes_first pool is_placed old hand
        → out' ≡ pick first old hand → ws' ≡ with_item ws to out' → hand' ≡ pick first hand old → Moving ws' hand' (not first) (to + 1) (i + 1)
    unfolding flat_all
    moving_more {old} {first = first} h k p q r s u v w =
        let e = left_staying i h (rw (← old_is p) (sym q ∙ r)) in
        let f = ap (handed pool is_placed hand) (e ∙ ap (λ (it : ItemWords). it ∷ left (i + 1)) (sym (old_is p))) ∙ handed_more pool is_placed hand old (left (i + 1)) first s in
        let size = m.size in
        let behind = m.behind in
        let room : to < length ws / item_size = rw size (omega arith) in
        rw (v, w, u)
        record {
          read = omega arith;
          behind = omega arith;
          size = length_with ws to (pick first old hand) ∙ size;
          unread = drop_with ws to (pick first old hand) room (i + 1) (omega arith) ∙ drop_past ws i m.unread (i + 1) (omega arith);
          many = omega (arith, m.many, ap length f);
          whole =
              rw (take_with ws to (pick first old hand) room, append_assoc)
              (ap (λ (l : List ItemWords). take (item_size * to) ws ++ flat_all l) (sym f) ∙ m.whole);
        }

    -- none is left: the one in hand goes out
    pub moving_end : {ws' : List ℕ} → count ≤ i → count ≤ length ws₀ / item_size → length out ≤ length ws₀ / item_size → ws' ≡ with_item ws to hand
        → (to + 1 ≡ length out) × Moved ws₀ count out ws'
    unfolding flat_all
    moving_end h k l v =
        let f = ap (handed pool is_placed hand) (left_end i h) ∙ handed_end pool is_placed hand in
        let size = m.size in
        let behind = m.behind in
        let all : i ≡ count = omega (arith, m.read) in
        let n : to + 1 ≡ length out = omega (arith, m.many, ap length f) in
        let room : to < length ws / item_size = rw size (omega arith) in
        let past : drop (item_size * max count (to + 1)) ws ≡ drop (item_size * max count (to + 1)) ws₀ = drop_past ws i m.unread (max count (to + 1)) (omega arith) in (
          n,
          rw v
              record {
                size = length_with ws to hand ∙ size;
                front = rw (← n, take_with ws to hand room) (ap (λ (l' : List ItemWords). take (item_size * to) ws ++ flat_all l') (sym f) ∙ m.whole);
                back = rw (← n) (drop_with ws to hand room (max count (to + 1)) (omega arith) ∙ past);
              },
        )

    -- the result is placed, all that is left stays and no item was taken out: the rest moves up by one place, and the one in hand goes out
    module _ (asked : ℕ) (s : Stay pool ws₀ new asked count) (t : is_placed && leb asked i && eqb to i ≡ true) (h : i < count) where
      told : (is_placed ≡ true) × (asked ≤ i) × (to ≡ i)
      told = rest_told is_placed asked to i t

      rest_is : handed pool is_placed hand (left i) ≡ hand ∷ items_from ws₀ i (count - i)
      unfolding handed
      rest_is = rw (told.0, stay_whole pool new ws₀ i (count - i) (λ j k l. s j (omega (arith, told.1)) (omega arith)))

      rest_many : count + 1 ≡ length out
      rest_many = omega (arith, told.2, m.many, ap length rest_is, length_items ws₀ i (count - i))

      module _ (k : count ≤ length ws₀ / item_size) (l : length out ≤ length ws₀ / item_size) where
        pub rest_room : count < length ws / item_size
        rest_room = rw m.size (omega (arith, rest_many))

        rest_words : slice (item_size * i) (item_size * count) ws ≡ flat_all (items_from ws₀ i (count - i))
        rest_words =
            let its = items_from ws₀ i (count - i) in
            let f : length (flat_all its) ≡ item_size * count - item_size * i = length_flat its ∙ rw (length_items ws₀ i (count - i)) (omega arith) in
            slice_is ws (item_size * i) (item_size * count) (omega arith) (omega (arith, rest_room))
            ∙ rw (m.unread, ← flat_items ws₀ i (count - i) (omega arith)) (take_at (flat_all its) (drop (item_size * (i + (count - i))) ws₀) (item_size * count - item_size * i) f)

        rest_laid : with_item (raised ws (item_size * i) (item_size * count)) i hand ≡ flat_all out ++ drop (item_size * (count + 1)) ws
        unfolding flat_all
        rest_laid =
            let a = item_size * i in
            let b = item_size * count in
            let vs = raised ws a b in
            let fits : b + item_size ≤ length ws = omega (arith, rest_room) in
            let room : i < length vs / item_size = rw (length_raised ws a b (omega arith) fits) (omega arith) in
            let e : item_size * (i + 1) ≡ a + item_size = omega arith in
            let f : b + item_size ≡ item_size * (count + 1) = omega arith in
            let rest = flat_all (items_from ws₀ i (count - i)) in
            let past : drop (item_size * (i + 1)) vs ≡ rest ++ drop (item_size * (count + 1)) ws = ap (λ (n : ℕ). drop n vs) e ∙ drop_raised ws a b (omega arith) fits ∙ rw (rest_words, f) in
            let whole : take a ws ++ (flat hand ++ rest) ≡ flat_all out = rw (told.2, rest_is) at m.whole in
            sym (take-append-drop (item_size * (i + 1)) (with_item vs i hand))
            ∙ rw (take_with vs i hand room, drop_with vs i hand room (i + 1) (omega arith), take_raised ws a b (omega arith) fits, past)
            (append_assoc (take a ws) (flat hand) (rest ++ drop (item_size * (count + 1)) ws)
            ∙ ap (λ (l' : List ℕ). take a ws ++ l') (sym (append_assoc (flat hand) rest (drop (item_size * (count + 1)) ws)))
            ∙ sym (append_assoc (take a ws) (flat hand ++ rest) (drop (item_size * (count + 1)) ws))
            ∙ ap (λ (l' : List ℕ). l' ++ drop (item_size * (count + 1)) ws) whole)

        pub moving_shift : {ws' ws'' : List ℕ} → ws' ≡ raised ws (item_size * i) (item_size * count) → ws'' ≡ with_item ws' to hand
            → (count + 1 ≡ length out) × Moved ws₀ count out ws''
        moving_shift u v =
            let fits : item_size * count + item_size ≤ length ws = omega (arith, rest_room) in
            let n : max count (length out) ≡ count + 1 = omega (arith, rest_many) in
            let long : length (flat_all out) ≡ item_size * (count + 1) = length_flat out ∙ rw (← rest_many) in
            let past = drop (item_size * (count + 1)) ws in (
              rest_many,
              rw (v, u, told.2)
                  record {
                    size = length_with (raised ws (item_size * i) (item_size * count)) i hand ∙ length_raised ws (item_size * i) (item_size * count) (omega arith) fits ∙ m.size;
                    front = rw (rest_laid, ← rest_many) (take_at (flat_all out) past (item_size * (count + 1)) long);
                    back = rw (rest_laid, n) (drop_at (flat_all out) past (item_size * (count + 1)) long ∙ drop_past ws i m.unread (count + 1) (omega arith));
                  },
            )

pub moving_start : (pool ws : List ℕ) (count : ℕ) (new result : ItemWords)
    → Moving pool ws count new (placed pool result (staying pool new (items_from ws 0 count))) ws result false 0 0
unfolding handed
moving_start pool ws count new result =
    record { read = omega arith; behind = omega arith; size = refl; unread = refl; many = rw sub-zero (omega arith); whole = rw sub-zero }

-- the moved items, then the zeros
pub moved_cleared : (ws : List ℕ) (count : ℕ) (its : List ItemWords) (ws' : List ℕ) {n : ℕ} → Moved ws count its ws' → n ≡ length its
    → cleared ws' n count ≡ laid ws count its
unfolding cleared laid
moved_cleared ws count its ws' m e = rw (e, m.front, m.back)
