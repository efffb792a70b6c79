-- The first pass over a list, an item at a time. Assumes nothing.
use Prim.Native.Nat.{ℕ, ◌+◌, ◌-◌, ◌*◌, ◌/◌, ◌≤◌, ◌<◌}
use mathlib.Core.Path.{◌≡◌, refl, sym, ap, ap₂, ◌∙◌}
use mathlib.Core.List.{List, [], ◌∷◌}
use native.Mathlib.Omega.{arith}
use native.Mathlib.Nat.{sub-zero, add-zero}
use native.Mathlib.Numerals.{add-one}
use lib.ListN.{length, set}
use lib.Seq.{sets, length-sets}
use Rattle.query_item.specs.declared.ItemWords.{ItemWords}
use Rattle.query_item.specs.Items.{bytes_of, item_size, item_at, items_from}
use Rattle.item_check.specs.Checks.{items_of, most_key}
use Rattle.item_check.proofs.Scans.{items_end, items_more}
use Rattle.item_lists.proofs.Written.{sets_append}
use Rattle.pool_collect.specs.Collected.{add_key, gather, keys_of}
use Rattle.pool_collect.specs.Table.{keys_in, places_of, State, Gathers, GathersAll, ReadyAll}
use Rattle.pool_collect.proofs.Distinct.{AllKnown, Front, add_front, gather_front, known_add, gather_known, offset_front}

-- known keys keep their places
pub places_front : (D E ks : List (List ℕ)) → Front D E → AllKnown D ks → places_of E ks ≡ places_of D ks
places_front D E [] f k = refl
places_front D E (x ∷ ks) f k = ap₂ ◌∷◌ (offset_front D E x f k.0) (places_front D E ks f k.1)

-- the two keys of an item: the first keeps its place
pub gathers_item : (pool order places : List ℕ) (known used at : ℕ) (s e : List ℕ) {order' table' order'' table'' : List ℕ} {known' used' known'' used'' a b : ℕ}
    → Gathers pool order known used s order' table' known' used' a → Gathers pool order' known' used' e order'' table'' known'' used'' b
    → GathersAll pool order places known used at (s ∷ e ∷ []) 2 order'' table'' (set (set places at a) (at + 1) b) known'' used''
unfolding gather
gathers_item pool order places known used at s e {order'} {known' = known'} g h =
    let D = keys_in pool order' known' in
    let stays = offset_front D (add_key D e) s (add_front D e) (rw g.keys (known_add (keys_in pool order known) s)) in
    record {
      state = h.state;
      keys = h.keys ∙ rw g.keys;
      few = omega (arith, g.few, h.few);
      most = omega (arith, g.most, h.most);
      noted = rw (g.place, h.place, h.keys, stays, add-one at);
    }

-- the distinct keys after a list
abbrev all_keys : List ℕ → List ℕ → List ℕ → ℕ → List (List ℕ)
all_keys pool ws order known = gather (keys_in pool order known) (keys_of pool (items_of ws))

-- what is left of a list at the item i
pub record Gathering (pool ws order₀ places₀ : List ℕ) (known₀ used₀ at i : ℕ) (order table places : List ℕ) (known used : ℕ) : Type 0 where
  pub within : i ≤ length ws / item_size
  pub state : State pool order table known used
  pub keys : all_keys pool ws order₀ known₀ ≡ gather (keys_in pool order known) (keys_of pool (items_from ws i (length ws / item_size - i)))
  pub few : known ≤ known₀ + 2 * i
  pub most : used ≤ used₀ + most_key * (2 * i)
  pub long : length places ≡ length places₀
  pub noted : sets places₀ at (places_of (all_keys pool ws order₀ known₀) (keys_of pool (items_of ws)))
      ≡ sets places (at + 2 * i) (places_of (all_keys pool ws order₀ known₀) (keys_of pool (items_from ws i (length ws / item_size - i))))

module _ (pool ws order₀ table₀ places₀ : List ℕ) (known₀ used₀ at : ℕ)
    (r : ReadyAll pool order₀ table₀ places₀ known₀ used₀ at (2 * (length ws / item_size))) where
  pub gathering_start : Gathering pool ws order₀ places₀ known₀ used₀ at 0 order₀ table₀ places₀ known₀ used₀
  gathering_start = record {
    within = omega arith;
    state = r.state;
    keys = rw sub-zero;
    few = omega arith;
    most = omega arith;
    long = refl;
    noted = rw (sub-zero, add-zero);
  }

  module _ (i : ℕ) (order table places : List ℕ) (known used : ℕ)
      (v : Gathering pool ws order₀ places₀ known₀ used₀ at i order table places known used) where
    pub gathering_ready : i < length ws / item_size → ReadyAll pool order table places known used (at + 2 * i) 2
    gathering_ready h = record {
      state = v.state;
      room = omega (arith, r.room, v.few);
      fits = omega (arith, r.fits, v.most);
      notes = omega (arith, r.notes);
      places_long = omega (arith, r.places_long, v.long);
    }

    pub gathering_more : {order' table' places' : List ℕ} {known' used' : ℕ} {it : ItemWords} → i < length ws / item_size → it ≡ item_at ws i
        → GathersAll pool order places known used (at + 2 * i) (bytes_of pool it.start ∷ bytes_of pool it.end ∷ []) 2 order' table' places' known' used'
        → Gathering pool ws order₀ places₀ known₀ used₀ at (i + 1) order' table' places' known' used'
    unfolding gather keys_of
    gathering_more {order'} {known' = known'} {it = it} h e g =
        let left = items_more ws i (length ws / item_size) h in
        let ks = bytes_of pool it.start ∷ bytes_of pool it.end ∷ [] in
        let rest = keys_of pool (items_from ws (i + 1) (length ws / item_size - (i + 1))) in
        let E = keys_in pool order' known' in
        let D = all_keys pool ws order₀ known₀ in
        let keys : D ≡ gather E rest = v.keys ∙ rw (left, g.keys, e) in
        let same : places_of D ks ≡ places_of E ks =
        places_front E D ks (rw keys (gather_front E rest)) (rw g.keys (gather_known (keys_in pool order known) ks)) in
        let next : at + 2 * i + 2 ≡ at + 2 * (i + 1) = omega arith in
        record {
          within = omega arith;
          state = g.state;
          keys = keys;
          few = omega (arith, v.few, g.few);
          most = omega (arith, v.most, g.most);
          long = ap length g.noted ∙ length-sets places (at + 2 * i) (places_of E ks) ∙ v.long;
          noted =
              v.noted
              ∙ rw (left, ← e) (sets_append (places_of D ks) (places_of D rest) places (at + 2 * i))
              ∙ ap₂ (λ (p : List ℕ) (n : ℕ). sets p n (places_of D rest)) (ap (sets places (at + 2 * i)) same ∙ sym g.noted) next;
        }

    pub gathering_end : length ws / item_size ≤ i
        → GathersAll pool order₀ places₀ known₀ used₀ at (keys_of pool (items_of ws)) (2 * (length ws / item_size)) order table places known used
    unfolding gather keys_of
    gathering_end h =
        let none = items_end ws i (length ws / item_size) h in
        let keys : keys_in pool order known ≡ all_keys pool ws order₀ known₀ = sym (v.keys ∙ rw none) in
        record {
          state = v.state;
          keys = keys;
          few = omega (arith, v.few, v.within);
          most = omega (arith, v.most, v.within);
          noted = rw keys (sym (v.noted ∙ rw none));
        }
