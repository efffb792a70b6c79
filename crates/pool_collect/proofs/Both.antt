-- Both passes: from empty arrays to all keys of both lists, and from these to what the call leaves. Assumes nothing.
use Rattle.std.specs.Prelude.{Ok, Err}
use Prim.Native.Nat.{ℕ, ◌+◌, ◌*◌, ◌/◌, ◌≤◌, ◌<◌}
use mathlib.Core.Path.{◌≡◌, refl, sym, ap, ◌∙◌}
use mathlib.Core.Bool.{true≢false}
use mathlib.Core.List.{List, [], ◌∷◌, ◌++◌, append_assoc}
use native.Mathlib.Omega.{arith}
use native.Mathlib.Nat.{zero-add}
use lib.ListN.{length, drop, length-append}
use lib.Seq.{sets, sets-eq, length-sets, drop_at}
use borrow.Author.Tests.{lt-ltb, le-ltb}
use Rattle.query_item.specs.declared.ItemWords.{ItemWords}
use Rattle.query_item.specs.Items.{item_size, flat_all}
use Rattle.item_check.specs.declared.Refusal.{Refusal}
use Rattle.item_check.specs.Checks.{Verdict, accepted, refused, items_of}
use Rattle.item_lists.proofs.Written.{sets_append}
use Rattle.item_lists.proofs.Words.{length_items}
use Rattle.item_check.proofs.Laws.{words_refused, words_answered}
use Rattle.pool_collect.specs.Collected.{is_known, add_key, gather, packed, together, keys_of, keys_kept, packed_over, collect_verdict, collect_answer, Collects}
use Rattle.pool_collect.specs.Table.{most_keys, keys_in, places_of, placed_items, Noted, State, GathersAll, ReadyAll, Complete, Start, Writable, Writes}
use Rattle.pool_collect.proofs.Distinct.{AllKnown, gather_front, gather_known, packed_together}
use Rattle.pool_collect.proofs.Passes.{places_front}
use Rattle.pool_collect.proofs.Rewritten.{placed_moved}

-- ---- the first pass

pub state_start : (pool order table : List ℕ) → most_keys ≤ length order → most_keys ≤ length table → State pool order table 0 0
unfolding keys_in packed is_known
state_start pool order table o t = record {
  order_long = o;
  table_long = t;
  used_is = refl;
  indices = λ i h. absurd (omega arith);
  index = record {
    ascending = λ i j h l. absurd (omega arith);
    sound = λ i h. absurd (omega arith);
    complete = λ k z e. absurd (true≢false (sym e ∙ z));
  };
}

pub gather_append : (D A B : List (List ℕ)) → gather D (A ++ B) ≡ gather (gather D A) B
unfolding gather
gather_append D [] B = refl
gather_append D (k ∷ A) B = gather_append (add_key D k) A B

pub keys_append : (pool : List ℕ) (A B : List ItemWords) → keys_of pool (A ++ B) ≡ keys_of pool A ++ keys_of pool B
unfolding keys_of
keys_append pool [] B = refl
keys_append pool (it ∷ A) B = rw (keys_append pool A B)

known_left : (D A B : List (List ℕ)) → AllKnown D (A ++ B) → AllKnown D A
known_left D [] B k = tt
known_left D (a ∷ A) B k = (k.0, known_left D A B k.1)

known_right : (D A B : List (List ℕ)) → AllKnown D (A ++ B) → AllKnown D B
known_right D [] B k = k
known_right D (a ∷ A) B k = known_right D A B k.1

-- the distinct keys of both lists: ours, and then those of theirs that are new
kept_gathered : (pool ours theirs : List ℕ)
    → keys_kept pool ours theirs ≡ gather (gather [] (keys_of pool (items_of ours))) (keys_of pool (items_of theirs))
kept_gathered pool ours theirs =
    ap (gather []) (keys_append pool (items_of ours) (items_of theirs))
    ∙ gather_append [] (keys_of pool (items_of ours)) (keys_of pool (items_of theirs))

-- every key of both lists is among the distinct ones
module _ (pool ours theirs : List ℕ) where
  both_known : AllKnown (keys_kept pool ours theirs) (keys_of pool (items_of ours) ++ keys_of pool (items_of theirs))
  both_known = rw (← keys_append pool (items_of ours) (items_of theirs)) (gather_known [] (keys_of pool (items_of ours ++ items_of theirs)))

  pub ours_known : AllKnown (keys_kept pool ours theirs) (keys_of pool (items_of ours))
  ours_known = known_left _ (keys_of pool (items_of ours)) (keys_of pool (items_of theirs)) both_known

  pub theirs_known : AllKnown (keys_kept pool ours theirs) (keys_of pool (items_of theirs))
  theirs_known = known_right _ (keys_of pool (items_of ours)) (keys_of pool (items_of theirs)) both_known

-- ---- the places of both

length_keys : (pool : List ℕ) (D : List (List ℕ)) (its : List ItemWords) → length (places_of D (keys_of pool its)) ≡ 2 * length its
unfolding keys_of
length_keys pool D [] = refl
length_keys pool D (it ∷ its) = rw (length_keys pool D its) (omega arith)

length_places : (pool : List ℕ) (D : List (List ℕ)) (ws : List ℕ) → length (places_of D (keys_of pool (items_of ws))) ≡ 2 * (length ws / item_size)
length_places pool D ws = length_keys pool D (items_of ws) ∙ rw (length_items ws 0 (length ws / item_size))

-- two lists written one after the other
both_laid : (A B P : List ℕ) (n : ℕ) → length A ≡ n → n + length B ≤ length P → (R : List ℕ) × (sets (sets P 0 A) n B ≡ A ++ (B ++ R))
both_laid A B P n a h = (
  drop (0 + length (A ++ B)) P,
  sym (sets_append A B P 0 ∙ rw (zero-add, a)) ∙ sets-eq (A ++ B) P 0 (omega (arith, length-append A B)) ∙ append_assoc A B _,
)

-- ---- the first pass over both

module _ (pool ours theirs order table places : List ℕ) (s : Start pool ours theirs order table places) where
  pub ready_ours : ReadyAll pool order table places 0 0 0 (2 * (length ours / item_size))
  ready_ours = record {
    state = state_start pool order table s.order_long s.table_long;
    room = omega (arith, s.ours_ok.few);
    fits = omega (arith, s.ours_ok.few);
    notes = omega (arith, s.ours_ok.few);
    places_long = s.places_long;
  }

  module _ {order' table' places' : List ℕ} {known' used' : ℕ}
      (g : GathersAll pool order places 0 0 0 (keys_of pool (items_of ours)) (2 * (length ours / item_size)) order' table' places' known' used') where
    long : length places' ≡ length places
    long = ap length g.noted ∙ length-sets places 0 (places_of (keys_in pool order' known') (keys_of pool (items_of ours)))

    pub ready_theirs : ReadyAll pool order' table' places' known' used' (2 * (length ours / item_size)) (2 * (length theirs / item_size))
    ready_theirs = record {
      state = g.state;
      room = omega (arith, s.ours_ok.few, s.theirs_ok.few, g.few);
      fits = omega (arith, s.ours_ok.few, s.theirs_ok.few, g.most);
      notes = omega (arith, s.ours_ok.few, s.theirs_ok.few);
      places_long = omega (arith, s.places_long, long);
    }

    pub completes : {order'' table'' places'' : List ℕ} {known'' used'' : ℕ}
        → GathersAll pool order' places' known' used' (2 * (length ours / item_size)) (keys_of pool (items_of theirs)) (2 * (length theirs / item_size))
        order'' table'' places'' known'' used''
        → Complete pool ours theirs order'' places'' known'' × (used'' ≡ together (keys_kept pool ours theirs))
    unfolding keys_in
    completes {order''} {places'' = places''} {known'' = known''} h =
        let D = keys_in pool order' known' in
        let K = keys_kept pool ours theirs in
        let O = keys_of pool (items_of ours) in
        let T = keys_of pool (items_of theirs) in
        let all : gather D T ≡ K = rw g.keys (sym (kept_gathered pool ours theirs)) in
        let keys : keys_in pool order'' known'' ≡ K = h.keys ∙ all in
        let same : places_of K O ≡ places_of D O = places_front D K O (rw (← all) (gather_front D T)) (rw g.keys (gather_known [] O)) in
        let n = 2 * (length ours / item_size) in
        let laid = both_laid (places_of K O) (places_of K T) places n (length_places pool K ours)
        (omega (arith, length_places pool K theirs, s.ours_ok.few, s.theirs_ok.few, s.places_long)) in
        let noted : places'' ≡ places_of K O ++ (places_of K T ++ laid.0) = h.noted ∙ rw (keys, g.noted, ← same) laid.1 in (
          record {
            within = omega (arith, s.ours_ok.few, s.theirs_ok.few, g.few, h.few, h.state.order_long);
            keys = keys;
            places_long = omega (arith, s.places_long, long, ap length h.noted, length-sets places' n (places_of (keys_in pool order'' known'') T));
            ours_placed = placed_moved pool K places'' (places_of K T ++ laid.0) 0 (items_of ours) noted;
            theirs_placed = placed_moved pool K places'' laid.0 n (items_of theirs) (ap (drop n) noted ∙ drop_at (places_of K O) _ n (length_places pool K ours));
          },
          h.state.used_is ∙ rw keys (packed_together K),
        )

-- ---- the second pass

module _ (pool fresh ours theirs order places : List ℕ) (known : ℕ) (w : Writable pool fresh ours theirs order places known) where
  pub pack_ready : (known ≤ length order) × (length (packed (keys_in pool order known)) ≤ length fresh)
  pack_ready = (w.all.within, rw (w.all.keys, packed_together (keys_kept pool ours theirs)) w.room)

  pub noted_ours : Noted places 0 ours
  noted_ours = record { room = omega (arith, w.ours_ok.few, w.all.places_long); whole = w.ours_ok.whole }

  pub noted_theirs : Noted places (2 * (length ours / item_size)) theirs
  noted_theirs = record { room = omega (arith, w.ours_ok.few, w.theirs_ok.few, w.all.places_long); whole = w.theirs_ok.whole }

  pub writes : {fresh' ours' theirs' : List ℕ} → fresh' ≡ packed_over (keys_in pool order known) fresh → ours' ≡ flat_all (placed_items places 0 (items_of ours))
      → theirs' ≡ flat_all (placed_items places (2 * (length ours / item_size)) (items_of theirs)) → Writes pool fresh ours theirs fresh' ours' theirs'
  writes p o t = record {
    bytes = p ∙ rw w.all.keys;
    ours_words = o ∙ rw w.all.ours_placed;
    theirs_words = t ∙ rw w.all.theirs_placed;
  }

-- ---- the answer

module _ (pool fresh ours theirs : List ℕ) where
  abbrev kept : List (List ℕ)
  kept = keys_kept pool ours theirs

  -- a refusal leaves what is lent as it was
  collects_refused : {r : Refusal} → collect_answer pool fresh ours theirs ≡ Err r
      → Collects pool fresh ours theirs (Err r) fresh ours theirs
  collects_refused e = record {
    answer = sym e;
    bytes = sym (words_refused e fresh _);
    ours_words = sym (words_refused e ours _);
    theirs_words = sym (words_refused e theirs _);
  }

  pub collects_unchecked : {v : Verdict} {r : Refusal} → v ≡ collect_verdict pool fresh ours theirs → v ≡ Err r
      → Collects pool fresh ours theirs (Err r) fresh ours theirs
  collects_unchecked e f = collects_refused (rw (← e, f))

  collects_answered : {n : ℕ} → collect_answer pool fresh ours theirs ≡ Ok n → {fresh' ours' theirs' : List ℕ}
      → Writes pool fresh ours theirs fresh' ours' theirs' → Collects pool fresh ours theirs (Ok n) fresh' ours' theirs'
  collects_answered e v = record {
    answer = sym e;
    bytes = v.bytes ∙ sym (words_answered e fresh _);
    ours_words = v.ours_words ∙ sym (words_answered e ours _);
    theirs_words = v.theirs_words ∙ sym (words_answered e theirs _);
  }

  module _ (passed : collect_verdict pool fresh ours theirs ≡ accepted) {used : ℕ} (used-kept : used ≡ together kept) where
    pub collects_none : length fresh < used → Collects pool fresh ours theirs (refused 6 0 0) fresh ours theirs
    collects_none h = collects_refused (rw (passed, lt-ltb (length fresh) (together kept) (omega (arith, used-kept))))

    pub collects_all : used ≤ length fresh → {fresh' ours' theirs' : List ℕ} → Writes pool fresh ours theirs fresh' ours' theirs'
        → Collects pool fresh ours theirs (Ok used) fresh' ours' theirs'
    collects_all h v =
        collects_answered (rw (passed, le-ltb (length fresh) (together kept) (omega (arith, used-kept))) (ap Ok (sym used-kept))) v
