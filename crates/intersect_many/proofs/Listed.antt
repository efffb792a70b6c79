-- Converted lists as words, read back: the items that were written, their intervals, and that the check accepts them. Assumes nothing.
use Rattle.std.specs.Prelude.{Option, None, Some}
use Prim.Native.Nat.{ℕ, ◌+◌, ◌≤◌}
use mathlib.Core.Path.{◌≡◌, refl, sym, ap, ◌∙◌}
use mathlib.Core.Bool.{true, false, not, not-not}
use mathlib.Core.List.{List, [], ◌∷◌, ◌++◌, map, map-append}
use native.Mathlib.Omega.{arith}
use lib.ListN.{length}
use borrow.Author.Tests.{lt-ltb}
use Rattle.key_order.proofs.Laws.{compare_same}
use Rattle.key_order.proofs.Line.{size}
use Rattle.query_item.specs.declared.QueryItem.{QueryItem}
use Rattle.query_item.specs.declared.RangeSetItem.{RangeSetItem}
use Rattle.query_item.specs.declared.RangeSet.{RangeSet}
use Rattle.query_item.specs.declared.ItemWords.{ItemWords}
use Rattle.query_item.specs.Items.{bytes_of, words_of, flat_all}
use Rattle.query_item.specs.Boundaries.{from_to, to_range_set, range_of, item_between, to_query_item}
use Rattle.query_item.proofs.Laws.{query_words, each_between, Keeps, item_keeps, holds_converted, rank_in, less_rank, whole_upright}
use Rattle.item_check.specs.Checks.{most_items, upright_fault, items_of}
use Rattle.item_check.proofs.Laws.{words_formed, AllSound, Following, InOrder, AcceptedList}
use Rattle.intervals.specs.Intervals.{Interval}
use Rattle.intervals.proofs.Model.{Above, Strict}
use Rattle.intervals.proofs.Laws.{All, all_append}
use Rattle.item_lists.specs.Written.{as_items}
use Rattle.item_lists.proofs.Read.{count_flat, items_flat}
use Rattle.keyless.specs.Keyless.{keyless, first_of}
use Rattle.keyless.proofs.Laws.{keyed_first}
use Rattle.intersect_many.specs.Lists.{sets_of, convert_all}
use Rattle.intersect_many.specs.Demand.{EachHolds}
use Rattle.intersect_many.proofs.Carried.{iv, Fine}

-- ---- words read back

pub sets_of_words : (its : List ItemWords) → sets_of (flat_all its) ≡ map range_of its
sets_of_words its = rw (items_flat its)

-- ---- conversion

module _ (pool : List ℕ) (n : ℕ) (fits : size pool ≤ n) where
  abbrev rk : RangeSetItem → ℕ
  rk x = rank_in pool n fits x

  abbrev pub FineItem : ItemWords → Type 0
  FineItem it = Fine pool n fits (range_of it)

  abbrev pub item_iv : ItemWords → Interval
  item_iv it = iv pool n fits (range_of it)

  convert_one : (s e : RangeSetItem) → Fine pool n fits (from_to s e)
      → All FineItem (as_items (item_between pool s e)) × (map item_iv (as_items (item_between pool s e)) ≡ iv pool n fits (from_to s e) ∷ [])
  convert_one =
      each_between pool (λ s e m. Fine pool n fits (from_to s e) → All FineItem (as_items m) × (map item_iv (as_items m) ≡ iv pool n fits (from_to s e) ∷ []))
      (λ a b t f. (
        (record { good = record { starts = tt; ends = tt; straight = omega arith }; start_in = f.start_in; end_in = f.start_in }, tt),
        rw ((compare_same (bytes_of pool a) (bytes_of pool b)).0 t),
      ))
      (λ q i f. rw (query_words 0 q) ((f, tt), refl))
      (λ s e no f. absurd (no f.good.starts f.good.ends))

  pub convert_carried : (S : List RangeSet) → All (Fine pool n fits) S → map item_iv (convert_all pool S) ≡ map (iv pool n fits) S
  unfolding convert_all
  convert_carried [] h = refl
  convert_carried (s ∷ S) h =
      map-append item_iv (as_items (to_query_item pool s)) (convert_all pool S)
      ∙ rw ((convert_one s.start s.end h.0).1, convert_carried S h.1)

  -- ---- each item of ranges that hold a key holds one (02 §2.1)

  item_holds : (s : RangeSet) → Fine pool n fits s → keyless pool s ≡ false → (m : Option QueryItem) → to_query_item pool s ≡ m → EachHolds pool (as_items m)
  item_holds s f d None e = tt
  item_holds s f d (Some q) e =
      let keeps : Keeps pool s.start s.end (Some q) = rw e at (item_keeps pool s.start s.end) in
      (rw (query_words 0 q, keeps.0) (holds_converted pool s.start s.end q (first_of pool s) e ∙ keyed_first pool n fits s f.good d), tt)

  each_append : (X Y : List ItemWords) → EachHolds pool X → EachHolds pool Y → EachHolds pool (X ++ Y)
  each_append [] Y h k = k
  each_append (x ∷ X) Y h k = (h.0, each_append X Y h.1 k)

  items_hold : (S : List RangeSet) → All (Fine pool n fits) S → All (λ s. not (keyless pool s) ≡ true) S → EachHolds pool (convert_all pool S)
  unfolding convert_all
  items_hold [] h d = tt
  items_hold (s ∷ S) h d =
      each_append (as_items (to_query_item pool s)) (convert_all pool S)
      (item_holds s h.0 (sym (not-not (keyless pool s)) ∙ ap not d.0) (to_query_item pool s) refl) (items_hold S h.1 d.1)

  pub words_hold : (S : List RangeSet) → All (Fine pool n fits) S → All (λ s. not (keyless pool s) ≡ true) S → EachHolds pool (items_of (flat_all (convert_all pool S)))
  words_hold S h d = rw (items_flat (convert_all pool S)) (items_hold S h d)

  -- ---- what the check accepts

  item_sound : (q : QueryItem) → Fine pool n fits (to_range_set q) → upright_fault pool (words_of 0 q) ≡ 0
  item_sound q f = rw (words_formed q, query_words 0 q, f.start_in, f.end_in, whole_upright pool n fits (to_range_set q) f.good)

  one_sound : (m : Option QueryItem) → All FineItem (as_items m) → AllSound pool (as_items m)
  one_sound None h = tt
  one_sound (Some q) h = (item_sound q (rw (query_words 0 q) at h.0), tt)

  pub convert_sound : (S : List RangeSet) → All (Fine pool n fits) S → AllSound pool (convert_all pool S)
  unfolding convert_all
  convert_sound [] h = tt
  convert_sound (s ∷ S) h =
      all_append (λ it. upright_fault pool it ≡ 0) (as_items (to_query_item pool s)) (convert_all pool S)
      (one_sound (to_query_item pool s) (convert_one s.start s.end h.0).0) (convert_sound S h.1)

  words_following : (e : RangeSetItem) (its : List ItemWords) → Above (rk e + 1) (map item_iv its) → Following pool e its
  words_following e [] h = tt
  words_following e (it ∷ its) h = (
    less_rank pool n fits e (range_of it).start ∙ lt-ltb (rk e) (rk (range_of it).start) (omega arith),
    words_following (range_of it).end its h.2,
  )

  words_in_order : (its : List ItemWords) → Strict (map item_iv its) → InOrder pool its
  words_in_order [] h = tt
  words_in_order (it ∷ its) h = words_following (range_of it).end its h.2

  pub words_accepted : (its : List ItemWords) → AllSound pool its → Strict (map item_iv its) → length its ≤ most_items → AcceptedList pool (flat_all its)
  words_accepted its f s l = record {
    whole = (count_flat its).1;
    few = rw (count_flat its).0 l;
    sound = rw (items_flat its) f;
    in_order = rw (items_flat its) (words_in_order its s);
  }
