-- What the fates of items say and go by, and the ranks of what merges: from the smaller start to the larger end. Ranks as in the Ranked.antt
-- of `insert_order`. Assumes nothing.
use Rattle.query_item.specs.declared.QueryItem.{QueryItem}
use Rattle.std.specs.Prelude.{Option, None, Some}
use Rattle.std.specs.declared.cmp.Ordering.{Ordering}
use Rattle.std.specs.declared.cmp.Ordering.TheVariants.{Less, Equal, Greater}
use Prim.Native.Nat.{ℕ, ◌≤◌, ◌<◌, min, max}
use mathlib.Core.Path.{◌≡◌, refl, sym, ap, ◌∙◌}
use mathlib.Core.Bool.{Bool, true, false, cond, not, ◌||◌, ◌&&◌, and_comm, or_comm}
use mathlib.Core.Logic.{◌⊎◌, inl, inr, ⊎_elim}
use mathlib.Core.List.{List, [], ◌∷◌}
use native.Mathlib.Omega.{arith}
use borrow.Author.Tests.{ltb-true, ltb-false, lt-ltb}
use Rattle.key_order.proofs.Impossible.{impossible}
use Rattle.key_order.specs.Order.{smaller}
use Rattle.key_order.proofs.Numbers.{Says}
use Rattle.key_order.proofs.Line.{size}
use Rattle.key_order.proofs.Ranks.{rank}
use Rattle.query_item.specs.declared.ItemWords.{ItemWords}
use Rattle.query_item.specs.declared.RangeSetItem.{RangeSetItem}
use Rattle.query_item.specs.Items.{query_item, Shown, shown}
use Rattle.query_item.specs.Boundaries.{boundary_of, compare_in, range_of, item_between}
use Rattle.query_item.proofs.Laws.{query_words, wrapper_words, Keeps, item_keeps, Starts, Ends, Tells, item_told, item_sides}
use Rattle.insert_order.specs.Order.{plain, same_item, ends_below}
use Rattle.insert_merge.specs.declared.Fate.{Fate}
use Rattle.insert_merge.specs.declared.Fate.TheVariants.{Replaced, Stays, Merges}
use Rattle.insert_merge.specs.Merge.{disjoint, fate_of, smaller_start, larger_end, hull, plain_item, merged, merge_by, merged_with}
use Rattle.insert_order.proofs.Ranked.{rk, lo, hi, rk_says, ends_less, same_shown, shown_same, same_comm, ends_shown, equal_shown}
use Rattle.insert_order.proofs.Ordered.{Among}

-- ---- of two items, whichever is new

-- 02 §10.1: whether two items are disjoint does not depend on which of them is new
pub disjoint_comm : (pool : List ℕ) (x y : ItemWords) → disjoint pool x y ≡ disjoint pool y x
disjoint_comm pool x y = or_comm (ends_below pool x y) (ends_below pool y x)

-- nor does what becomes of the other
pub fate_either : (pool : List ℕ) (x y : ItemWords) → fate_of pool x y ≡ fate_of pool y x
unfolding fate_of
fate_either pool x y = rw (same_comm pool x y, and_comm (plain x) (plain y), disjoint_comm pool x y)

-- ---- what each fate says

pub record Meets (pool : List ℕ) (new it : ItemWords) : Type 0 where
  pub new_plain : plain new ≡ true
  pub it_plain : plain it ≡ true
  pub not_below : ends_below pool new it ≡ false
  pub not_above : ends_below pool it new ≡ false

pub record Untouched (pool : List ℕ) (new it : ItemWords) : Type 0 where
  pub other : same_item pool new it ≡ false
  pub disjoint : plain new ≡ true → plain it ≡ true → (ends_below pool new it ≡ true) ⊎ (ends_below pool it new ≡ true)

abbrev pub FateSays : List ℕ → ItemWords → ItemWords → Fate → Type 0
FateSays pool new it Replaced = same_item pool new it ≡ true
FateSays pool new it Stays = Untouched pool new it
FateSays pool new it Merges = Meets pool new it

pub fate_says : (pool : List ℕ) (new it : ItemWords) → FateSays pool new it (fate_of pool new it)
unfolding fate_of
fate_says pool new it =
    go (same_item pool new it) refl (plain new) refl (plain it) refl (ends_below pool new it) refl (ends_below pool it new) refl
  where
    go : (s : Bool) → same_item pool new it ≡ s → (p : Bool) → plain new ≡ p → (q : Bool) → plain it ≡ q
        → (b : Bool) → ends_below pool new it ≡ b → (a : Bool) → ends_below pool it new ≡ a
        → FateSays pool new it (cond s Replaced (cond (not (p && q)) Stays (cond (b || a) Stays Merges)))
    go true e p f q g b h a i = e
    go false e true f true g true h a i = record { other = e; disjoint = λ x y. inl h }
    go false e true f true g false h true i = record { other = e; disjoint = λ x y. inr i }
    go false e true f true g false h false i = record { new_plain = f; it_plain = g; not_below = h; not_above = i }
    go false e true f false g b h a i = record { other = e; disjoint = λ x y. impossible cc }
    go false e false f q g b h a i = record { other = e; disjoint = λ x y. impossible cc }

pub fate_is : (pool : List ℕ) (new it : ItemWords) {f : Fate} → fate_of pool new it ≡ f → FateSays pool new it f
fate_is pool new it e = rw e at (fate_says pool new it)

untouched_fate : (pool : List ℕ) (new it : ItemWords) → Untouched pool new it → fate_of pool new it ≡ Stays
unfolding fate_of
untouched_fate pool new it a =
    rw a.other (go (plain new) refl (plain it) refl (ends_below pool new it) refl (ends_below pool it new) refl)
  where
    go : (p : Bool) → plain new ≡ p → (q : Bool) → plain it ≡ q → (b : Bool) → ends_below pool new it ≡ b → (c : Bool) → ends_below pool it new ≡ c
        → cond (not (p && q)) Stays (cond (b || c) Stays Merges) ≡ Stays
    go true f true g true h c i = refl
    go true f true g false h true i = refl
    go true f true g false h false i = absurd (⊎_elim (λ e. impossible cc) (λ e. impossible cc) (a.disjoint f g))
    go true f false g b h c i = refl
    go false f q g b h c i = refl

-- ---- fates go by what items show, and the boundary chosen of two by what these are, in one pool or in two

pub fate_shown : (P Q : List ℕ) (x y a b : ItemWords) → shown P x ≡ shown Q y → shown P a ≡ shown Q b → fate_of P x a ≡ fate_of Q y b
unfolding fate_of
fate_shown P Q x y a b e f = rw (
  equal_shown P Q x y a b e f,
  ends_shown P Q x y a b e f,
  ends_shown P Q a b x y f e,
  ap (λ (s : Shown). s.1) e,
  ap (λ (s : Shown). s.1) f,
)

pub chosen_shown : (P Q : List ℕ) (o : Ordering) (s t u v : RangeSetItem) → boundary_of P s ≡ boundary_of Q t → boundary_of P u ≡ boundary_of Q v
    → boundary_of P (smaller o s u) ≡ boundary_of Q (smaller o t v)
chosen_shown P Q Less s t u v p q = p
chosen_shown P Q Equal s t u v p q = q
chosen_shown P Q Greater s t u v p q = q

-- equal items leave every item to one fate
pub fate_same : (pool : List ℕ) (x y it : ItemWords) → same_item pool x y ≡ true → fate_of pool x it ≡ fate_of pool y it
fate_same pool x y it e = fate_shown pool pool x y it it (same_shown pool x y e) refl

pub fate_itself : (pool : List ℕ) (x : ItemWords) → fate_of pool x x ≡ Replaced
unfolding fate_of
fate_itself pool x = rw (shown_same pool x x refl)

-- ---- what a list merges to

-- what holds of the new item, and is kept by each merge, holds of the result
pub merged_keeps : (pool : List ℕ) (P : ItemWords → Type 0) (new cur : ItemWords) (its : List ItemWords) → P cur
    → ((c it : ItemWords) → Among it its → fate_of pool new it ≡ Merges → P c → P (merged pool c it)) → P (merged_with pool new cur its)
unfolding merged_with
merged_keeps pool P new cur [] p f = p
merged_keeps pool P new cur (it ∷ its) p f = go (fate_of pool new it) refl (λ c q. merged_keeps pool P new c its q (λ d x m. f d x (inr m)))
  where
    go : (g : Fate) → fate_of pool new it ≡ g → ((c : ItemWords) → P c → P (merged_with pool new c its)) → P (merged_with pool new (merge_by pool g cur it) its)
    go Replaced e r = r cur p
    go Stays e r = r cur p
    go Merges e r = r (merged pool cur it) (f cur it (inl refl) e p)

-- nothing in a list merges with the new item
abbrev pub Alone : List ℕ → ItemWords → List ItemWords → Type 0
Alone pool new its = (p : ItemWords) → Among p its → fate_of pool new p ≡ Merges → ⊥

-- then it stays as it is
pub merged_none : (pool : List ℕ) (new cur : ItemWords) (its : List ItemWords) → Alone pool new its → merged_with pool new cur its ≡ cur
merged_none pool new cur its a = merged_keeps pool (λ c. c ≡ cur) new cur its refl (λ c it m e p. absurd (a it m e))

-- ---- the item between two boundaries

module _ (n : ℕ) (pool : List ℕ) where
  abbrev R : RangeSetItem → ℕ
  R x = rk n pool x

  abbrev S : ItemWords → ℕ
  S it = lo n pool it

  abbrev E : ItemWords → ℕ
  E it = hi n pool it

  -- a plain item of these ranks
  abbrev Spans : ItemWords → ℕ → ℕ → Type 0
  Spans it s e = (S it ≡ s) × (E it ≡ e) × (plain it ≡ true)

  item_spans : (cur : ItemWords) (s e : RangeSetItem) → Starts s → Ends e → Spans (plain_item cur (item_between pool s e)) (R s) (R e)
  unfolding rk
  item_spans cur s e h k = go (item_between pool s e) (item_told pool s e h k) (item_keeps pool s e)
    where
      go : (m : Option QueryItem) → Tells pool s e m → Keeps pool s e m → Spans (plain_item cur m) (R s) (R e)
      go None t v = absurd t
      go (Some q) t v = rw (query_words 0 q) (ap (rank n) v.0, ap (rank n) v.1, rw (wrapper_words 0 q))

  module _ (h : size pool ≤ n) where
    smaller_start_lem : (new old : RangeSetItem) → Starts new → Starts old → Starts (smaller_start pool new old) × (R (smaller_start pool new old) ≡ min (R new) (R old))
    smaller_start_lem new old p q = go (compare_in pool old new) (rk_says n pool h old new)
      where
        go : (o : Ordering) → Says o (R old) (R new) → Starts (smaller o old new) × (R (smaller o old new) ≡ min (R new) (R old))
        go Less l = (q, omega arith)
        go Equal l = (p, omega arith)
        go Greater l = (p, omega arith)

    larger_end_lem : (new old : RangeSetItem) → Ends new → Ends old → Ends (larger_end pool new old) × (R (larger_end pool new old) ≡ max (R new) (R old))
    larger_end_lem new old p q = go (compare_in pool new old) (rk_says n pool h new old)
      where
        go : (o : Ordering) → Says o (R new) (R old) → Ends (smaller o old new) × (R (smaller o old new) ≡ max (R new) (R old))
        go Less l = (q, omega arith)
        go Equal l = (p, omega arith)
        go Greater l = (p, omega arith)

    -- the hull of two items goes from a start, the smaller, to an end, the larger
    pub record Hull (cur it : ItemWords) : Type 0 where
      pub starts : Starts (hull pool (range_of cur) (range_of it)).start
      pub ends : Ends (hull pool (range_of cur) (range_of it)).end
      pub low : R (hull pool (range_of cur) (range_of it)).start ≡ min (S cur) (S it)
      pub high : R (hull pool (range_of cur) (range_of it)).end ≡ max (E cur) (E it)

    pub hull_says : (cur it : ItemWords) → Hull cur it
    hull_says cur it =
        let p = item_sides (query_item cur) in
        let q = item_sides (query_item it) in
        let s = smaller_start_lem (range_of cur).start (range_of it).start p.0 q.0 in
        let e = larger_end_lem (range_of cur).end (range_of it).end p.1 q.1 in
        record { starts = s.0; ends = e.0; low = s.1; high = e.1 }

    -- two items merge to the plain item from the smaller start to the larger end
    pub merged_spans : (cur it : ItemWords) → Spans (merged pool cur it) (min (S cur) (S it)) (max (E cur) (E it))
    unfolding merged
    merged_spans cur it =
        let u = hull_says cur it in
        let r = item_spans cur _ _ u.starts u.ends in
        (r.0 ∙ u.low, r.1 ∙ u.high, r.2)

    -- items that merge share a rank
    pub meets_ranks : (new it : ItemWords) → Meets pool new it → (S it ≤ E new) × (S new ≤ E it)
    meets_ranks new it m = (
      ltb-false (E new) (S it) (sym (ends_less n pool h new it) ∙ m.not_below),
      ltb-false (E it) (S new) (sym (ends_less n pool h it new) ∙ m.not_above),
    )

    pub ends_ranks : (x y : ItemWords) → ends_below pool x y ≡ true → E x < S y
    ends_ranks x y e = ltb-true (E x) (S y) (sym (ends_less n pool h x y) ∙ e)

    -- an item stays that is not equal to the new one and, where both are plain, lies apart from it
    pub ranks_stay : (new it : ItemWords) → (same_item pool new it ≡ true → ⊥) → (plain new ≡ true → plain it ≡ true → (E new < S it) ⊎ (E it < S new))
        → fate_of pool new it ≡ Stays
    ranks_stay new it f g = untouched_fate pool new it (record { other = other (same_item pool new it) refl; disjoint = λ p q. side (g p q) })
      where
        other : (b : Bool) → same_item pool new it ≡ b → b ≡ false
        other true e = absurd (f e)
        other false e = refl

        side : (E new < S it) ⊎ (E it < S new) → (ends_below pool new it ≡ true) ⊎ (ends_below pool it new ≡ true)
        side (inl l) = inl (ends_less n pool h new it ∙ lt-ltb (E new) (S it) l)
        side (inr l) = inr (ends_less n pool h it new ∙ lt-ltb (E it) (S new) l)

    -- ---- how far the result reaches

    merged_from : (c it : ItemWords) (a b : ℕ) → S c ≤ a → b ≤ E c → (S (merged pool c it) ≤ a) × (b ≤ E (merged pool c it))
    merged_from c it a b p q = let m = merged_spans c it in (omega (arith, m.0), omega (arith, m.1))

    -- it reaches as far as the new item at least
    pub merged_wider : (new cur : ItemWords) (its : List ItemWords) → (S (merged_with pool new cur its) ≤ S cur) × (E cur ≤ E (merged_with pool new cur its))
    merged_wider new cur its =
        merged_keeps pool (λ c. (S c ≤ S cur) × (E cur ≤ E c)) new cur its (omega arith, omega arith) (λ c it m e p. merged_from c it (S cur) (E cur) p.0 p.1)

    -- and no lower, and no higher, than the new item and all that merge with it

    pub merged_low : (b : ℕ) (new cur : ItemWords) (its : List ItemWords) → b ≤ S cur → ((p : ItemWords) → Among p its → fate_of pool new p ≡ Merges → b ≤ S p)
        → b ≤ S (merged_with pool new cur its)
    merged_low b new cur its l f =
        merged_keeps pool (λ c. b ≤ S c) new cur its l (λ c it m e p. omega (arith, (merged_spans c it).0, f it m e))

    pub merged_high : (b : ℕ) (new cur : ItemWords) (its : List ItemWords) → E cur ≤ b → ((p : ItemWords) → Among p its → fate_of pool new p ≡ Merges → E p ≤ b)
        → E (merged_with pool new cur its) ≤ b
    merged_high b new cur its l f =
        merged_keeps pool (λ c. E c ≤ b) new cur its l (λ c it m e p. omega (arith, (merged_spans c it).1, f it m e))

    pub merged_plain : (new cur : ItemWords) (its : List ItemWords) → plain cur ≡ true → plain (merged_with pool new cur its) ≡ true
    merged_plain new cur its e = merged_keeps pool (λ c. plain c ≡ true) new cur its e (λ c it m f p. (merged_spans c it).2)
