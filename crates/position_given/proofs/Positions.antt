-- Lists of positions: their members, and that an ascending list is determined by these. Assumes nothing.
use Prim.Native.Nat.{ℕ, zero, suc, ◌+◌, ◌-◌, ◌≤◌, ◌<◌, min, max}
use mathlib.Core.Path.{◌≡◌, refl, sym, ap, ◌∙◌}
use mathlib.Core.Bool.{Bool, true, false, cond, ◌&&◌, ◌||◌, or_assoc, or-true, and-false, false≢true, true≢false}
use mathlib.Core.List.{List, [], ◌∷◌, ◌++◌}
use native.Mathlib.Decide.{dec_lt, ℕ_discrete}
use native.Mathlib.Omega.{arith}
use lib.Dec.{eqb}
use lib.ListN.{length, get_or}
use borrow.Author.Tests.{eq-eqb, ne_eqb}
use Rattle.intervals.specs.Lists.{keep}
use Rattle.intervals.specs.Intervals.{Interval, inside, holds}
use Rattle.intervals.proofs.Model.{Above}
use Rattle.intervals.proofs.Members.{where_is, below, in_it, past, inside_below, inside_yes, inside_past}
use Rattle.position_given.specs.Positions.{count_up, positions_of, is_in}
use Rattle.position_given.specs.Inner.{Ascends}

-- ---- members

pub in_append : (L M : List ℕ) (p : ℕ) → is_in (L ++ M) p ≡ is_in L p || is_in M p
unfolding is_in
in_append [] M p = refl
in_append (q ∷ L) M p = rw (in_append L M p, or_assoc)

pub in_count : (s k p : ℕ) → is_in (count_up s k) p ≡ inside s (s + k) p
unfolding is_in count_up
in_count s zero p = sym (elim (where_is s (s + 0) p) [
  | below h ↦ inside_below s (s + 0) p h
  | in_it h l ↦ absurd (omega arith)
  | past h ↦ inside_past s (s + 0) p h
])
in_count s (suc k) p = rw (in_count (suc s) k p) (elim (ℕ_discrete p s) [
  | yes e ↦ rw (eq-eqb p s e, inside_yes s (s + suc k) p (omega arith) (omega arith))
  | no e ↦ rw (ne_eqb p s e) (elim (where_is s (s + suc k) p) [
    | below h ↦ rw (inside_below s (s + suc k) p h, inside_below (suc s) (suc s + k) p (omega arith))
    | in_it h l ↦
        let above : suc s ≤ p = elim (dec_lt s p) [ yes u ↦ u | no u ↦ absurd (e (omega arith)) ] in
        rw (inside_yes s (s + suc k) p h l, inside_yes (suc s) (suc s + k) p above (omega arith))
    | past h ↦ rw (inside_past s (s + suc k) p h, inside_past (suc s) (suc s + k) p (omega arith))
  ])
])

none : (s e p : ℕ) → e ≤ s → inside s e p ≡ false
none s e p h = elim (where_is s e p) [
  | below k ↦ inside_below s e p k
  | in_it k l ↦ absurd (omega arith)
  | past k ↦ inside_past s e p k
]

-- the positions of an interval are the numbers inside
pub in_between : (s e p : ℕ) → is_in (count_up s (e - s)) p ≡ inside s e p
in_between s e p = in_count s (e - s) p ∙ (elim (dec_lt s e) [
  | yes h ↦ let q : s + (e - s) ≡ e = omega arith in rw q
  | no h ↦ rw (none s (s + (e - s)) p (omega arith)) (sym (none s e p (omega arith)))
])

pub in_positions : (A : List Interval) (p : ℕ) → is_in (positions_of A) p ≡ holds A p
unfolding is_in positions_of holds
in_positions [] p = refl
in_positions (a ∷ A) p = rw (in_append (count_up a.0 (a.1 - a.0)) (positions_of A) p, in_between a.0 a.1 p, in_positions A p)

pub in_keep : (f : ℕ → Bool) (L : List ℕ) (p : ℕ) → is_in (keep f L) p ≡ is_in L p && f p
unfolding is_in keep
in_keep f [] p = refl
in_keep f (q ∷ L) p = go (f q) refl (in_keep f L p)
  where
    go : (t : Bool) → f q ≡ t → is_in (keep f L) p ≡ is_in L p && f p → is_in (cond t (q ∷ keep f L) (keep f L)) p ≡ (eqb p q || is_in L p) && f p
    go true e r = elim (ℕ_discrete p q) [
      | yes h ↦ rw (eq-eqb p q h, h, e)
      | no h ↦ rw (ne_eqb p q h) r
    ]
    go false e r = elim (ℕ_discrete p q) [
      | yes h ↦ rw (r, eq-eqb p q h, h, e, and-false)
      | no h ↦ rw (ne_eqb p q h) r
    ]

-- ---- ascending lists

pub ascends_weaken : (lo lo' : ℕ) (L : List ℕ) → lo' ≤ lo → Ascends lo L → Ascends lo' L
ascends_weaken lo lo' [] h a = tt
ascends_weaken lo lo' (p ∷ L) h a = (omega arith, a.1)

pub ascends_keep : (lo : ℕ) (f : ℕ → Bool) (L : List ℕ) → Ascends lo L → Ascends lo (keep f L)
unfolding keep
ascends_keep lo f [] a = tt
ascends_keep lo f (p ∷ L) a = go (f p) (ascends_keep (suc p) f L a.1)
  where
    go : (t : Bool) → Ascends (suc p) (keep f L) → Ascends lo (cond t (p ∷ keep f L) (keep f L))
    go true rest = (a.0, rest)
    go false rest = ascends_weaken (suc p) lo (keep f L) (omega (arith, a.0)) rest

pub ascends_append : (lo mid : ℕ) (L M : List ℕ) → lo ≤ mid → Ascends lo L → ((p : ℕ) → is_in L p ≡ true → p < mid) → Ascends mid M → Ascends lo (L ++ M)
unfolding is_in
ascends_append lo mid [] M l a h b = ascends_weaken mid lo M l b
ascends_append lo mid (p ∷ L) M l a h b =
    let first : p < mid = h p (rw (eq-eqb p p refl)) in
    (a.0, ascends_append (suc p) mid L M first a.1 (λ q e. h q (rw e (or-true (eqb q p)))) b)

pub ascends_count : (s k : ℕ) → Ascends s (count_up s k)
unfolding count_up
ascends_count s zero = tt
ascends_count s (suc k) = (omega arith, ascends_count (suc s) k)

-- an interval's positions stand below its end
in_end : (s e p : ℕ) → is_in (count_up s (e - s)) p ≡ true → p < e
in_end s e p h = elim (dec_lt p e) [
  | yes k ↦ k
  | no k ↦ absurd (true≢false (sym h ∙ in_between s e p ∙ inside_past s e p (omega arith)))
]

-- an interval's positions before those of a list that starts at its end
pub ascends_run : (lo s e : ℕ) (L : List ℕ) → lo ≤ s → s ≤ e → Ascends e L → Ascends lo (count_up s (e - s) ++ L)
ascends_run lo s e L h k a =
    ascends_append lo e (count_up s (e - s)) L (omega arith) (ascends_weaken s lo (count_up s (e - s)) h (ascends_count s (e - s))) (in_end s e) a

pub ascends_positions : (lo : ℕ) (A : List Interval) → Above lo A → Ascends lo (positions_of A)
unfolding positions_of
ascends_positions lo [] h = tt
ascends_positions lo (a ∷ A) h = ascends_run lo a.0 a.1 (positions_of A) h.0 (omega (arith, h.1)) (ascends_positions a.1 A h.2)

-- nothing below lo is in a list that starts at lo
pub in_below : (lo : ℕ) (L : List ℕ) (p : ℕ) → Ascends lo L → p < lo → is_in L p ≡ false
unfolding is_in
in_below lo [] p a h = refl
in_below lo (q ∷ L) p a h = rw (ne_eqb p q (λ e. omega (arith, a.0))) (in_below (suc q) L p a.1 (omega (arith, a.0)))

pub ascends_member : (lo : ℕ) (L : List ℕ) (p : ℕ) → Ascends lo L → is_in L p ≡ true → lo ≤ p
ascends_member lo L p a e = elim (dec_lt p lo) [ yes h ↦ absurd (true≢false (sym e ∙ in_below lo L p a h)) | no h ↦ omega arith ]

in_none : (p : ℕ) → is_in [] p ≡ false
unfolding is_in
in_none p = refl

pub in_head : (p : ℕ) (L : List ℕ) → is_in (p ∷ L) p ≡ true
unfolding is_in
in_head p L = rw (eq-eqb p p refl)

pub in_tail : (p q : ℕ) (L : List ℕ) → (q ≡ p → ⊥) → is_in (p ∷ L) q ≡ is_in L q
unfolding is_in
in_tail p q L h = rw (ne_eqb q p h)

pub in_later : (p q : ℕ) (L : List ℕ) → is_in L q ≡ true → is_in (p ∷ L) q ≡ true
in_later p q L e = elim (ℕ_discrete q p) [ yes k ↦ rw k (in_head p L) | no k ↦ in_tail p q L k ∙ e ]

-- two ascending lists that have the same members are the same list
pub ascends_unique : (lo lo' : ℕ) (L M : List ℕ) → Ascends lo L → Ascends lo' M → ((p : ℕ) → is_in L p ≡ is_in M p) → L ≡ M
ascends_unique lo lo' [] [] a b same = refl
ascends_unique lo lo' [] (q ∷ M) a b same = absurd (false≢true (sym (in_none q) ∙ same q ∙ in_head q M))
ascends_unique lo lo' (p ∷ L) [] a b same = absurd (true≢false (sym (in_head p L) ∙ same p ∙ in_none p))
ascends_unique lo lo' (p ∷ L) (q ∷ M) a b same =
    let le : p ≤ q = elim (dec_lt q p) [
      | yes h ↦ absurd (true≢false (sym (in_head q M) ∙ sym (same q) ∙ in_below p (p ∷ L) q (omega arith, a.1) h))
      | no h ↦ omega arith
    ] in
    let ge : q ≤ p = elim (dec_lt p q) [
      | yes h ↦ absurd (true≢false (sym (in_head p L) ∙ same p ∙ in_below q (q ∷ M) p (omega arith, b.1) h))
      | no h ↦ omega arith
    ] in
    let e : p ≡ q = omega arith in
    let r : L ≡ M = ascends_unique (suc p) (suc q) L M a.1 b.1 (λ x. elim (ℕ_discrete x p) [
      | yes h ↦ in_below (suc p) L x a.1 (omega arith) ∙ sym (in_below (suc q) M x b.1 (omega arith))
      | no h ↦ sym (in_tail p x L h) ∙ same x ∙ in_tail q x M (λ k. h (omega arith))
    ]) in
    λ i. e i ∷ r i

pub ascends_raise : (lo hi : ℕ) (L : List ℕ) → Ascends lo L → ((p : ℕ) → is_in L p ≡ true → hi ≤ p) → Ascends hi L
ascends_raise lo hi [] a h = tt
ascends_raise lo hi (p ∷ L) a h = (h p (in_head p L), a.1)

-- an ascending list of numbers from lo on, below hi, has no more than these
pub length_ascends : (lo hi : ℕ) (L : List ℕ) → Ascends lo L → lo ≤ hi → ((p : ℕ) → is_in L p ≡ true → p < hi) → lo + length L ≤ hi
length_ascends lo hi [] a l h = omega arith
length_ascends lo hi (p ∷ L) a l h =
    omega (arith, a.0, length_ascends (suc p) hi L a.1 (h p (in_head p L)) (λ q e. h q (in_later p q L e)))

-- ---- by index

-- what stands at an index is in the list
pub in_at : (L : List ℕ) (k : ℕ) → k < length L → is_in L (get_or L k 0) ≡ true
in_at [] k h = absurd (omega arith)
in_at (p ∷ L) zero h = in_head p L
in_at (p ∷ L) (suc k) h = in_later p (get_or L k 0) L (in_at L k (omega arith))

ascends_from : (lo : ℕ) (L : List ℕ) (k : ℕ) → Ascends lo L → k < length L → lo ≤ get_or L k 0
ascends_from lo [] k a h = absurd (omega arith)
ascends_from lo (p ∷ L) zero a h = a.0
ascends_from lo (p ∷ L) (suc k) a h = omega (arith, a.0, ascends_from (suc p) L k a.1 (omega arith))

pub ascends_at : (lo : ℕ) (L : List ℕ) (j k : ℕ) → Ascends lo L → j < k → k < length L → get_or L j 0 < get_or L k 0
ascends_at lo [] j k a l h = absurd (omega arith)
ascends_at lo (p ∷ L) j zero a l h = absurd (omega arith)
ascends_at lo (p ∷ L) zero (suc k) a l h = ascends_from (suc p) L k a.1 (omega arith)
ascends_at lo (p ∷ L) (suc j) (suc k) a l h = ascends_at (suc p) L j k a.1 (omega arith) (omega arith)

-- a number above those before index j, and below the one there, is not in the list
pub in_gap : (lo : ℕ) (L : List ℕ) (j p : ℕ) → Ascends lo L → ((k : ℕ) → k < j → get_or L k 0 < p) → (j < length L → p < get_or L j 0)
    → is_in L p ≡ false
in_gap lo [] j p a h f = in_none p
in_gap lo (q ∷ L) zero p a h f = in_below q (q ∷ L) p (omega arith, a.1) (f (omega arith))
in_gap lo (q ∷ L) (suc j) p a h f =
    in_tail q p L (λ e. omega (arith, h 0 (omega arith)))
    ∙ in_gap (suc q) L j p a.1 (λ k l. h (suc k) (omega arith)) (λ l. f (omega arith))

-- ---- what is kept

pub keep_same : (f g : ℕ → Bool) (L : List ℕ) → ((p : ℕ) → is_in L p ≡ true → f p ≡ g p) → keep f L ≡ keep g L
unfolding keep is_in
keep_same f g [] h = refl
keep_same f g (p ∷ L) h =
    rw (h p (rw (eq-eqb p p refl)), keep_same f g L (λ q e. h q (rw e (or-true (eqb q p)))))

-- what f keeps of what g keeps is what both keep
pub keep_keep : (f g : ℕ → Bool) (L : List ℕ) → keep f (keep g L) ≡ keep (λ p. g p && f p) L
unfolding keep
keep_keep f g [] = refl
keep_keep f g (p ∷ L) = go (g p) (keep_keep f g L)
  where
    go : (t : Bool) → keep f (keep g L) ≡ keep (λ q. g q && f q) L
        → keep f (cond t (p ∷ keep g L) (keep g L)) ≡ cond (t && f p) (p ∷ keep (λ q. g q && f q) L) (keep (λ q. g q && f q) L)
    go true r = ap (λ (l : List ℕ). cond (f p) (p ∷ l) l) r
    go false r = r

pub keep_none : (f : ℕ → Bool) (L : List ℕ) → ((p : ℕ) → is_in L p ≡ true → f p ≡ false) → keep f L ≡ []
unfolding keep
keep_none f L h = keep_same f (λ p. false) L h ∙ never L
  where
    never : (L : List ℕ) → keep (λ p. false) L ≡ []
    never [] = refl
    never (p ∷ L) = never L

pub keep_all : (f : ℕ → Bool) (L : List ℕ) → ((p : ℕ) → is_in L p ≡ true → f p ≡ true) → keep f L ≡ L
unfolding keep
keep_all f L h = keep_same f (λ p. true) L h ∙ always L
  where
    always : (L : List ℕ) → keep (λ p. true) L ≡ L
    always [] = refl
    always (p ∷ L) = ap (◌∷◌ p) (always L)

-- a run, cut to what stands from x on, below y
pub keep_run : (s e x y : ℕ) → keep (inside x y) (count_up s (e - s)) ≡ count_up (max s x) (min e y - max s x)
keep_run s e x y =
    ascends_unique 0 0 (keep (inside x y) (count_up s (e - s))) (count_up (max s x) (min e y - max s x))
    (ascends_keep 0 (inside x y) (count_up s (e - s)) (ascends_weaken s 0 (count_up s (e - s)) (omega arith) (ascends_count s (e - s))))
    (ascends_weaken (max s x) 0 (count_up (max s x) (min e y - max s x)) (omega arith) (ascends_count (max s x) (min e y - max s x)))
    (λ p. in_keep (inside x y) (count_up s (e - s)) p ∙ rw (in_between s e p, in_between (max s x) (min e y) p) (meet p))
  where
    meet : (p : ℕ) → inside s e p && inside x y p ≡ inside (max s x) (min e y) p
    meet p = elim (where_is s e p) [
      | below h ↦ rw (inside_below s e p h) (sym (inside_below (max s x) (min e y) p (omega arith)))
      | in_it h k ↦ rw (inside_yes s e p h k) (elim (where_is x y p) [
        | below m ↦ inside_below x y p m ∙ sym (inside_below (max s x) (min e y) p (omega arith))
        | in_it m n ↦ inside_yes x y p m n ∙ sym (inside_yes (max s x) (min e y) p (omega arith) (omega arith))
        | past m ↦ inside_past x y p m ∙ sym (inside_past (max s x) (min e y) p (omega arith))
      ])
      | past h ↦ rw (inside_past s e p h) (sym (inside_past (max s x) (min e y) p (omega arith)))
    ]
