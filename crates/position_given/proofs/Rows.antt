-- How many rows lists of intervals have: of one list after another, of a piece, of the pairs from an index on, and of a list in which one more
-- range is covered. Assumes nothing.
use Prim.Native.Nat.{ℕ, zero, suc, ◌+◌, ◌-◌, ◌≤◌, ◌<◌, min, max}
use mathlib.Core.Path.{◌≡◌, refl, sym, ap, ◌∙◌}
use mathlib.Core.Bool.{Bool, true, false, not, ◌||◌}
use mathlib.Core.List.{List, [], ◌∷◌, ◌++◌, append_assoc}
use native.Mathlib.Decide.{dec_lt}
use native.Mathlib.Omega.{arith}
use lib.ListN.{length, length-append}
use Rattle.intervals.specs.Lists.{cuts_of, keep}
use Rattle.intervals.specs.Intervals.{Interval, Apart, Canonical, inside, holds, piece, cut}
use Rattle.intervals.specs.Cover.{grow_of, cover_of, cover, uncover}
use Rattle.intervals.proofs.Members.{inside_yes, inside_past, inside_below, where_is, below, in_it, past}
use Rattle.intervals.proofs.Pieces.{cuts}
use Rattle.intervals.proofs.Laws.{piece_some, piece_none, grow_stop, grow_more, cover_skip, cover_here, cover_some, cover_none, cuts_skip, cuts_above}
use Rattle.intervals.proofs.Laws.{cuts_past, uncover_some, uncover_none, cover_canonical, holds_cover, cover_unique, cover_held, uncover_free, keep_append, keep_parts}
use Rattle.pairs_sort.specs.Pairs.{pairs_from, pairs}
use Rattle.pairs_sort.proofs.Laws.{pairs_split}
use Rattle.position_given.specs.Positions.{count_up, positions_of, rows_of}
use Rattle.position_given.proofs.Apart.{apart_back}
use Rattle.position_given.proofs.Widths.{length_count, length_positions, Words, Ends, ends_of, positions_bound}

pub positions_append : (A B : List Interval) → positions_of (A ++ B) ≡ positions_of A ++ positions_of B
unfolding positions_of
positions_append [] B = refl
positions_append (a ∷ A) B = rw (positions_append A B, append_assoc)

pub rows_append : (A B : List Interval) → rows_of (A ++ B) ≡ rows_of A + rows_of B
rows_append A B = ap length (positions_append A B) ∙ length-append (positions_of A) (positions_of B)

pub rows_piece : (s e : ℕ) → rows_of (piece s e) ≡ e - s
rows_piece s e = elim (dec_lt s e) [
  | yes h ↦ rw (piece_some s e h) (length_positions (s, e) [] ∙ unfold positions_of in omega arith)
  | no h ↦ rw (piece_none s e (omega arith)) (unfold positions_of in omega arith)
]

-- ---- the pairs from an index on

module _ (ws : List ℕ) (count at : ℕ) (h : at ≤ count) where
  pub rows_split : rows_of (pairs ws count) ≡ rows_of (pairs ws at) + rows_of (pairs_from ws at (count - at))
  rows_split = ap rows_of (pairs_split ws count at h) ∙ rows_append (pairs ws at) (pairs_from ws at (count - at))

  pub rest_apart : Canonical (pairs ws count) → Apart 0 (pairs_from ws at (count - at))
  rest_apart a = apart_back 0 (pairs ws at) (pairs_from ws at (count - at)) (rw (pairs_split ws count at h) at a)

  pub rest_fits : Words ws → Canonical (pairs ws count) → rows_of (pairs_from ws at (count - at)) < 18446744073709551616
  rest_fits w a =
      omega (arith, positions_bound 0 18446744073709551615 (pairs_from ws at (count - at)) (omega arith) (rest_apart a) (ends_of ws w (count - at) at))

-- ---- no end past most

grow_ends : (most : ℕ) (A : List Interval) (s e : ℕ) → e ≤ most → Ends most A → Ends most (grow_of A s e)
unfolding grow_of
grow_ends most [] s e h h_a = (h, tt)
grow_ends most (a ∷ A) s e h h_a = elim (dec_lt e a.0) [
  | yes k ↦ rw (grow_stop a A s e k) (h, h_a)
  | no k ↦ rw (grow_more a A s e (omega arith)) (grow_ends most A (min s a.0) (max e a.1) (omega (arith, h_a.0)) h_a.1)
]

pub cover_ends : (most : ℕ) (A : List Interval) (s e : ℕ) → e ≤ most → Ends most A → Ends most (cover_of A s e)
unfolding cover_of
cover_ends most [] s e h h_a = (h, tt)
cover_ends most (a ∷ A) s e h h_a = elim (dec_lt a.1 s) [
  | yes k ↦ rw (cover_skip a A s e k) (h_a.0, cover_ends most A s e h h_a.1)
  | no k ↦ rw (cover_here a A s e (omega arith)) (grow_ends most (a ∷ A) s e h h_a)
]

piece_ends : (most s e : ℕ) (B : List Interval) → e ≤ most → Ends most B → Ends most (piece s e ++ B)
piece_ends most s e B h h_b = elim (dec_lt s e) [
  | yes l ↦ rw (piece_some s e l) (h, h_b)
  | no l ↦ rw (piece_none s e (omega arith)) h_b
]

pub cuts_ends : (most : ℕ) (A : List Interval) (b : Interval) → Ends most A → Ends most (cuts A b)
unfolding cuts_of cut
cuts_ends most [] b h_a = tt
cuts_ends most (a ∷ A) b h_a =
    rw (append_assoc (piece a.0 (min a.1 b.0)) (piece (max a.0 b.1) a.1) (cuts A b))
    (piece_ends most a.0 (min a.1 b.0) (piece (max a.0 b.1) a.1 ++ cuts A b) (omega (arith, h_a.0))
    (piece_ends most (max a.0 b.1) a.1 (cuts A b) h_a.0 (cuts_ends most A b h_a.1)))

-- ---- a range covered: its own rows, and those that uncovering it leaves

-- an interval past which the list starts takes nothing more away where it is joined to the range
cuts_joined : (a : Interval) (A : List Interval) (s e : ℕ) → s ≤ a.1 → a.0 ≤ e → a.0 < a.1 → Apart (suc a.1) A
    → cuts A (min s a.0, max e a.1) ≡ cuts A (s, e)
cuts_joined a A s e h k n h_a =
    cuts_above (suc a.1) A (min s a.0) (max e a.1) (omega arith) h_a
    ∙ (elim (dec_lt e a.1) [
      | yes l ↦ cuts_past (suc a.1) A (max e a.1) (omega arith) h_a ∙ sym (cuts_past (suc a.1) A e (omega arith) h_a)
      | no l ↦ let q : max e a.1 ≡ e = omega arith in rw q
    ])
    ∙ sym (cuts_above (suc a.1) A s e (omega arith) h_a)

rows_cut : (a : Interval) (A : List Interval) (b : Interval)
    → rows_of (cuts (a ∷ A) b) ≡ (min a.1 b.0 - a.0) + (a.1 - max a.0 b.1) + rows_of (cuts A b)
unfolding cuts_of cut
rows_cut a A b =
    omega (
      arith,
      rows_append (piece a.0 (min a.1 b.0) ++ piece (max a.0 b.1) a.1) (cuts A b),
      rows_append (piece a.0 (min a.1 b.0)) (piece (max a.0 b.1) a.1),
      rows_piece a.0 (min a.1 b.0),
      rows_piece (max a.0 b.1) a.1,
    )

-- the rows of two that overlap or touch, joined

spread : (s e lo hi : ℕ) → lo ≤ s → s ≤ e → e ≤ hi → hi - lo ≡ (e - s) + ((s - lo) + (hi - e))
spread s e lo hi h k l = omega arith

low : (s t f : ℕ) → s ≤ f → s - min s t ≡ min f s - t
low s t f h = omega arith

high : (e t f : ℕ) → t ≤ e → max e f - e ≡ f - max t e
high e t f h = omega arith

width_joined : (s e t f : ℕ) → s < e → t < f → s ≤ f → t ≤ e → max e f - min s t ≡ (e - s) + ((min f s - t) + (f - max t e))
width_joined s e t f h n l k =
    spread s e (min s t) (max e f) (omega arith) (omega arith) (omega arith) ∙ rw (low s t f l, high e t f k)

width_apart : (s e t f : ℕ) → s < e → e < t → t < f → (min f s - t) + (f - max t e) ≡ f - t
width_apart s e t f h k n =
    let b : min f s ≡ s = omega arith in
    let d : max t e ≡ t = omega arith in
    rw (b, d) (omega arith)

rows_grow_first : (a : Interval) (A : List Interval) (s e : ℕ) → s < e → a.0 < a.1 → s ≤ a.1 → Apart (suc a.1) A
    → rows_of (grow_of A (min s a.0) (max e a.1)) ≡ (max e a.1 - min s a.0) + rows_of (cuts A (min s a.0, max e a.1))
    → rows_of (grow_of (a ∷ A) s e) ≡ (e - s) + rows_of (cuts (a ∷ A) (s, e))
rows_grow_first a A s e h n l h_a rest = elim (dec_lt e a.0) [
  | yes k ↦
      let tail : cuts A (s, e) ≡ A = cuts_above (suc a.1) A s e (omega arith) h_a ∙ cuts_past (suc a.1) A e (omega arith) h_a in
      rw (grow_stop a A s e k, rows_cut a A (s, e), width_apart s e a.0 a.1 h k n, tail, length_positions (s, e) (a ∷ A), length_positions a A)
  | no k ↦
      rw (
        grow_more a A s e (omega arith),
        rest,
        rows_cut a A (s, e),
        cuts_joined a A s e l (omega arith) n h_a,
        width_joined s e a.0 a.1 h n l (omega arith),
      )
      (omega arith)
]

rows_grow : (lo : ℕ) (A : List Interval) (s e : ℕ) → s < e → s ≤ lo → Apart lo A → rows_of (grow_of A s e) ≡ (e - s) + rows_of (cuts A (s, e))
unfolding grow_of cuts_of
rows_grow lo [] s e h l h_a = length_positions (s, e) []
rows_grow lo (a ∷ A) s e h l h_a =
    rows_grow_first a A s e h h_a.1 (omega arith) h_a.2
    (rows_grow (suc a.1) A (min s a.0) (max e a.1) (omega arith) (omega arith) h_a.2)

rows_cover_of : (lo : ℕ) (A : List Interval) (s e : ℕ) → s < e → Apart lo A → rows_of (cover_of A s e) ≡ (e - s) + rows_of (cuts A (s, e))
unfolding cover_of cuts_of
rows_cover_of lo [] s e h h_a = length_positions (s, e) []
rows_cover_of lo (a ∷ A) s e h h_a = elim (dec_lt a.1 s) [
  | yes k ↦
      rw (cover_skip a A s e k, cuts_skip a A s e h_a.1 (omega arith) h)
      (omega (arith, length_positions a (cover_of A s e), length_positions a (cuts A (s, e)), rows_cover_of (suc a.1) A s e h h_a.2))
  | no k ↦
      rw (cover_here a A s e (omega arith))
      (rows_grow_first a A s e h h_a.1 (omega arith) h_a.2
      (rows_grow (suc a.1) A (min s a.0) (max e a.1) (omega arith) (omega arith) h_a.2))
]

pub rows_cover : (A : List Interval) (s e : ℕ) → Canonical A → rows_of (cover A s e) ≡ (e - s) + rows_of (uncover A s e)
rows_cover A s e C = elim (dec_lt s e) [
  | yes h ↦ rw (cover_some A s e h, uncover_some A s e h) (rows_cover_of 0 A s e h C)
  | no h ↦ rw (cover_none A s e (omega arith), uncover_none A s e (omega arith)) (omega arith)
]

-- ---- the rows that are newly covered

-- those of a range that a list does not hold
abbrev pub newly : List Interval → ℕ → ℕ → List ℕ
newly A s e = keep (λ p. not (holds A p)) (count_up s (e - s))

inside_one : (x y : ℕ) → inside x (x + 1) y ≡ true → y ≡ x
inside_one x y h = elim (where_is x (x + 1) y) [
  | below k ↦ let z : ◌≡◌ {A = Bool} false true = sym (inside_below x (x + 1) y k) ∙ h in cc
  | in_it j k ↦ omega arith
  | past k ↦ let z : ◌≡◌ {A = Bool} false true = sym (inside_past x (x + 1) y k) ∙ h in cc
]

-- one row covered is one more, where it was not held
rows_one : (A : List Interval) (x : ℕ) → Canonical A → rows_of (cover A x (x + 1)) ≡ rows_of A + length (keep (λ p. not (holds A p)) (x ∷ []))
unfolding keep
rows_one A x C = go (holds A x) refl
  where
    go : (t : Bool) → holds A x ≡ t → rows_of (cover A x (x + 1)) ≡ rows_of A + length (keep (λ p. not (holds A p)) (x ∷ []))
    go true e = rw (cover_held A x (x + 1) C (λ y h. ap (holds A) (inside_one x y h) ∙ e), e) (omega arith)
    go false e =
        rw e (omega (arith, rows_cover A x (x + 1) C, ap rows_of (uncover_free A x (x + 1) C (λ y h. ap (holds A) (inside_one x y h) ∙ e))))

count_snoc : (s k : ℕ) → count_up s (suc k) ≡ count_up s k ++ (s + k) ∷ []
unfolding count_up
count_snoc s zero = let q : s + 0 ≡ s = omega arith in rw q
count_snoc s (suc k) = let q : s + suc k ≡ suc s + k = omega arith in rw (q, ← count_snoc (suc s) k)

-- a range of k + 1 rows is one of k, and its last row
cover_snoc : (A : List Interval) (s k : ℕ) → Canonical A → cover A s (s + suc k) ≡ cover (cover A s (s + k)) (s + k) (s + k + 1)
cover_snoc A s k C =
    let B = cover A s (s + k) in
    let h_b = cover_canonical A s (s + k) C in
    sym (cover_unique A s (s + suc k) C (cover B (s + k) (s + k + 1)) (cover_canonical B (s + k) (s + k + 1) h_b) (λ x.
    holds_cover B (s + k) (s + k + 1) x h_b ∙ rw (holds_cover A s (s + k) x C) (joined x)))
  where
    joined : (x : ℕ) → inside (s + k) (s + k + 1) x || (inside s (s + k) x || holds A x) ≡ inside s (s + suc k) x || holds A x
    joined x = elim (where_is s (s + suc k) x) [
      | below h ↦ rw (inside_below s (s + suc k) x h, inside_below (s + k) (s + k + 1) x (omega arith), inside_below s (s + k) x h)
      | in_it h l ↦ rw (inside_yes s (s + suc k) x h l) (elim (dec_lt x (s + k)) [
        | yes m ↦ rw (inside_below (s + k) (s + k + 1) x m, inside_yes s (s + k) x h m)
        | no m ↦ rw (inside_yes (s + k) (s + k + 1) x (omega arith) (omega arith))
      ])
      | past h ↦ rw (inside_past s (s + suc k) x h, inside_past (s + k) (s + k + 1) x (omega arith), inside_past s (s + k) x (omega arith))
    ]

rows_newly_of : (A : List Interval) (s k : ℕ) → Canonical A
    → rows_of (cover A s (s + k)) ≡ rows_of A + length (keep (λ p. not (holds A p)) (count_up s k))
unfolding count_up keep
rows_newly_of A s zero C = rw (cover_none A s (s + 0) (omega arith)) (omega arith)
rows_newly_of A s (suc k) C =
    let B = cover A s (s + k) in
    let h_b = cover_canonical A s (s + k) C in
    let free : ℕ → Bool = λ p. not (holds A p) in
    let same : holds B (s + k) ≡ holds A (s + k) = holds_cover A s (s + k) (s + k) C ∙ rw (inside_past s (s + k) (s + k) (omega arith)) in
    let one : rows_of (cover B (s + k) (s + k + 1)) ≡ rows_of B + length (keep free ((s + k) ∷ [])) = rw same at (rows_one B (s + k) h_b) in
    let parts : keep free (count_up s (suc k)) ≡ keep free (count_up s k) ++ keep free ((s + k) ∷ []) =
    ap (keep free) (count_snoc s k) ∙ keep_append free (count_up s k) ((s + k) ∷ []) in
    omega (
      arith,
      ap rows_of (cover_snoc A s k C),
      one,
      rows_newly_of A s k C,
      ap length parts,
      length-append (keep free (count_up s k)) (keep free ((s + k) ∷ [])),
    )

-- 02 §4.4: the total after covering: that before, and the rows newly covered
pub rows_newly : (A : List Interval) (s e : ℕ) → Canonical A → rows_of (cover A s e) ≡ rows_of A + length (newly A s e)
rows_newly A s e C = elim (dec_lt s e) [
  | yes h ↦ let q : s + (e - s) ≡ e = omega arith in rw q at (rows_newly_of A s (e - s) C)
  | no h ↦
      let q : e - s ≡ 0 = omega arith in
      rw (cover_none A s e (omega arith), q) (unfold count_up keep in omega arith)
]

-- ---- and those that uncovering takes away

-- those of a range that a list holds
abbrev pub already : List Interval → ℕ → ℕ → List ℕ
already A s e = keep (holds A) (count_up s (e - s))

-- 02 §4.4: the total before uncovering: that after, and the rows of the range that were held
pub rows_already : (A : List Interval) (s e : ℕ) → Canonical A → rows_of A ≡ rows_of (uncover A s e) + length (already A s e)
rows_already A s e C =
    omega (arith, rows_cover A s e C, rows_newly A s e C, keep_parts (holds A) (count_up s (e - s)), length_count s (e - s))
