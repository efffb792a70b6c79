-- Each law that a caller cites, in the order of specs/. Those over things of any type, and those of pieces and of `++`, are
-- stated in the files that the `pub use` lines name, and passed on. No contract cites this file. Assumes nothing.
use Prim.Native.Nat.{ℕ, suc, ◌≤◌, ◌<◌}
use mathlib.Core.Path.{◌≡◌, refl, sym, ◌∙◌}
use mathlib.Core.Bool.{Bool, true, false, ◌&&◌, ◌||◌, not, true≢false, and-true, and-or_distrib_right}
use mathlib.Core.List.{List, [], ◌∷◌}
use native.Mathlib.Decide.{dec_lt}
use native.Mathlib.Omega.{arith}
use lib.ListN.{length}
use Rattle.intervals.specs.Lists.{shared_of, without_of}
use Rattle.intervals.specs.Intervals.{Interval, Canonical, inside, holds, piece, without}
use Rattle.intervals.proofs.Model.{Above, Strict, shared}
use Rattle.intervals.specs.Cover.{cover, cover_all, uncover}
use Rattle.intervals.proofs.Pieces.{meets, cuts}
use Rattle.intervals.proofs.Ordered.{apart→above, shared_above, without_above}
use Rattle.intervals.proofs.Algebra.{meets_shared, shared_cons, without_cuts}
use Rattle.intervals.proofs.Members.{holds_meets, holds_cuts, and_nor, below, in_it, past, where_is, inside_below, inside_past}
use Rattle.intervals.proofs.Unique.{apart_unique}
use Rattle.intervals.proofs.Fewest.{apart_fewest}
use Rattle.intervals.proofs.Covers.{holds_cover_of, cover_of_apart, length_cover_of}
use Rattle.intervals.proofs.Uncovers.{cuts_apart, length_cuts}
pub use Rattle.intervals.proofs.Lists.{meets_append, shared_append, shared_nil}
pub use Rattle.intervals.proofs.Lists.{cuts_append, without_append, without_nil}
pub use Rattle.intervals.proofs.Lists.{All, all_append, all_of, all_shared, all_without, map_shared, map_without}
pub use Rattle.intervals.proofs.Reordered.{reordered_two, reordered_by, length_reordered, all_reordered}
pub use Rattle.intervals.proofs.Kept.{Dropped, keep_append, map_keep, keep_parts, all_keep, keep_passes, keep_shared, keep_shared_second, keep_without}
unfoldable pub use Rattle.intervals.proofs.Sweeps.{sweep_from, sweep_of, strip_from, strip_of}
pub use Rattle.intervals.proofs.Sweeps.{AboveOf, BelowOf, Spanned, Meeting, Cutting}
pub use Rattle.intervals.proofs.Sweeps.{sweep_first, sweep_second, sweep_nil, sweep_is_shared, sweep_skip}
pub use Rattle.intervals.proofs.Sweeps.{strip_first, strip_second, strip_nil, strip_is_without, strip_skip, above_le}
pub use Rattle.intervals.proofs.Ordered.{apart_weaken}
pub use Rattle.intervals.proofs.Pieces.{piece_some, piece_none}
pub use Rattle.intervals.proofs.Members.{holds_append, holds_piece}
pub use Rattle.intervals.proofs.Unique.{holds_below}
pub use Rattle.intervals.proofs.Uncovers.{uncover_some, uncover_none, length_piece, piece_one, cuts_skip, cuts_above, cuts_open, cuts_gone, cuts_past, cuts_last}
pub use Rattle.intervals.proofs.Covers.{grow_stop, grow_more, cover_skip, cover_here, cover_some, cover_none}

-- ---- strict and canonical lists

pub canonical→strict : (A : List Interval) → Canonical A → Strict A
canonical→strict A = apart→above 0 A

-- 02 §14.2: of the canonical lists that hold the same there is one
pub canonical_unique : (A B : List Interval) → Canonical A → Canonical B → ((x : ℕ) → holds A x ≡ holds B x) → A ≡ B
canonical_unique A B = apart_unique 0 0 A B

-- 02 §14.1, reading B25: no list of intervals, in any order, overlapping or not, empty ones among them, that holds the same is shorter
pub canonical_fewest : (A B : List Interval) → Canonical A → ((x : ℕ) → holds B x ≡ holds A x) → length A ≤ length B
canonical_fewest A B h_a same = apart_fewest 0 A B h_a (λ x y l m h. same x)

-- 02 §14.1: nor one that holds the same below n and anything past it, where the canonical one holds nothing from n on
pub canonical_fewest_below : (n : ℕ) (A B : List Interval) → Canonical A → ((x : ℕ) → n ≤ x → holds A x ≡ false)
    → ((x : ℕ) → x < n → holds B x ≡ holds A x) → length A ≤ length B
canonical_fewest_below n A B h_a none same = apart_fewest 0 A B h_a (λ x y l m h. elim (dec_lt y n) [
  | yes k ↦ same x (omega arith)
  | no k ↦ absurd (true≢false (sym h ∙ none y (omega arith)))
])

-- ---- what two lists share

pub shared_strict : (A B : List Interval) → Strict A → Strict B → Strict (shared A B)
shared_strict A B = shared_above 0 0 A B

pub holds_shared : (A B : List Interval) (x : ℕ) → holds (shared A B) x ≡ holds A x && holds B x
unfolding holds shared_of
holds_shared [] B x = refl
holds_shared (a ∷ A) B x = rw (
  holds_append (meets a B) (shared A B) x,
  holds_meets a B x,
  holds_shared A B x,
  and-or_distrib_right (inside a.0 a.1 x) (holds A x) (holds B x),
)

pub shared_comm : (A B : List Interval) → Strict A → Strict B → shared A B ≡ shared B A
unfolding shared_of
shared_comm A B h_a h_b = go 0 A h_a
  where
    go : (lo : ℕ) (A : List Interval) → Above lo A → shared A B ≡ shared B A
    go lo [] h_a = sym (shared_nil _ B)
    go lo (a ∷ A) h_a = rw (go a.1 A h_a.2) (sym (shared_cons lo 0 a A B h_a h_b))

pub shared_assoc : (A B C : List Interval) → shared (shared A B) C ≡ shared A (shared B C)
unfolding shared_of
shared_assoc [] B C = refl
shared_assoc (a ∷ A) B C = rw (shared_append _ (meets a B) (shared A B) C, shared_assoc A B C, meets_shared a B C)

-- ---- what a list keeps without another

pub without_strict : (A B : List Interval) → Strict A → Strict B → Strict (without A B)
without_strict A B = without_above 0 0 A B

pub holds_without : (A B : List Interval) (x : ℕ) → holds (without A B) x ≡ holds A x && not (holds B x)
unfolding holds without_of
holds_without A [] x = sym (and-true (holds A x))
holds_without A (b ∷ B) x = rw (
  holds_without (cuts A b) B x,
  holds_cuts A b x,
  and_nor (holds A x) (inside b.0 b.1 x) (holds B x),
)

-- what is taken away may be taken away in either order
pub without_swap : (A B C : List Interval) → Strict B → Strict C → without (without A B) C ≡ without (without A C) B
unfolding without_of
without_swap A B C h_b h_c = go 0 A C h_c
  where
    go : (lo : ℕ) (A C : List Interval) → Above lo C → without (without A B) C ≡ without (without A C) B
    go lo A [] h_c = refl
    go lo A (c ∷ C) h_c = rw (← without_cuts 0 A B c h_b h_c.1) (go c.1 (cuts A c) C h_c.2)

-- ---- one more range covered

pub cover_canonical : (A : List Interval) (s e : ℕ) → Canonical A → Canonical (cover A s e)
cover_canonical A s e h_a = elim (dec_lt s e) [
  | yes h ↦ rw (cover_some A s e h) (cover_of_apart 0 A s e (omega arith) h h_a)
  | no h ↦ rw (cover_none A s e (omega arith)) h_a
]

-- what was held or lies in the range, and no more
pub holds_cover : (A : List Interval) (s e x : ℕ) → Canonical A → holds (cover A s e) x ≡ inside s e x || holds A x
holds_cover A s e x h_a = elim (dec_lt s e) [
  | yes h ↦ rw (cover_some A s e h) (holds_cover_of 0 A s e x h h_a)
  | no h ↦ rw (cover_none A s e (omega arith)) (elim (where_is s e x) [
    | below k ↦ rw (inside_below s e x k)
    | in_it j k ↦ absurd (omega arith)
    | past k ↦ rw (inside_past s e x k)
  ])
]

-- no more than one interval more
pub length_cover : (A : List Interval) (s e : ℕ) → length (cover A s e) ≤ suc (length A)
length_cover A s e = elim (dec_lt s e) [
  | yes h ↦ rw (cover_some A s e h) (length_cover_of A s e)
  | no h ↦ rw (cover_none A s e (omega arith)) (omega arith)
]

-- ---- ranges in any order covered one after another: canonical, and what they hold

pub cover_all_canonical : (A : List Interval) → Canonical (cover_all A)
unfolding cover_all
cover_all_canonical [] = tt
cover_all_canonical (a ∷ A) = cover_canonical (cover_all A) a.0 a.1 (cover_all_canonical A)

pub holds_cover_all : (A : List Interval) (x : ℕ) → holds (cover_all A) x ≡ holds A x
unfolding cover_all holds
holds_cover_all [] x = refl
holds_cover_all (a ∷ A) x = rw (holds_cover (cover_all A) a.0 a.1 x (cover_all_canonical A), holds_cover_all A x)

-- a canonical list that holds the same is this one
pub cover_all_unique : (A B : List Interval) → Canonical B → ((x : ℕ) → holds B x ≡ holds A x) → B ≡ cover_all A
cover_all_unique A B h_b same =
    canonical_unique B (cover_all A) h_b (cover_all_canonical A) (λ x. same x ∙ sym (holds_cover_all A x))

-- ---- one range uncovered

pub uncover_canonical : (A : List Interval) (s e : ℕ) → Canonical A → Canonical (uncover A s e)
uncover_canonical A s e h_a = elim (dec_lt s e) [
  | yes h ↦ rw (uncover_some A s e h) (cuts_apart 0 A (s, e) h h_a)
  | no h ↦ rw (uncover_none A s e (omega arith)) h_a
]

-- what was held and does not lie in the range, and no more
pub holds_uncover : (A : List Interval) (s e x : ℕ) → holds (uncover A s e) x ≡ holds A x && not (inside s e x)
unfolding uncover
holds_uncover A s e x = rw (holds_without A (piece s e) x, holds_piece s e x)

-- no more than one interval more
pub length_uncover : (A : List Interval) (s e : ℕ) → Canonical A → length (uncover A s e) ≤ suc (length A)
length_uncover A s e h_a = elim (dec_lt s e) [
  | yes h ↦ rw (uncover_some A s e h) (length_cuts 0 A s e h h_a)
  | no h ↦ rw (uncover_none A s e (omega arith)) (omega arith)
]

-- ---- what the two make of a canonical list: there is one canonical list of what is to be held

module _ (A : List Interval) (s e : ℕ) (h_a : Canonical A) where
  -- 02 §4.2: the canonical list that holds exactly what was held or lies in the range
  pub cover_unique : (B : List Interval) → Canonical B → ((x : ℕ) → holds B x ≡ inside s e x || holds A x) → B ≡ cover A s e
  cover_unique B h_b same = canonical_unique B (cover A s e) h_b (cover_canonical A s e h_a) (λ x. same x ∙ sym (holds_cover A s e x h_a))

  -- 02 §4.3: the canonical list that holds exactly what was held and does not lie in the range
  pub uncover_unique : (B : List Interval) → Canonical B → ((x : ℕ) → holds B x ≡ holds A x && not (inside s e x)) → B ≡ uncover A s e
  uncover_unique B h_b same = canonical_unique B (uncover A s e) h_b (uncover_canonical A s e h_a) (λ x. same x ∙ sym (holds_uncover A s e x))

  -- to cover again what is covered changes nothing
  pub cover_held : ((x : ℕ) → inside s e x ≡ true → holds A x ≡ true) → cover A s e ≡ A
  cover_held held = sym (cover_unique A h_a (λ x. go (inside s e x) (holds A x) (held x)))
    where
      go : (t u : Bool) → (t ≡ true → u ≡ true) → u ≡ t || u
      go true u h = h refl
      go false u h = refl

  -- to uncover what is not covered changes nothing
  pub uncover_free : ((x : ℕ) → inside s e x ≡ true → holds A x ≡ false) → uncover A s e ≡ A
  uncover_free free = sym (uncover_unique A h_a (λ x. go (inside s e x) (holds A x) (free x)))
    where
      go : (t u : Bool) → (t ≡ true → u ≡ false) → u ≡ u && not t
      go true true h = h refl
      go true false h = refl
      go false u h = sym (and-true u)

  pub cover_again : cover (cover A s e) s e ≡ cover A s e
  cover_again = sym (canonical_unique (cover A s e) (cover (cover A s e) s e) (cover_canonical A s e h_a)
      (cover_canonical (cover A s e) s e (cover_canonical A s e h_a)) same)
    where
      twice : (t u : Bool) → t || u ≡ t || (t || u)
      twice true u = refl
      twice false u = refl

      same : (x : ℕ) → holds (cover A s e) x ≡ holds (cover (cover A s e) s e) x
      same x = rw (holds_cover (cover A s e) s e x (cover_canonical A s e h_a), holds_cover A s e x h_a) (twice (inside s e x) (holds A x))

  pub cover_swap : (t f : ℕ) → cover (cover A s e) t f ≡ cover (cover A t f) s e
  cover_swap t f = canonical_unique (cover (cover A s e) t f) (cover (cover A t f) s e)
      (cover_canonical (cover A s e) t f (cover_canonical A s e h_a)) (cover_canonical (cover A t f) s e (cover_canonical A t f h_a)) same
    where
      swap : (p q r : Bool) → p || (q || r) ≡ q || (p || r)
      swap true true r = refl
      swap true false r = refl
      swap false q r = refl

      same : (x : ℕ) → holds (cover (cover A s e) t f) x ≡ holds (cover (cover A t f) s e) x
      same x = rw (
        holds_cover (cover A s e) t f x (cover_canonical A s e h_a),
        holds_cover (cover A t f) s e x (cover_canonical A t f h_a),
        holds_cover A s e x h_a,
        holds_cover A t f x h_a,
      ) (swap (inside t f x) (inside s e x) (holds A x))

  -- to uncover what was covered just now gives back a list that held none of it
  pub uncover_covered : ((x : ℕ) → inside s e x ≡ true → holds A x ≡ false) → uncover (cover A s e) s e ≡ A
  uncover_covered free = canonical_unique (uncover (cover A s e) s e) A
      (uncover_canonical (cover A s e) s e (cover_canonical A s e h_a)) h_a same
    where
      go : (t u : Bool) → (t ≡ true → u ≡ false) → (t || u) && not t ≡ u
      go true true h = sym (h refl)
      go true false h = refl
      go false u h = and-true u

      same : (x : ℕ) → holds (uncover (cover A s e) s e) x ≡ holds A x
      same x = rw (holds_uncover (cover A s e) s e x, holds_cover A s e x h_a) (go (inside s e x) (holds A x) (free x))
