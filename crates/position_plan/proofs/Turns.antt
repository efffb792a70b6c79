-- Our plan, a window at a time. M has the missing rows. Assumes nothing.
use Prim.Native.Nat.{ℕ, suc, ◌+◌, ◌-◌, ◌≤◌, ◌<◌}
use mathlib.Core.Path.{◌≡◌, refl, sym, ap, ◌∙◌}
use mathlib.Core.Logic.{◌⊎◌, inl, inr}
use mathlib.Core.Bool.{Bool, true, false, ◌&&◌, and-false, false≢true, true≢false}
use mathlib.Core.List.{List, [], ◌∷◌}
use native.Mathlib.Decide.{dec_lt, ℕ_discrete}
use native.Mathlib.Omega.{arith}
use lib.ListN.{length}
use lib.Dec.{leb, ltb}
use borrow.Author.Tests.{lt-ltb, le-ltb, le-leb, lt-leb, leb-true}
use Rattle.intervals.specs.Lists.{keep}
use Rattle.key_order.proofs.Bools.{both_true}
use Rattle.position_given.specs.Positions.{is_in}
use Rattle.position_given.specs.Inner.{Ascends}
use Rattle.position_given.proofs.Positions.{in_keep, in_head, in_tail, in_later, keep_same, keep_keep, keep_none, keep_all}
use Rattle.position_given.proofs.Positions.{ascends_keep, ascends_raise, ascends_member, ascends_unique}
use Rattle.position_plan.specs.Plans.{plan_from, plan}
use Rattle.position_plan.specs.Inner.{left_from}

-- ---- the rows that are left

module _ (M : List ℕ) (A : Ascends 0 M) where
  in_left : (x p : ℕ) → is_in (left_from x M) p ≡ is_in M p && leb x p
  unfolding left_from
  in_left x p = in_keep (leb x) M p

  pub left_ascends : (x : ℕ) → Ascends x (left_from x M)
  left_ascends x = ascends_raise 0 x (left_from x M) (unfold left_from in ascends_keep 0 (leb x) M A) (λ p e. leb-true x p (both_true (is_in M p) (leb x p) (sym (in_left x p) ∙ e)).1)

  pub left_all : left_from 0 M ≡ M
  left_all = unfold left_from in keep_all (leb 0) M (λ p e. le-leb 0 p (omega arith))

  pub left_none : (x : ℕ) → ((p : ℕ) → x ≤ p → is_in M p ≡ false) → left_from x M ≡ []
  unfolding left_from
  left_none x h = keep_none (leb x) M (λ p e. elim (dec_lt p x) [
    | yes k ↦ lt-leb x p k
    | no k ↦ absurd (true≢false (sym e ∙ h p (omega arith)))
  ])

  -- no row from x on, below y, is missing
  pub left_skip : (x y : ℕ) → x ≤ y → ((p : ℕ) → x ≤ p → p < y → is_in M p ≡ false) → left_from x M ≡ left_from y M
  left_skip x y l h =
      ascends_unique x y (left_from x M) (left_from y M) (left_ascends x) (left_ascends y) (λ p. in_left x p ∙ same p ∙ sym (in_left y p))
    where
      same : (p : ℕ) → is_in M p && leb x p ≡ is_in M p && leb y p
      same p = elim (dec_lt p x) [
        | yes a ↦ rw (lt-leb x p a, lt-leb y p (omega arith))
        | no a ↦ elim (dec_lt p y) [
          | yes b ↦ rw (h p (omega arith) b)
          | no b ↦ rw (le-leb x p (omega arith), le-leb y p (omega arith))
        ]
      ]

  -- the missing row s is the first of those from it on
  pub left_first : (s : ℕ) → is_in M s ≡ true → left_from s M ≡ s ∷ left_from (suc s) M
  left_first s h =
      ascends_unique s s (left_from s M) (s ∷ left_from (suc s) M) (left_ascends s) (omega arith, left_ascends (suc s)) (λ p. in_left s p ∙ same p)
    where
      same : (p : ℕ) → is_in M p && leb s p ≡ is_in (s ∷ left_from (suc s) M) p
      same p = elim (ℕ_discrete p s) [
        | yes e ↦ rw (e, h, le-leb s s (omega arith)) (sym (in_head s (left_from (suc s) M)))
        | no e ↦ sym (in_tail s p (left_from (suc s) M) e ∙ in_left (suc s) p ∙ ap (λ (t : Bool). is_in M p && t) (next p e))
      ]
        where
          next : (p : ℕ) → (p ≡ s → ⊥) → leb (suc s) p ≡ leb s p
          next p e = elim (dec_lt p s) [
            | yes l ↦ rw (lt-leb s p l, lt-leb (suc s) p (omega arith))
            | no l ↦
                let up : suc s ≤ p = elim (dec_lt s p) [ yes u ↦ u | no u ↦ absurd (e (omega arith)) ] in
                rw (le-leb s p (omega arith), le-leb (suc s) p up)
          ]

  -- of those past row s, the ones past the reach of a window that opens there
  pub past_reach : (W s : ℕ) → 0 < W → keep (leb (s + W)) (left_from (suc s) M) ≡ left_from (s + W) M
  unfolding left_from
  past_reach W s w = keep_keep (leb (s + W)) (leb (suc s)) M ∙ keep_same (λ p. leb (suc s) p && leb (s + W) p) (leb (s + W)) M (λ p v. beyond p)
    where
      beyond : (p : ℕ) → leb (suc s) p && leb (s + W) p ≡ leb (s + W) p
      beyond p = elim (dec_lt p (s + W)) [
        | yes u ↦ rw (lt-leb (s + W) p u, and-false)
        | no u ↦ rw (le-leb (s + W) p (omega arith), le-leb (suc s) p (omega arith))
      ]

-- ---- a window by itself

-- the last number of a list, or d where it has none
abbrev pub last_of : ℕ → List ℕ → ℕ
last_of d [] = d
last_of d (p ∷ L) = last_of p L

-- all of a list from x on is kept, and nothing of it is below x
module _ (x lo : ℕ) (h : x ≤ lo) where
  kept : (L : List ℕ) → Ascends lo L → keep (leb x) L ≡ L
  kept L a = keep_all (leb x) L (λ p e. le-leb x p (omega (arith, ascends_member lo L p a e)))

  left_out : (L : List ℕ) → Ascends lo L → keep (λ q. ltb q x) L ≡ []
  left_out L a = keep_none (λ q. ltb q x) L (λ p e. le-ltb p x (omega (arith, ascends_member lo L p a e)))

-- the window that is open at s, and has the rows up to d, ends behind the last missing row within W; the others are planned by themselves
window_from : (W s d lo : ℕ) (L : List ℕ) → Ascends lo L
    → plan_from W s (suc d) L ≡ (s, suc (last_of d (keep (λ q. ltb q (s + W)) L))) ∷ plan W (keep (leb (s + W)) L)
unfolding plan_from plan keep
window_from W s d lo [] a = refl
window_from W s d lo (p ∷ L) a = elim (dec_lt p (s + W)) [
  | yes h ↦ rw (lt-ltb p (s + W) h, lt-leb (s + W) p h) (window_from W s p (suc p) L a.1)
  | no h ↦ rw (le-ltb p (s + W) (omega arith), le-leb (s + W) p (omega arith), left_out (s + W) (suc p) (omega arith) L a.1, kept (s + W) (suc p) (omega arith) L a.1)
]

some_window : (W s e : ℕ) (L : List ℕ) → 0 < length (plan_from W s e L)
unfolding plan_from
some_window W s e [] = omega arith
some_window W s e (p ∷ L) = elim (dec_lt p (s + W)) [
  | yes k ↦ rw (lt-ltb p (s + W) k) (some_window W s (suc p) L)
  | no k ↦ rw (le-ltb p (s + W) (omega arith)) (omega arith)
]

-- where a row is missing there is a window
pub planned_one : (W p : ℕ) (M : List ℕ) → 0 < length (plan W (p ∷ M))
unfolding plan
planned_one W p M = some_window W p (suc p) M

-- 02 §9.7: our planner opens a window at the first missing row p, and closes it at the last one within W; it goes on with those past its reach
pub plan_window : (W p lo : ℕ) (M : List ℕ) → Ascends lo (p ∷ M)
    → plan W (p ∷ M) ≡ (p, suc (last_of p (keep (λ q. ltb q (p + W)) M))) ∷ plan W (keep (leb (p + W)) M)
unfolding plan
plan_window W p lo M a = window_from W p p (suc p) M a.1

-- the last number of an ascending list that has none above it
last_is : (d z : ℕ) (L : List ℕ) → Ascends (suc d) L → (z ≡ d) ⊎ (is_in L z ≡ true) → ((p : ℕ) → is_in L p ≡ true → p ≤ z) → last_of d L ≡ z
last_is d z [] a (inl e) h = omega arith
last_is d z [] a (inr e) h = absurd (false≢true (unfold is_in in e))
last_is d z (p ∷ L) a (inl e) h = absurd (omega (arith, a.0, h p (in_head p L)))
last_is d z (p ∷ L) a (inr e) h = last_is p z L a.1 next (λ q k. h q (in_later p q L k))
  where
    next : (z ≡ p) ⊎ (is_in L z ≡ true)
    next = elim (ℕ_discrete z p) [ yes q ↦ inl q | no q ↦ inr (sym (in_tail p z L q) ∙ e) ]

-- ---- turns

module _ (W : ℕ) (M : List ℕ) (A : Ascends 0 M) where
  -- nothing is missing from x on
  pub plan_none : (x : ℕ) → ((p : ℕ) → x ≤ p → is_in M p ≡ false) → plan W (left_from x M) ≡ []
  unfolding plan
  plan_none x h = rw (left_none M A x h)

  -- the next window opens at the first missing row past the reach of this one
  pub plan_next : (s : ℕ) → 0 < W → is_in M s ≡ true → length (plan W (left_from s M)) ≡ suc (length (plan W (left_from (s + W) M)))
  plan_next s w h =
      ap (λ (L : List ℕ). length (plan W L)) (left_first M A s h)
      ∙ ap length (plan_window W s 0 (left_from (suc s) M) (omega arith, left_ascends M A (suc s)))
      ∙ ap (λ (L : List ℕ). suc (length (plan W L))) (past_reach M A W s w)

  -- the window that opens at the missing row s ends behind the last missing row within W, before e; the next opens past its reach
  pub plan_close : (s e : ℕ) → is_in M s ≡ true → s < e → e ≤ s + W → is_in M (e - 1) ≡ true → ((p : ℕ) → e ≤ p → p < s + W → is_in M p ≡ false)
      → plan W (left_from s M) ≡ (s, e) ∷ plan W (left_from (s + W) M)
  plan_close s e h l n d none =
      let K : List ℕ = keep (λ q. ltb q (s + W)) (left_from (suc s) M) in
      let up : Ascends (suc s) (left_from (suc s) M) = left_ascends M A (suc s) in
      let end : suc (last_of s K) ≡ e = omega (arith, last_is s (e - 1) K (ascends_keep (suc s) (λ q. ltb q (s + W)) (left_from (suc s) M) up) there (λ p k. most p k)) in
      ap (plan W) (left_first M A s h) ∙ plan_window W s 0 (left_from (suc s) M) (omega arith, up)
      ∙ ap (λ (k : ℕ). (s, k) ∷ plan W (keep (leb (s + W)) (left_from (suc s) M))) end
      ∙ ap (λ (L : List ℕ). (s, e) ∷ plan W L) (past_reach M A W s (omega arith))
    where
      in_K : (p : ℕ) → is_in (keep (λ q. ltb q (s + W)) (left_from (suc s) M)) p ≡ (is_in M p && leb (suc s) p) && ltb p (s + W)
      in_K p = in_keep (λ q. ltb q (s + W)) (left_from (suc s) M) p ∙ ap (λ (t : Bool). t && ltb p (s + W)) (in_left M A (suc s) p)

      there : (e - 1 ≡ s) ⊎ (is_in (keep (λ q. ltb q (s + W)) (left_from (suc s) M)) (e - 1) ≡ true)
      there = elim (dec_lt s (e - 1)) [
        | yes k ↦ inr (in_K (e - 1) ∙ rw (d, le-leb (suc s) (e - 1) k, lt-ltb (e - 1) (s + W) (omega arith)))
        | no k ↦ inl (omega arith)
      ]

      most : (p : ℕ) → is_in (keep (λ q. ltb q (s + W)) (left_from (suc s) M)) p ≡ true → p ≤ e - 1
      most p k = elim (dec_lt p e) [
        | yes u ↦ omega arith
        | no u ↦ absurd (false≢true (sym (off p (omega arith)) ∙ sym (in_K p) ∙ k))
      ]
        where
          off : (p : ℕ) → e ≤ p → (is_in M p && leb (suc s) p) && ltb p (s + W) ≡ false
          off p u = elim (dec_lt p (s + W)) [
            | yes v ↦ rw (none p u v)
            | no v ↦ rw (le-ltb p (s + W) (omega arith), and-false)
          ]
