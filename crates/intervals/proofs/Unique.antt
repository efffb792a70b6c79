-- Two canonical lists that hold the same are the same list: their heads start and end alike, and their tails hold the same.
-- Assumes nothing.
use Prim.Native.Nat.{ℕ, suc, ◌≤◌, ◌<◌}
use mathlib.Core.Path.{◌≡◌, refl, sym, ◌∙◌}
use mathlib.Core.Bool.{true, false, false≢true, true≢false}
use mathlib.Core.List.{List, [], ◌∷◌}
use native.Mathlib.Decide.{dec_lt}
use native.Mathlib.Omega.{arith}
use Rattle.intervals.specs.Intervals.{Interval, Apart, holds}
use Rattle.intervals.proofs.Members.{inside_yes, inside_below, inside_past}

abbrev Same : List Interval → List Interval → Type 0
Same L M = (x : ℕ) → holds L x ≡ holds M x

-- ---- what a list holds of its first interval, past it, and below its start

pub holds_head : (a : Interval) (A : List Interval) (x : ℕ) → a.0 ≤ x → x < a.1 → holds (a ∷ A) x ≡ true
unfolding holds
holds_head a A x h k = rw (inside_yes a.0 a.1 x h k)

pub holds_tail : (a : Interval) (A : List Interval) (x : ℕ) → a.1 ≤ x → holds (a ∷ A) x ≡ holds A x
unfolding holds
holds_tail a A x h = rw (inside_past a.0 a.1 x h)

pub holds_below : (lo : ℕ) (A : List Interval) (x : ℕ) → Apart lo A → x < lo → holds A x ≡ false
unfolding holds
holds_below lo [] x h_a h = refl
holds_below lo (a ∷ A) x h_a h =
    rw (inside_below a.0 a.1 x (omega arith)) (holds_below (suc a.1) A x h_a.2 (omega arith))

-- the number that ends the first interval is in none
pub holds_gap : (a : Interval) (A : List Interval) → Apart (suc a.1) A → holds (a ∷ A) a.1 ≡ false
holds_gap a A h_a = holds_tail a A a.1 (omega arith) ∙ holds_below (suc a.1) A a.1 h_a (omega arith)

-- ---- heads and tails of two lists that hold the same

start_le : (a b : Interval) (L M : List Interval) → a.0 < a.1 → b.0 < b.1 → Apart (suc b.1) M → Same (a ∷ L) (b ∷ M)
    → b.0 ≤ a.0
start_le a b L M ha hb h_m same = elim (dec_lt a.0 b.0) [
  | yes h ↦
      let out : holds (b ∷ M) a.0 ≡ false = holds_below b.0 (b ∷ M) a.0 (omega arith, hb, h_m) h in
      absurd (true≢false (sym (holds_head a L a.0 (omega arith) ha) ∙ same a.0 ∙ out))
  | no h ↦ omega arith
]

end_le : (a b : Interval) (L M : List Interval) → a.0 ≡ b.0 → a.0 < a.1 → Apart (suc a.1) L → Same (a ∷ L) (b ∷ M)
    → b.1 ≤ a.1
end_le a b L M e ha h_l same = elim (dec_lt a.1 b.1) [
  | yes h ↦ absurd (true≢false (sym (holds_head b M a.1 (omega arith) h) ∙ sym (same a.1) ∙ holds_gap a L h_l))
  | no h ↦ omega arith
]

tails : (a b : Interval) (L M : List Interval) → a.1 ≡ b.1 → Apart (suc a.1) L → Apart (suc b.1) M
    → Same (a ∷ L) (b ∷ M) → Same L M
tails a b L M e h_l h_m same x = elim (dec_lt x (suc a.1)) [
  | yes h ↦ holds_below (suc a.1) L x h_l h ∙ sym (holds_below (suc b.1) M x h_m (omega arith))
  | no h ↦ sym (holds_tail a L x (omega arith)) ∙ same x ∙ holds_tail b M x (omega arith)
]

pub apart_unique : (lo lo' : ℕ) (L M : List Interval) → Apart lo L → Apart lo' M → ((x : ℕ) → holds L x ≡ holds M x) → L ≡ M
unfolding holds
apart_unique lo lo' [] [] h_l h_m same = refl
apart_unique lo lo' [] (b ∷ M) h_l h_m same = absurd (false≢true (same b.0 ∙ holds_head b M b.0 (omega arith) h_m.1))
apart_unique lo lo' (a ∷ L) [] h_l h_m same =
    absurd (false≢true (sym (same a.0) ∙ holds_head a L a.0 (omega arith) h_l.1))
apart_unique lo lo' (a ∷ L) (b ∷ M) h_l h_m same =
    let p : b.0 ≤ a.0 = start_le a b L M h_l.1 h_m.1 h_m.2 same in
    let q : a.0 ≤ b.0 = start_le b a M L h_m.1 h_l.1 h_l.2 (λ x. sym (same x)) in
    let s : a.0 ≡ b.0 = omega arith in
    let t : b.1 ≤ a.1 = end_le a b L M s h_l.1 h_l.2 same in
    let u : a.1 ≤ b.1 = end_le b a M L (sym s) h_m.1 h_m.2 (λ x. sym (same x)) in
    let e : a.1 ≡ b.1 = omega arith in
    let r : L ≡ M = apart_unique (suc a.1) (suc b.1) L M h_l.2 h_m.2 (tails a b L M e h_l.2 h_m.2 same) in
    λ i. (s i, e i) ∷ r i
