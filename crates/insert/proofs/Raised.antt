-- Words moved up by an item's size. Assumes nothing.
use Prim.Native.Nat.{suc, ◌<◌}
use mathlib.Core.List.{[], ◌∷◌}
use lib.ListN.{get_or, set, length-set}
use lib.Seq.{slice_empty, take-suc, drop-cons, take-set-le, drop-set-lt, get_or-set_same}
use Prim.Native.Nat.{ℕ, ◌+◌, ◌-◌, ◌≤◌}
use mathlib.Core.Path.{◌≡◌, sym, ap, ◌∙◌}
use mathlib.Core.List.{List, ◌++◌, append_assoc}
use native.Mathlib.Omega.{arith}
use lib.ListN.{length, take, drop, take-append-drop, length-append, length-drop}
use lib.Seq.{slice, length-slice, take-take, take_at, take-append-le, drop_at, drop-append-le, length-take-le}
use Rattle.std.specs.List.{copy_within}
use Rattle.query_item.specs.Items.{item_size}
use Rattle.insert.specs.Passes.{raised}

module _ (ws : List ℕ) (a b : ℕ) (h : a ≤ b) (l : b + item_size ≤ length ws) where
  pub slice_is : slice a b ws ≡ take (b - a) (drop a ws)
  slice_is =
      let in_front : a ≤ length (take b ws) = rw (length-take-le b ws (omega arith)) h in
      let e : drop a ws ≡ slice a b ws ++ drop b ws = ap (λ (vs : List ℕ). drop a vs) (sym (take-append-drop b ws)) ∙ drop-append-le a (take b ws) (drop b ws) in_front in
      rw e (sym (take_at (slice a b ws) (drop b ws) (b - a) (length-slice a b ws (omega arith))))

  pub raised_is : copy_within ws a b (a + item_size) ≡ raised ws a b
  unfolding raised
  raised_is = let e : a + item_size + (b - a) ≡ b + item_size = omega arith in rw (e, slice_is, append_assoc)

  pub length_raised : length (raised ws a b) ≡ length ws
  unfolding raised
  length_raised = rw (length-append, length-append, length-take-le (a + item_size) ws (omega arith), length-slice a b ws (omega arith), length-drop) (omega arith)

  pub take_raised : take a (raised ws a b) ≡ take a ws
  unfolding raised
  take_raised =
      rw (take-append-le a (take (a + item_size) ws) (slice a b ws ++ drop (b + item_size) ws) (rw (length-take-le (a + item_size) ws (omega arith)) (omega arith)))
      (take-take a (a + item_size) ws (omega arith))

  pub drop_raised : drop (a + item_size) (raised ws a b) ≡ slice a b ws ++ drop (b + item_size) ws
  unfolding raised
  drop_raised = drop_at (take (a + item_size) ws) (slice a b ws ++ drop (b + item_size) ws) (a + item_size) (length-take-le (a + item_size) ws (omega arith))

slice_more : (ws : List ℕ) (a j : ℕ) → a ≤ j → j < length ws → slice a (suc j) ws ≡ slice a j ws ++ (get_or ws j 0 ∷ [])
slice_more ws a j h l =
    rw (take-suc ws j 0) (drop-append-le a (take j ws) (get_or ws j 0 ∷ []) (rw (length-take-le j ws (omega arith)) h))

-- as if the last word were moved first
pub raise_more : (ws : List ℕ) (a k : ℕ) → a < k → k + item_size ≤ length ws
    → raised ws a k ≡ raised (set ws (k - 1 + item_size) (get_or ws (k - 1) 0)) a (k - 1)
unfolding raised
raise_more ws a k h l =
    let j = k - 1 in
    let to = j + item_size in
    let v = get_or ws j 0 in
    let vs = set ws to v in
    let e : k ≡ suc j = omega arith in
    let f : k + item_size ≡ suc to = omega arith in
    let room : to < length vs = rw length-set (omega arith) in
    let past : drop to vs ≡ v ∷ drop (suc to) ws = drop-cons vs to 0 room ∙ rw (get_or-set_same ws to v 0 (omega arith), drop-set-lt (suc to) ws to v (omega arith)) in
    let more : slice a k ws ≡ slice a j ws ++ (v ∷ []) = ap (λ (n : ℕ). slice a n ws) e ∙ slice_more ws a j (omega arith) (omega arith) in
    rw (f, more, past, take-set-le (a + item_size) ws to v (omega arith), take-set-le j ws to v (omega arith), append_assoc)

pub raise_end : (ws : List ℕ) (a : ℕ) → raised ws a a ≡ ws
unfolding raised
raise_end ws a = rw slice_empty (take-append-drop (a + item_size) ws)
