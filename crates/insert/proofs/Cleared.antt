-- Items set to 0. Assumes nothing.
use Prim.Native.Nat.{ℕ, suc, ◌+◌, ◌-◌, ◌*◌, ◌/◌, ◌≤◌, ◌<◌, max}
use mathlib.Core.Path.{◌≡◌, sym, ◌∙◌}
use mathlib.Core.List.{List, ◌++◌}
use native.Mathlib.Omega.{arith}
use lib.ListN.{length, take, drop, replicate, take-append-drop, length-drop}
use lib.Seq.{drop-drop, length-take-le}
use borrow.Rule.Slice.PartMut.{put_mid}
use Rattle.query_item.specs.Items.{item_size, item_words, absent, flat}
use Rattle.insert.specs.Passes.{cleared}

-- the zeros of one item more are those of an item, and then the others
pub zeros_more : (k : ℕ) → replicate {A = ℕ} (item_size * suc k) 0 ≡ flat (item_words 0 0 absent absent) ++ replicate (item_size * k) 0
zeros_more k = let e : item_size * suc k ≡ suc (suc (suc (suc (suc (suc (item_size * k)))))) = omega arith in rw e

module _ (ws : List ℕ) (from to : ℕ) where
  abbrev a : ℕ
  a = item_size * from

  abbrev b : ℕ
  b = item_size * to

  pub cleared_some : from < to → to ≤ length ws / item_size → {zs : List ℕ} → zs ≡ replicate (length (take (b - a) (drop a ws))) 0
      → put_mid a (b - a) ws zs ≡ cleared ws from to
  unfolding cleared
  cleared_some h l e =
      let long : length (take (b - a) (drop a ws)) ≡ item_size * (to - from) = length-take-le (b - a) (drop a ws) (rw length-drop (omega arith)) ∙ omega arith in
      let past : a + (b - a) ≡ item_size * max to from = omega arith in
      rw (e, long, drop-drop, past)

  pub cleared_none : to ≤ from → ws ≡ cleared ws from to
  unfolding cleared
  cleared_none h =
      let e : to - from ≡ 0 = omega arith in
      let f : max to from ≡ from = omega arith in
      rw (e, f) (sym (take-append-drop a ws))
