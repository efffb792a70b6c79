-- Rows stored one after another: storing what is left gives what storing the whole gives. Assumes nothing.
use Prim.Native.Nat.{ℕ, suc, ◌+◌, ◌*◌, ◌-◌, ◌≤◌, ◌<◌}
use mathlib.Core.Path.{◌≡◌, sym, ap, ◌∙◌}
use mathlib.Core.List.{List, [], ◌++◌}
use native.Mathlib.Numerals.{add-one}
use native.Mathlib.Omega.{arith}
use lib.ListN.{length, length-append}
use Rattle.query_item.specs.Items.{item_at, items_from}
use Rattle.lent_text.specs.Text.{stored}
use Rattle.lent_text.proofs.Laws.{stored_append, stored_none}
use Rattle.sheet_row.specs.Lanes.{lane_at, row_text, sheet_text}
use Rattle.sheet_write.specs.Writing.{items_text}

rest_turn : (pool ws : List ℕ) (i count : ℕ) → i < count
    → items_text pool (items_from ws i (count - i)) ≡ row_text (lane_at pool (item_at ws i)) ++ items_text pool (items_from ws (i + 1) (count - (i + 1)))
unfolding items_from sheet_text
rest_turn pool ws i count h = let k : count - i ≡ suc (count - (i + 1)) = omega arith in rw (k, add-one i)

rest_none : (pool ws : List ℕ) (i count : ℕ) → count ≤ i → items_text pool (items_from ws i (count - i)) ≡ []
unfolding items_from sheet_text
rest_none pool ws i count h = let k : count - i ≡ 0 = omega arith in rw k

pub record Writes (pool ws : List ℕ) (count : ℕ) (out₀ out : List ℕ) (at i : ℕ) : Type 0 where
  pub few : at ≤ i * 17179869300
  pub long : at + length (items_text pool (items_from ws i (count - i))) ≡ length (items_text pool (items_from ws 0 count))
  pub bytes : stored out at (items_text pool (items_from ws i (count - i))) ≡ stored out₀ 0 (items_text pool (items_from ws 0 count))

module _ {pool ws : List ℕ} {count : ℕ} {out₀ out : List ℕ} {at i : ℕ} (v : Writes pool ws count out₀ out at i) where
  pub writes_end : count ≤ i
      → (at ≡ length (items_text pool (items_from ws 0 count))) × (out ≡ stored out₀ 0 (items_text pool (items_from ws 0 count)))
  writes_end h =
      let none = rest_none pool ws i count h in
      (omega (arith, v.long, ap length none), rw (none, stored_none out at) at v.bytes)

  pub writes_more : {out' : List ℕ} {n : ℕ} → i < count → n ≡ length (row_text (lane_at pool (item_at ws i)))
      → out' ≡ stored out at (row_text (lane_at pool (item_at ws i))) → n ≤ 17179869300 → Writes pool ws count out₀ out' (at + n) (i + 1)
  writes_more {out'} {n} h en eo small =
      let R = row_text (lane_at pool (item_at ws i)) in
      let S = items_text pool (items_from ws (i + 1) (count - (i + 1))) in
      let turn = rest_turn pool ws i count h in
      record {
        few = omega (arith, v.few);
        long = omega (arith, v.long, ap length turn, length-append R S);
        bytes = rw (eo, en) (stored_append out at R S) ∙ ap (λ (t : List ℕ). stored out at t) (sym turn) ∙ v.bytes;
      }
