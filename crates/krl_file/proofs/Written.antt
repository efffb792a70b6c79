-- Records written as items, one after the other: what is left of the records is written from where the pass stands. Assumes nothing.
use Prim.Native.Nat.{ℕ, zero, suc, ◌+◌, ◌*◌, ◌/◌, ◌-◌, ◌≤◌, ◌<◌}
use mathlib.Core.Path.{◌≡◌, refl, ap}
use mathlib.Core.List.{List}
use native.Mathlib.Omega.{arith}
use lib.ListN.{length}
use Rattle.query_item.specs.Items.{item_size, with_item}
use Rattle.item_lists.specs.Written.{laid_over}
use Rattle.item_lists.proofs.Written.{Left, left_one, left_done, put_laid}
use Rattle.krl_file.specs.File.{record_size, record_at, records_from}

pub length_records : (file : List ℕ) (at n : ℕ) → length (records_from file at n) ≡ n
unfolding records_from
length_records file at zero = refl
length_records file at (suc n) = ap suc (length_records file (at + record_size) n)

-- n records from a byte on are to be written to the front of out₀, and i are
abbrev pub Writing : List ℕ → ℕ → ℕ → List ℕ → List ℕ → ℕ → Type 0
Writing file from n out₀ out i = Left (records_from file from n) out₀ 0 out i (records_from file (from + record_size * i) (n - i))

module _ (file : List ℕ) (from n : ℕ) (out₀ out : List ℕ) (i : ℕ) (v : Writing file from n out₀ out i) where
  -- the next record is written
  pub writing_more : {out' : List ℕ} → i < n → out' ≡ with_item out i (record_at file (from + record_size * i)) → Writing file from n out₀ out' (i + 1)
  unfolding records_from
  writing_more h e =
      let more : n - i ≡ suc (n - (i + 1)) = omega arith in
      let next : from + record_size * (i + 1) ≡ from + record_size * i + record_size = omega arith in
      rw next (left_one v (rw more) e)

  -- nothing is left
  pub writing_done : n ≤ i → n ≤ length out₀ / item_size → out ≡ laid_over out₀ (records_from file from n)
  unfolding records_from
  writing_done h room =
      let none : n - i ≡ 0 = omega arith in
      put_laid (records_from file from n) (left_done v (rw none)) (rw (length_records file from n) room)
