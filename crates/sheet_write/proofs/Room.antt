-- What writing answers and leaves, by the room. Assumes nothing.
use Rattle.std.specs.Prelude.{Ok}
use Prim.Native.Nat.{ℕ, ◌≤◌}
use mathlib.Core.Path.{◌≡◌, ap, ◌∙◌}
use mathlib.Core.List.{List}
use native.Mathlib.Omega.{arith}
use lib.ListN.{length}
use borrow.Author.Tests.{le-ltb}
use Rattle.lent_text.specs.Text.{stored}
use Rattle.lent_text.proofs.Laws.{stored_whole}
use Rattle.sheet_write.specs.Writing.{text_room, room_bytes}

module _ (text out : List ℕ) (n : ℕ) (is-n : n ≡ length text) where
  pub room_written : (o : List ℕ) (k : ℕ) → n ≤ length out → k ≡ length text → o ≡ stored out 0 text
      → (Ok k ≡ text_room text out) × (o ≡ room_bytes text out)
  room_written o k h is-k is-o =
      let l : length text ≤ length out = omega arith in
      rw (le-ltb (length out) (length text) l) (ap Ok is-k, is-o ∙ stored_whole out text l)
