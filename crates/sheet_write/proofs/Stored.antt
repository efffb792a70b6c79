-- The parts of a row, stored one after another. Assumes nothing.
use Prim.Native.Nat.{ℕ, ◌+◌}
use mathlib.Core.Path.{◌≡◌, refl, ap₂}
use mathlib.Core.Bool.{Bool, true, false, cond}
use mathlib.Core.List.{List, [], ◌∷◌, ◌++◌}
use native.Mathlib.Omega.{arith}
use lib.ListN.{length}
use Rattle.query_item.specs.declared.ItemWords.{ItemWords}
use Rattle.query_item.specs.Items.{bytes_of}
use Rattle.item_check.specs.Checks.{has_start, has_end}
use Rattle.lent_text.specs.Text.{stored}
use Rattle.lent_text.proofs.Laws.{stored_next}
use Rattle.sheet_row.specs.Fields.{comma}
use Rattle.item_name.specs.Names.{name_of}
use Rattle.sheet_row.specs.Lanes.{lane_at, key_field, row_text}

-- what an item does not have is not shown, and not written
field_same : (p : Bool) (k : List ℕ) → key_field p (cond p k []) ≡ key_field p k
field_same true k = refl
field_same false k = refl

abbrev crlf : List ℕ
crlf = 13 ∷ 10 ∷ []

row_parts : (pool : List ℕ) (it : ItemWords)
    → row_text (lane_at pool it)
    ≡ name_of it.code
    ++ ((comma ∷ key_field (has_start it.code) (bytes_of pool it.start))
    ++ ((comma ∷ key_field (has_end it.code) (bytes_of pool it.end)) ++ crlf))
unfolding row_text
row_parts pool it =
    ap₂ (λ (a b : List ℕ). name_of it.code ++ ((comma ∷ a) ++ ((comma ∷ b) ++ crlf)))
    (field_same (has_start it.code) (bytes_of pool it.start)) (field_same (has_end it.code) (bytes_of pool it.end))

four : (l m o p q : List ℕ) (at a b c d : ℕ) (xs ys zs us : List ℕ)
    → m ≡ stored l at xs → a ≡ length xs → o ≡ stored m (at + a) ys → b ≡ length ys
    → p ≡ stored o (at + a + b) zs → c ≡ length zs → q ≡ stored p (at + a + b + c) us → d ≡ length us
    → (a + b + c + d ≡ length (xs ++ (ys ++ (zs ++ us)))) × (q ≡ stored l at (xs ++ (ys ++ (zs ++ us))))
four l m o p q at a b c d xs ys zs us is_m is-a is-o is_b is-p is_c is-q is-d =
    let last = stored_next o p q (at + a + b) c d zs us is-p is_c is-q is-d in
    let late = stored_next m o q (at + a) b (c + d) ys (zs ++ us) is-o is_b last.1 last.0 in
    let all = stored_next l m q at a (b + (c + d)) xs (ys ++ (zs ++ us)) is_m is-a late.1 late.0 in
    (omega (arith, all.0), all.1)

pub row_stored : (l m o p q : List ℕ) (at a b c d : ℕ) (pool : List ℕ) (it : ItemWords) (s e : Bool)
    → s ≡ has_start it.code → e ≡ has_end it.code
    → m ≡ stored l at (name_of it.code) → a ≡ length (name_of it.code)
    → o ≡ stored m (at + a) (comma ∷ key_field s (bytes_of pool it.start)) → b ≡ length (comma ∷ key_field s (bytes_of pool it.start))
    → p ≡ stored o (at + a + b) (comma ∷ key_field e (bytes_of pool it.end)) → c ≡ length (comma ∷ key_field e (bytes_of pool it.end))
    → q ≡ stored p (at + a + b + c) crlf → d ≡ 2
    → (a + b + c + d ≡ length (row_text (lane_at pool it))) × (q ≡ stored l at (row_text (lane_at pool it)))
row_stored l m o p q at a b c d pool it s e is-s is-e is_m is-a is-o is_b is-p is_c is-q is-d =
    rw (row_parts pool it, ← is-s, ← is-e)
    (four l m o p q at a b c d
    (name_of it.code) (comma ∷ key_field s (bytes_of pool it.start)) (comma ∷ key_field e (bytes_of pool it.end)) crlf
    is_m is-a is-o is_b is-p is_c is-q is-d)
