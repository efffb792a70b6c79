-- The order of keys. A key is a list of bytes. Definitions only. Assumes nothing.
use Rattle.std.specs.declared.cmp.Ordering.{Ordering}
use Rattle.std.specs.declared.cmp.Ordering.TheVariants.{Less, Equal, Greater}
use Rattle.std.specs.Prelude.{ℕ, Bool, true, false, List, [], ◌∷◌, ltb}

-- 01 keys.1: Less where the first test holds, Greater where only the second does, else Equal
abbrev pub by_tests : Bool → Bool → Ordering
by_tests true t = Less
by_tests false true = Greater
by_tests false false = Equal

-- 01 keys.1: how one byte, or any number, stands to another
unfoldable pub compare_numbers : ℕ → ℕ → Ordering
compare_numbers m n = by_tests (ltb m n) (ltb n m)

-- 01 keys.1: the first answer, or the second where the first is Equal
abbrev pub then_by : Ordering → Ordering → Ordering
then_by Less o = Less
then_by Equal o = o
then_by Greater o = Greater

-- 01 keys.1, m1.1: any finite byte string, the empty one included, ordered byte by byte, a proper prefix first
unfoldable pub compare_keys : List ℕ → List ℕ → Ordering
compare_keys [] [] = Equal
compare_keys [] (y ∷ l) = Less
compare_keys (x ∷ k) [] = Greater
compare_keys (x ∷ k) (y ∷ l) = then_by (compare_numbers x y) (compare_keys k l)

-- 01 m1.3: of two the smaller; on a tie the second
abbrev pub smaller {ℓ} : {A : Type ℓ} → Ordering → A → A → A
smaller Less a b = a
smaller Equal a b = b
smaller Greater a b = b

-- 01 m1.1: an order as a number, and the order of a number: what is below 1 is Less, what is above it Greater

abbrev pub order_number : Ordering → ℕ
order_number Less = 0
order_number Equal = 1
order_number Greater = 2

abbrev pub number_order : ℕ → Ordering
number_order x = by_tests (ltb x 1) (ltb 1 x)
