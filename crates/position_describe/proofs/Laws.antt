-- How long the text is, and its examples stored one after another. Assumes nothing.
use Rattle.std.specs.Prelude.{Ok}
use Prim.Native.Nat.{ℕ, suc, ◌+◌, ◌-◌, ◌*◌, ◌≤◌, ◌<◌}
use mathlib.Core.Path.{◌≡◌, refl, sym, ap, ◌∙◌}
use mathlib.Core.List.{List, [], ◌∷◌, ◌++◌}
use native.Mathlib.Decide.{dec_lt}
use native.Mathlib.Numerals.{add-one}
use native.Mathlib.Omega.{arith}
use lib.ListN.{length, get_or, take, drop, length-append, length-take, drop_of_length-le}
use lib.Seq.{drop-cons, get_or-take}
use borrow.Author.Tests.{lt-ltb, le-ltb}
use Rattle.position_report.specs.declared.PositionMismatch.{PositionMismatch}
use Rattle.position_report.specs.Reports.{most_reported}
use Rattle.position_describe.specs.Text.{positions_word, first_part, later_numbers, numbers, numbers_of, text_of, most_text, describe_answer}
use Rattle.lent_text.specs.Text.{decimal, stored}
use Rattle.lent_text.proofs.Laws.{decimal_few, decimal_two, stored_append, stored_none, stored_next}

-- ---- how long the text is

later_few : (P : List ℕ) → length (later_numbers P) ≤ 22 * length P
unfolding later_numbers
later_few [] = omega arith
later_few (p ∷ P) = omega (arith, length-append (44 ∷ 32 ∷ decimal p) (later_numbers P), decimal_few p, later_few P)

numbers_few : (P : List ℕ) (n : ℕ) → length P ≤ n → 0 < n → length (numbers P) + 2 ≤ 22 * n
numbers_few [] n h l = unfold numbers in omega arith
numbers_few (p ∷ P) n h l =
    (unfold numbers in rw (length-append (decimal p) (later_numbers P)) (omega (arith, decimal_few p, later_few P)))

first_few : (total count : ℕ) → count ≤ most_reported → length (first_part total count) ≤ 10
first_few total count h = elim (dec_lt count total) [
  | yes l ↦ (unfold first_part in rw (lt-ltb count total l) (omega (arith, decimal_two count (omega arith))))
  | no l ↦ (unfold first_part in rw (le-ltb count total (omega arith)) (omega arith))
]

examples_few : (report : PositionMismatch) → report.count ≤ most_reported → length (numbers_of report) ≤ 350
examples_few report h =
    omega (arith, numbers_few (take report.count report.examples) most_reported (omega (arith, length-take report.count report.examples)) (omega arith))

-- no text of a report that is not refused is longer than the longest
pub text_most : (report : PositionMismatch) → report.count ≤ most_reported → length (text_of report) ≤ most_text
text_most report h =
    let total = decimal report.total.0 in
    let e = numbers_of report ++ (93 ∷ []) in
    let d = (58 ∷ 32 ∷ 91 ∷ []) ++ e in
    let c = first_part report.total.0 report.count ++ d in
    let b = positions_word ++ c in
    omega (
      arith,
      length-append total b,
      length-append positions_word c,
      length-append (first_part report.total.0 report.count) d,
      length-append (58 ∷ 32 ∷ 91 ∷ []) e,
      length-append (numbers_of report) (93 ∷ []),
      decimal_few report.total.0,
      first_few report.total.0 report.count h,
      examples_few report h,
    )

-- with room for the longest text no report with so few examples is refused
pub described_always : (report : PositionMismatch) (room : ℕ) → report.count ≤ most_reported → most_text ≤ room
    → describe_answer report room ≡ Ok (length (text_of report))
described_always report room h k =
    rw (le-ltb most_reported report.count h, le-ltb room (length (text_of report)) (omega (arith, text_most report h)))

-- ---- the examples

-- what is left of the examples after the first i of n
abbrev pub left_of : List ℕ → ℕ → ℕ → List ℕ
left_of examples n i = later_numbers (drop i (take n examples))

pub left_more : (examples : List ℕ) (n i : ℕ) → i < n → n ≤ length examples
    → left_of examples n i ≡ (44 ∷ 32 ∷ decimal (get_or examples i 0)) ++ left_of examples n (i + 1)
unfolding later_numbers
left_more examples n i h l =
    rw (drop-cons (take n examples) i 0 (omega (arith, length-take n examples)), get_or-take n examples i 0 h, add-one i)

pub left_end : (examples : List ℕ) (n i : ℕ) → n ≤ i → left_of examples n i ≡ []
unfolding later_numbers
left_end examples n i h = rw (drop_of_length-le (take n examples) {i = i} (omega (arith, length-take n examples)))

pub numbers_first : (examples : List ℕ) (n : ℕ) → 0 < n → n ≤ length examples → numbers (take n examples) ≡ decimal (get_or examples 0 0) ++ left_of examples n 1
unfolding numbers
numbers_first [] n h l = absurd (omega arith)
numbers_first (p ∷ P) n h l = let q : n ≡ suc (n - 1) = omega arith in rw q

pub numbers_none : (examples : List ℕ) → numbers (take 0 examples) ≡ []
unfolding numbers
numbers_none examples = refl

-- a turn over the examples: the n bytes so far, r of them new, and the bytes with what is left are as they were
pub left_turn : (l m examples : List ℕ) (count i at n r : ℕ) → i < count → count ≤ length examples
    → r ≡ length (44 ∷ 32 ∷ decimal (get_or examples i 0)) → m ≡ stored l (at + n) (44 ∷ 32 ∷ decimal (get_or examples i 0))
    → (n + r + length (left_of examples count (i + 1)) ≡ n + length (left_of examples count i))
    × (stored m (at + (n + r)) (left_of examples count (i + 1)) ≡ stored l (at + n) (left_of examples count i))
left_turn l m examples count i at n r h k is-r is_m =
    let more = left_more examples count i h k in
    let text : List ℕ = 44 ∷ 32 ∷ decimal (get_or examples i 0) in
    let q : at + (n + length text) ≡ at + n + length text = omega arith in
    (omega (arith, ap length more, length-append text (left_of examples count (i + 1))), rw (is_m, is-r, q, more) (stored_append l (at + n) text (left_of examples count (i + 1))))

-- and at the end the whole list of examples is stored
pub left_whole : (l m o : List ℕ) (report : PositionMismatch) (at n₀ n i : ℕ) → 0 < report.count → report.count ≤ length report.examples
    → report.count ≤ i → n₀ ≡ length (decimal (get_or report.examples 0 0)) → m ≡ stored l at (decimal (get_or report.examples 0 0))
    → n + length (left_of report.examples report.count i) ≡ n₀ + length (left_of report.examples report.count 1)
    → stored o (at + n) (left_of report.examples report.count i) ≡ stored m (at + n₀) (left_of report.examples report.count 1)
    → (n ≡ length (numbers_of report)) × (o ≡ stored l at (numbers_of report))
left_whole l m o report at n₀ n i some fits h is-n is_m long bytes =
    let e = report.examples in
    let left = left_of e report.count 1 in
    let none : left_of e report.count i ≡ [] = left_end e report.count i h in
    let all : n ≡ n₀ + length left = omega (arith, ap length none, long) in
    let kept : o ≡ stored m (at + n₀) left = sym (rw none (stored_none o (at + n))) ∙ bytes in
    let both = stored_next l m o at n₀ (length left) (decimal (get_or e 0 0)) left is_m is-n kept refl in
    rw (numbers_first e report.count some fits) (all ∙ both.0, both.1)
