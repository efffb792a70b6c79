-- `uncover` meets its contract: the check, the place, the pairs that go whole, the room, then the words. Assumes nothing.
use Prim.Native.Nat.{ℕ, ◌+◌, ◌-◌, ◌<◌, ◌≤◌}
use mathlib.Core.Path.{◌≡◌, refl, sym, ap, ◌∙◌}
use mathlib.Core.Bool.{Bool, true, false, cond}
use mir.Val.{bool_byte}
use lib.Dec.{ltb}
use native.Mathlib.Decide.{dec_lt}
use Rattle.position_given.specs.Answers.{stored_of}
use native.Mathlib.Omega.{arith}
use Rattle.intervals.proofs.Laws.{uncover_none, length_piece}
use Rattle.pairs_sort.specs.Pairs.{start, pairs}
use Rattle.position_stored.specs.Inner.{StoredList}
use Rattle.position_stored.proofs.Checks.{stored_list, placed}
use Rattle.position_stored.proofs.Places.{room_answer, room_words, none_answer, none_words, same_answer, same_words}
use Rattle.position_stored.proofs.Uncovering.{uncover_past, uncover_is, uncover_length, uncover_gone, uncover_cut, uncover_rows, uncover_fits, uncover_laid}
use Rattle.position_stored.proofs.change.uncover.Goals as goal

is-bit : (t : Bool) → cond t 1 0 ≡ bool_byte t
is-bit true = refl
is-bit false = refl

-- an index at most the count, and not the count
less-than : (m n : ℕ) → m ≤ n → (m ≡ n → ⊥) → m < n
less-than m n h k = elim (dec_lt m n) [ yes u ↦ u | no u ↦ absurd (k (omega arith)) ]

pub returns-then-end-start : goal.returns-then-end-start
returns-then-end-start c =
    let S : StoredList c.args.words.now c.args.count c.args.total.0 = stored_list _ c.check_stored.ensures c.in_ok-check_stored.was in
    let is = uncover_none (pairs c.args.words.now c.args.count) c.args.start.0 c.args.end.0 c.if-end-start.true in
    record { result_value = c.stored.ensures ∙ same_answer S _ is; words_after = same_words S _ is }

pub returns-then-at-count : goal.returns-then-at-count
returns-then-at-count c =
    let S : StoredList c.args.words.now c.args.count c.args.total.0 = stored_list _ c.check_stored.ensures c.in_ok-check_stored.was in
    let is = uncover_past S c.if-end-start.false c.ends_below-at.ensures c.if-at-count.true in
    record { result_value = c.stored-then-at-count.ensures ∙ same_answer S _ is; words_after = same_words S _ is }

pub overflow_sub-left : goal.overflow_sub-left
overflow_sub-left c =
    let S : StoredList c.args.words.now c.args.count c.args.total.0 = stored_list _ c.check_stored.ensures c.in_ok-check_stored.was in
    let m = less-than _ _ c.ends_below-at.ensures.within c.if-at-count.false in
    omega (arith, uncover_gone S c.if-end-start.false c.ends_below-at.ensures m c.gone_whole-whole.ensures)

pub returns-then-words-after : goal.returns-then-words-after
returns-then-words-after c =
    let S : StoredList c.args.words.now c.args.count c.args.total.0 = stored_list _ c.check_stored.ensures c.in_ok-check_stored.was in
    let m = less-than _ _ c.ends_below-at.ensures.within c.if-at-count.false in
    let is = uncover_is S c.if-end-start.false c.ends_below-at.ensures m c.gone_whole-whole.ensures in
    let size = uncover_length S c.if-end-start.false c.ends_below-at.ensures m c.gone_whole-whole.ensures
    ∙ ap (λ (k : ℕ). k + c.ends_below-at.result + (c.args.count - c.gone_whole-whole.result.from)) (is-bit _ ∙ sym c.from.ensures) in record { result_value = ap stored_of c.refuse.ensures ∙ none_answer S _ _ _ is size c.if-words-after.true; words_after = none_words S _ _ _ is size c.if-words-after.true }

pub place_piece-requires : goal.place_piece-requires
place_piece-requires c =
    let S : StoredList c.args.words.now c.args.count c.args.total.0 = stored_list _ c.check_stored.ensures c.in_ok-check_stored.was in
    let p = length_piece (start c.args.words.now c.ends_below-at.result) c.args.start.0 in
    (c.gone_whole-whole.ensures.going.after, c.gone_whole-whole.ensures.going.within, omega (arith, c.raise-cut.ensures.size, S.within), omega (arith, p, c.raise-cut.ensures.size, c.if-words-after.false, c.from.ensures, is-bit (ltb (start c.args.words.now c.ends_below-at.result) c.args.start.0)))

pub overflow_sub-left-2 : goal.overflow_sub-left-2
overflow_sub-left-2 c =
    let S : StoredList c.args.words.now c.args.count c.args.total.0 = stored_list _ c.check_stored.ensures c.in_ok-check_stored.was in
    let m = less-than _ _ c.ends_below-at.ensures.within c.if-at-count.false in
    omega (arith, uncover_cut S c.if-end-start.false c.ends_below-at.ensures m c.gone_whole-whole.ensures c.raise-cut.ensures)

pub overflow_add-left : goal.overflow_add-left
overflow_add-left c =
    let S : StoredList c.args.words.now c.args.count c.args.total.0 = stored_list _ c.check_stored.ensures c.in_ok-check_stored.was in
    let m = less-than _ _ c.ends_below-at.ensures.within c.if-at-count.false in
    omega (
      arith,
      c.saturating_sub.ensures,
      uncover_fits S c.if-end-start.false c.ends_below-at.ensures m c.gone_whole-whole.ensures c.raise-cut.ensures
          (record { fits = λ k. omega (arith, c.slice_known-1.given k) }),
    )

pub returns : goal.returns
returns c =
    let S : StoredList c.args.words.now c.args.count c.args.total.0 = stored_list _ c.check_stored.ensures c.in_ok-check_stored.was in
    let m = less-than _ _ c.ends_below-at.ensures.within c.if-at-count.false in
    let is = uncover_is S c.if-end-start.false c.ends_below-at.ensures m c.gone_whole-whole.ensures in
    let size = uncover_length S c.if-end-start.false c.ends_below-at.ensures m c.gone_whole-whole.ensures
    ∙ ap (λ (k : ℕ). k + c.ends_below-at.result + (c.args.count - c.gone_whole-whole.result.from)) (is-bit _ ∙ sym c.from.ensures) in
    let rows = uncover_rows S c.if-end-start.false c.ends_below-at.ensures m c.gone_whole-whole.ensures c.raise-cut.ensures
    ∙ ap (λ (k : ℕ). c.args.total.0 - c.gone_whole-whole.result.gone - c.raise-cut.result + k) (sym c.saturating_sub.ensures) in
    let words = uncover_laid S c.if-end-start.false c.ends_below-at.ensures m c.gone_whole-whole.ensures c.raise-cut.ensures
    _ c.place_piece.ensures in record { result_value = c.stored-2.ensures ∙ room_answer S _ _ _ is size _ rows c.if-words-after.false; words_after = words ∙ room_words S _ _ _ is size c.if-words-after.false }

pub ends_below-at-requires : goal.ends_below-at-requires
ends_below-at-requires c = placed (stored_list _ c.check_stored.ensures c.in_ok-check_stored.was) (omega arith)

pub gone_whole-whole-requires : goal.gone_whole-whole-requires
gone_whole-whole-requires c = placed (stored_list _ c.check_stored.ensures c.in_ok-check_stored.was) c.ends_below-at.ensures.within

pub raise-cut-requires : goal.raise-cut-requires
raise-cut-requires c =
    (placed (stored_list _ c.check_stored.ensures c.in_ok-check_stored.was) c.gone_whole-whole.ensures.going.within, c.gone_whole-whole.ensures.past)
