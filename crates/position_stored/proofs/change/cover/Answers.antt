-- `cover` meets its contract: the check, the place, the grown range, the room, then the words. Assumes nothing.
use mathlib.Core.Path.{ap, ◌∙◌}
use Rattle.position_given.specs.Answers.{stored_of}
use native.Mathlib.Omega.{arith}
use Rattle.intervals.proofs.Laws.{cover_none}
use Rattle.pairs_sort.specs.Pairs.{pairs}
use Rattle.position_stored.specs.Inner.{StoredList}
use Rattle.position_stored.proofs.Checks.{stored_list, placed}
use Rattle.position_stored.proofs.Places.{room_answer, room_words, none_answer, none_words, same_answer, same_words}
use Rattle.position_stored.proofs.Covering.{cover_is, cover_length, cover_gone, cover_rows, cover_fits}
use Rattle.position_stored.proofs.change.cover.Goals as goal

pub returns-then-end-start : goal.returns-then-end-start
returns-then-end-start c =
    let S : StoredList c.args.words.now c.args.count c.args.total.0 = stored_list _ c.check_stored.ensures c.in_ok-check_stored.was in
    let is = cover_none (pairs c.args.words.now c.args.count) c.args.start.0 c.args.end.0 c.if-end-start.true in
    record { result_value = c.stored.ensures ∙ same_answer S _ is; words_after = same_words S _ is }

pub returns-then-words-after : goal.returns-then-words-after
returns-then-words-after c =
    let S : StoredList c.args.words.now c.args.count c.args.total.0 = stored_list _ c.check_stored.ensures c.in_ok-check_stored.was in
    let is = cover_is S c.if-end-start.false c.ends_below-at.ensures c.grow-grown.ensures in
    let size = cover_length S c.if-end-start.false c.ends_below-at.ensures c.grow-grown.ensures in
    record { result_value = ap stored_of c.refuse.ensures ∙ none_answer S _ _ _ is size c.if-words-after.true; words_after = none_words S _ _ _ is size c.if-words-after.true }

pub overflow_sub-total : goal.overflow_sub-total
overflow_sub-total c =
    let S : StoredList c.args.words.now c.args.count c.args.total.0 = stored_list _ c.check_stored.ensures c.in_ok-check_stored.was in
    omega (arith, cover_gone S c.if-end-start.false c.ends_below-at.ensures c.grow-grown.ensures)

pub overflow_add-total : goal.overflow_add-total
overflow_add-total c =
    let S : StoredList c.args.words.now c.args.count c.args.total.0 = stored_list _ c.check_stored.ensures c.in_ok-check_stored.was in
    omega (
      arith,
      cover_fits S c.if-end-start.false c.ends_below-at.ensures c.grow-grown.ensures
          (record { fits = λ k. omega (arith, c.slice_known-1.given k) }) (omega arith),
    )

pub returns : goal.returns
returns c =
    let S : StoredList c.args.words.now c.args.count c.args.total.0 = stored_list _ c.check_stored.ensures c.in_ok-check_stored.was in
    let is = cover_is S c.if-end-start.false c.ends_below-at.ensures c.grow-grown.ensures in
    let size = cover_length S c.if-end-start.false c.ends_below-at.ensures c.grow-grown.ensures in
    let rows = cover_rows S c.if-end-start.false c.ends_below-at.ensures c.grow-grown.ensures in
    record { result_value = c.stored-2.ensures ∙ room_answer S _ _ _ is size _ rows c.if-words-after.false; words_after = c.place.ensures ∙ room_words S _ _ _ is size c.if-words-after.false }

pub ends_below-at-requires : goal.ends_below-at-requires
ends_below-at-requires c = placed (stored_list _ c.check_stored.ensures c.in_ok-check_stored.was) (omega arith)

pub grow-grown-requires : goal.grow-grown-requires
grow-grown-requires c =
    (placed (stored_list _ c.check_stored.ensures c.in_ok-check_stored.was) c.ends_below-at.ensures.within, omega (arith, c.if-end-start.false))
