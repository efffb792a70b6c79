-- Module 4 of document 01: the three lists of two lists of items, without the ranges that hold no key (02 §2.6). Definitions only. Assumes nothing.
use Rattle.std.specs.Prelude.{ℕ, ◌≡◌, List, [], ◌∷◌, ◌++◌, map, Bool, cond, ◌||◌, length, Ok}
use Rattle.intervals.specs.Lists.{shared_of, without_of}
use Rattle.query_item.specs.declared.ItemWords.{ItemWords}
use Rattle.query_item.specs.declared.RangeSet.{RangeSet}
use Rattle.query_item.specs.Boundaries.{range_of, to_query_item}
use Rattle.keyless.specs.Keyless.{keyed}
use Rattle.item_check.specs.Checks.{Answer, refused, Verdict, accepted, and_then, pool_verdict, list_verdict, items_of}
use Rattle.item_lists.specs.Written.{as_items, passes, written}
use Rattle.intersect_many.specs.declared.ManyCounts.{ManyCounts}
use Rattle.intersect.specs.Pair.{meet_sets, left_over, right_over}

-- 01 m3.7: the ranges of a list's items, in order; wrappers are read through
abbrev pub sets_of : List ℕ → List RangeSet
sets_of ws = map range_of (items_of ws)

-- 01 m4.1: shared: over ours in order, then theirs in order, what each pair shares
abbrev pub shared_sets : List ℕ → List ℕ → List ℕ → List RangeSet
shared_sets pool ours theirs = shared_of (meet_sets pool) (sets_of ours) (sets_of theirs)

-- 01 m4.2: one of ours with one of theirs removed: the pair's leftovers of ours
abbrev pub cut_sets : List ℕ → RangeSet → RangeSet → List RangeSet
cut_sets pool a b = left_over pool a b ++ right_over pool a b

-- 01 m4.2, m4.3: ours-only: each of our items with all of theirs removed, pieces ascending; theirs-only: with sides exchanged.
-- Reading A26: an item that is cut several times is cut as boundaries, and converted once at the end
abbrev pub only_sets : List ℕ → List ℕ → List ℕ → List RangeSet
only_sets pool ours theirs = without_of (cut_sets pool) (sets_of ours) (sets_of theirs)

-- 01 m4.4, change.1: all output is converted, to items as they are written
unfoldable pub convert_all : List ℕ → List RangeSet → List ItemWords
convert_all pool [] = []
convert_all pool (s ∷ S) = as_items (to_query_item pool s) ++ convert_all pool S

-- 02 §2.1: no piece that holds no key stands in a result list: its ranges without these, converted. Reading B7: they are left out last, when
-- all is cut
unfoldable pub keyed_items : List ℕ → List RangeSet → List ItemWords
keyed_items pool S = convert_all pool (keyed pool S)

-- 01 m4.1, m4.2, m4.3: the result lists: shared, and ours-only or, with sides exchanged, theirs-only
unfoldable pub shared_items : List ℕ → List ℕ → List ℕ → List ItemWords
shared_items pool ours theirs = keyed_items pool (shared_sets pool ours theirs)

unfoldable pub only_items : List ℕ → List ℕ → List ℕ → List ItemWords
only_items pool ours theirs = keyed_items pool (only_sets pool ours theirs)

-- ---- the call: the pool, ours entirely, theirs entirely, then the room of the three lists, whole items (01 refusal.6)

abbrev pub both_verdict : List ℕ → List ℕ → List ℕ → Verdict
both_verdict pool ours theirs = and_then (list_verdict pool ours 0) (list_verdict pool theirs 1)

abbrev pub lists_verdict : List ℕ → List ℕ → List ℕ → Verdict
lists_verdict pool ours theirs = and_then (pool_verdict pool) (both_verdict pool ours theirs)

-- 01 no.6: more items than an output has room for
abbrev pub lacks_room : ManyCounts → List ℕ → List ℕ → List ℕ → Bool
lacks_room c shared_out ours_out theirs_out = passes c.shared shared_out || passes c.ours ours_out || passes c.theirs theirs_out

abbrev pub lists_room_verdict : ManyCounts → List ℕ → List ℕ → List ℕ → Verdict
lists_room_verdict c shared_out ours_out theirs_out = cond (lacks_room c shared_out ours_out theirs_out) (refused 6 0 0) accepted

abbrev pub counts_of : List ℕ → List ℕ → List ℕ → ManyCounts
counts_of pool ours theirs =
    record {
      shared = length (shared_items pool ours theirs);
      ours = length (only_items pool ours theirs);
      theirs = length (only_items pool theirs ours);
    }

abbrev pub lists_room_answer : List ℕ → List ℕ → List ℕ → List ℕ → List ℕ → List ℕ → Answer ManyCounts
lists_room_answer pool ours theirs shared_out ours_out theirs_out =
    and_then (lists_room_verdict (counts_of pool ours theirs) shared_out ours_out theirs_out) (Ok (counts_of pool ours theirs))

abbrev pub many_answer : List ℕ → List ℕ → List ℕ → List ℕ → List ℕ → List ℕ → Answer ManyCounts
many_answer pool ours theirs shared_out ours_out theirs_out =
    and_then (lists_verdict pool ours theirs) (lists_room_answer pool ours theirs shared_out ours_out theirs_out)

-- 01 m4.5, demand.1: what is given where the answer is known: that, and what stands in each of the three lists lent for writing
pub record GivesLists (answer : Answer ManyCounts) (pool ours theirs shared_out ours_out theirs_out : List ℕ)
    (got : Answer ManyCounts) (shared_out' ours_out' theirs_out' : List ℕ) : Type 0 where
  pub told : got ≡ answer
  pub shared : shared_out' ≡ written answer (shared_items pool ours theirs) shared_out
  pub ours_only : ours_out' ≡ written answer (only_items pool ours theirs) ours_out
  pub theirs_only : theirs_out' ≡ written answer (only_items pool theirs ours) theirs_out

-- 01 m4.1, m4.2, m4.3: what the call gives
abbrev pub IntersectMany : (pool ours theirs shared_out ours_out theirs_out : List ℕ) (got : Answer ManyCounts) (shared_out' ours_out' theirs_out' : List ℕ) → Type 0
IntersectMany pool ours theirs shared_out ours_out theirs_out =
    GivesLists (many_answer pool ours theirs shared_out ours_out theirs_out) pool ours theirs shared_out ours_out theirs_out
