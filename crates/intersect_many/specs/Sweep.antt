-- What the one pass over both lists goes by. No promise of a public call cites this. It serves 01 m4.1, m4.2, m4.3. Assumes nothing.
use Rattle.std.specs.declared.cmp.Ordering.{Ordering}
use Rattle.std.specs.Ordering.{is_lt, is_le}
use Rattle.std.specs.Prelude.{ℕ, ◌+◌, ◌-◌, ◌*◌, ◌/◌, ◌≤◌, ◌≡◌, List, [], ◌∷◌, map, true, cond, not, length}
use Rattle.query_item.specs.declared.RangeSet.{RangeSet}
use Rattle.item_check.specs.Checks.{Answer, accepted, most_items, list_verdict}
use Rattle.item_lists.specs.Written.{Put}
use Rattle.query_item.specs.Items.{item_size, items_from}
use Rattle.query_item.specs.Boundaries.{compare_in, invert_of, from_to, range_of}
use Rattle.intersect.specs.Pair.{before, overlap, meet_sets, left_part, left_over}
use Rattle.intersect_many.specs.Lists.{keyed_items, shared_items, only_items, lists_room_answer, GivesLists}
use Rattle.intersect_many.specs.declared.ManyCounts.{ManyCounts}
use Rattle.intersect_many.specs.declared.Stand.{Stand}
use Rattle.intersect_many.specs.declared.Stand.TheVariants.{Before, After, Meets}

-- what of a stands past b, where b ends first
unfoldable pub right_set : List ℕ → RangeSet → RangeSet → RangeSet
right_set pool a b = cond (before pool b a) a (from_to (invert_of b.end true) a.end)

-- the ranges of a list's items from an index on, and the same with the first exchanged for what is left of it
abbrev pub sets_left : List ℕ → ℕ → List RangeSet
sets_left ws i = map range_of (items_from ws i (length ws / item_size - i))

abbrev pub with_head : RangeSet → List RangeSet → List RangeSet
with_head s [] = []
with_head s (a ∷ A) = s ∷ A

abbrev pub rest_left : List ℕ → ℕ → RangeSet → List RangeSet
rest_left ws i s = with_head s (sets_left ws i)

-- the pass goes over two accepted lists
abbrev pub BothAccepted : List ℕ → List ℕ → List ℕ → Type 0
BothAccepted pool ours theirs = (list_verdict pool ours 0 ≡ accepted) × (list_verdict pool theirs 1 ≡ accepted)

-- each turn moves an index, and makes one item at most for each list: so many pieces two lists make at most
abbrev pub most_pieces : ℕ
most_pieces = 2 * most_items

-- no list has more items than both lists together
pub record Few (ours theirs : List ℕ) (n : ManyCounts) : Type 0 where
  pub shared : n.shared ≤ length ours / item_size + length theirs / item_size
  pub ours_only : n.ours ≤ length ours / item_size + length theirs / item_size
  pub theirs_only : n.theirs ≤ length ours / item_size + length theirs / item_size

-- how two ranges stand
abbrev pub stand_of : List ℕ → RangeSet → RangeSet → Stand
stand_of pool a b = cond (before pool a b) Before (cond (before pool b a) After (Meets (compare_in pool a.end b.end)))

-- what a turn may count on where a and b meet: what x and y, which are left of them, have below the other is known by the starts of a and b, and
-- the counts are not near the limit of a number
pub record Turn (pool : List ℕ) (ends : Ordering) (a b x y : RangeSet) (n : ManyCounts) : Type 0 where
  pub ends_are : ends ≡ compare_in pool a.end b.end
  pub shared : meet_sets pool a b ≡ overlap pool a b ∷ []
  pub our_left : left_over pool x b ≡ cond (is_lt (compare_in pool a.start b.start)) (left_part pool x b) []
  pub their_left : left_over pool y a ≡ cond (not (is_le (compare_in pool a.start b.start))) (left_part pool y a) []
  pub shared_few : n.shared ≤ most_pieces
  pub ours_few : n.ours ≤ most_pieces
  pub theirs_few : n.theirs ≤ most_pieces

-- what is given where both lists are accepted: the room is left to be asked for
abbrev pub RoomGives : (pool ours theirs shared_out ours_out theirs_out : List ℕ) (got : Answer ManyCounts) (shared_out' ours_out' theirs_out' : List ℕ) → Type 0
RoomGives pool ours theirs shared_out ours_out theirs_out =
    GivesLists (lists_room_answer pool ours theirs shared_out ours_out theirs_out) pool ours theirs shared_out ours_out theirs_out

-- what a turn writes where a and b meet
pub record Emits (pool : List ℕ) (a b x y : RangeSet) (n : ManyCounts) (shared_out ours_out theirs_out : List ℕ)
    (n' : ManyCounts) (shared_out' ours_out' theirs_out' : List ℕ) : Type 0 where
  pub shared : Put shared_out n.shared (keyed_items pool (meet_sets pool a b)) shared_out' n'.shared
  pub our_left : Put ours_out n.ours (keyed_items pool (left_over pool x b)) ours_out' n'.ours
  pub their_left : Put theirs_out n.theirs (keyed_items pool (left_over pool y a)) theirs_out' n'.theirs

-- what the pass writes, and counts
pub record Sweeps (pool ours theirs shared_out ours_out theirs_out : List ℕ) (n : ManyCounts) (shared_out' ours_out' theirs_out' : List ℕ) : Type 0 where
  pub shared : Put shared_out 0 (shared_items pool ours theirs) shared_out' n.shared
  pub ours_only : Put ours_out 0 (only_items pool ours theirs) ours_out' n.ours
  pub theirs_only : Put theirs_out 0 (only_items pool theirs ours) theirs_out' n.theirs
  pub few : Few ours theirs n
