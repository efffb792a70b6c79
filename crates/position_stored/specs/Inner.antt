-- What an accepted stored list is, which laws cite too, and what private functions require and promise. No public call is promised by these.
-- Definitions only. It serves 02 §4.2, §4.3, §4.4. Assumes nothing.
use Rattle.std.specs.Prelude.{ℕ, ◌+◌, ◌-◌, ◌*◌, ◌/◌, ◌≤◌, ◌<◌, ◌≡◌, List, ◌∷◌, length, drop}
use Rattle.intervals.specs.Lists.{cuts_of}
use Rattle.intervals.specs.Intervals.{Interval, Canonical, cut}
use Rattle.intervals.specs.Cover.{grow_of}
use Rattle.pairs_sort.specs.Pairs.{finish, pairs_from, pairs}
use Rattle.position_given.specs.Positions.{rows_of}

-- what intervals keep of the numbers from e on
abbrev pub keep_from : List Interval → ℕ → List Interval
keep_from A e = cuts_of cut A (0, e)

-- what an accepted stored list is
pub record StoredList (ws : List ℕ) (count total : ℕ) : Type 0 where
  pub within : count ≤ length ws / 2
  pub canonical : Canonical (pairs ws count)
  pub right : rows_of (pairs ws count) ≡ total

-- the first count pairs fit the buffer and are canonical; place is one of them, or their end
pub record Place (ws : List ℕ) (count place : ℕ) : Type 0 where
  pub within : count ≤ length ws / 2
  pub canonical : Canonical (pairs ws count)
  pub placed : place ≤ count

-- the pairs before r end below x, and pair r does not
pub record Passed (ws : List ℕ) (count x r : ℕ) : Type 0 where
  pub within : r ≤ count
  pub before : (k : ℕ) → k < r → finish ws k < x
  pub here : r < count → x ≤ finish ws r

-- the range from s to e has taken in the pairs up to i, of gone rows in all, and is now the one from t to f
pub record Growing (ws : List ℕ) (count from s e i t f gone : ℕ) : Type 0 where
  pub after : from ≤ i
  pub within : i ≤ count
  pub some : t < f
  pub list : grow_of (pairs_from ws from (count - from)) s e ≡ grow_of (pairs_from ws i (count - i)) t f
  pub rows : rows_of (pairs_from ws from (count - from)) ≡ gone + rows_of (pairs_from ws i (count - i))

-- the same where it takes in no more
pub record Grew (ws : List ℕ) (count from s e i t f gone : ℕ) : Type 0 where
  pub after : from ≤ i
  pub within : i ≤ count
  pub some : t < f
  pub list : grow_of (pairs_from ws from (count - from)) s e ≡ (t, f) ∷ pairs_from ws i (count - i)
  pub rows : rows_of (pairs_from ws from (count - from)) ≡ gone + rows_of (pairs_from ws i (count - i))

-- of the pairs from an index on, those up to i end at or below e: all of them go, gone rows
pub record Going (ws : List ℕ) (count from e i gone : ℕ) : Type 0 where
  pub after : from ≤ i
  pub within : i ≤ count
  pub list : keep_from (pairs_from ws from (count - from)) e ≡ keep_from (pairs_from ws i (count - i)) e
  pub rows : rows_of (pairs_from ws from (count - from)) ≡ gone + rows_of (pairs_from ws i (count - i))

-- the same where no more of them go whole
pub record Gone (ws : List ℕ) (count from e i gone : ℕ) : Type 0 where
  pub going : Going ws count from e i gone
  pub past : i < count → e < finish ws i

-- of the pairs from an index on, what lies below e is taken away, low rows; the others stand as they were
pub record Raised (ws : List ℕ) (count from e : ℕ) (vs : List ℕ) (low : ℕ) : Type 0 where
  pub size : length vs ≡ length ws
  pub list : pairs_from vs from (count - from) ≡ keep_from (pairs_from ws from (count - from)) e
  pub rows : rows_of (pairs_from ws from (count - from)) ≡ low + rows_of (pairs_from vs from (count - from))
  pub front : (k : ℕ) → k ≤ from → pairs vs k ≡ pairs ws k
  pub later : drop (2 * count) vs ≡ drop (2 * count) ws
