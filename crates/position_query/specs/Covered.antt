-- The positions that query items cover, the checks of position items, and the promise of `from_query_items`. Definitions only.
-- Assumes nothing.
use Rattle.std.specs.Prelude.{ℕ, zero, suc, ◌/◌, ◌≡◌, List, [], ◌∷◌, Bool, false, cond, not, ◌&&◌, ◌||◌, length, ltb, eqb, Ok, Err}
use Rattle.query_item.specs.declared.KeyAt.{KeyAt}
use Rattle.query_item.specs.declared.ItemWords.{ItemWords}
use Rattle.query_item.specs.Items.{bytes_of, query_item, holds}
use Rattle.item_check.specs.declared.Refusal.{Refusal}
use Rattle.item_check.specs.Checks.{Answer, refused, Verdict, accepted, and_then, has_start, has_end, wrapped, first_fault, item_fault, pool_verdict, shape_verdict, first_bad, items_of}
use Rattle.pairs_sort.specs.Pairs.{pairs, CanonicalPairs}
use Rattle.position_given.specs.Positions.{rows_of}
use Rattle.position_key.specs.Keys.{key_size, position_key}

-- ---- coverage

-- 01 m6.3: an item holds a position when it holds its key
unfoldable pub holds_position : List ℕ → ItemWords → ℕ → Bool
holds_position pool it p = holds pool (query_item it) (position_key p)

unfoldable pub some_holds : List ℕ → List ItemWords → ℕ → Bool
some_holds pool [] p = false
some_holds pool (it ∷ its) p = holds_position pool it p || some_holds pool its p

-- 01 m6.3: position p is covered when p < count and some item holds it
unfoldable pub covered : List ℕ → List ItemWords → ℕ → ℕ → Bool
covered pool its count p = ltb p count && some_holds pool its p

-- ---- the checks of position items

-- 01 no.7: position key not 8 bytes
abbrev pub no_position : List ℕ → KeyAt → Bool
no_position pool k = not (eqb (length (bytes_of pool k)) key_size)

abbrev pub bad_key : List ℕ → ItemWords → Bool
bad_key pool it = (has_start it.code && no_position pool it.start) || (has_end it.code && no_position pool it.end)

-- 01 refusal.6, m6.1: of an item 1, 2, 5, 7; 0 where nothing is wrong. Items need not be upright; reading A19: 2 and 5 stand before 7
abbrev pub position_fault : List ℕ → ItemWords → ℕ
position_fault pool it = first_fault (item_fault pool it) (cond (wrapped it) 5 (cond (bad_key pool it) 7 0))

-- ---- room

-- 01 m6.5: whether f holds of some number below n
unfoldable pub any_below : (ℕ → Bool) → ℕ → Bool
any_below f zero = false
any_below f (suc n) = f n || any_below f n

-- 01 m6.5: items with a nonempty clipped range: those that hold some position below the count
unfoldable pub ranges_needed : List ℕ → ℕ → List ItemWords → ℕ
ranges_needed pool count [] = 0
ranges_needed pool count (it ∷ its) =
    cond (any_below (holds_position pool it) count) (suc (ranges_needed pool count its)) (ranges_needed pool count its)

-- 01 m6.5, refusal.2, refusal.5: 6 exactly if these outnumber the pairs of room, before merging; room means whole pairs; side 0 and index 0
abbrev pub room_verdict : ℕ → ℕ → Verdict
room_verdict needed words = cond (ltb (words / 2) needed) (refused 6 0 0) accepted

-- 01 refusal.6, refusal.3: the pool's size, the list's shape, item by item, then 6; position items are side 0
abbrev pub query_verdict : List ℕ → List ℕ → Verdict
query_verdict pool ws = and_then (pool_verdict pool) (and_then (shape_verdict ws 0) (first_bad (position_fault pool) 0 0 (items_of ws)))

abbrev pub build_verdict : List ℕ → List ℕ → ℕ → ℕ → Verdict
build_verdict pool ws count words = and_then (query_verdict pool ws) (room_verdict (ranges_needed pool count (items_of ws)) words)

-- ---- the promise

-- 01 m6.4, m6.6: the result is pairs, canonical, of the positions that f has; reading A20: of the pairs that the ranges need, words of those merged
-- away become 0, later ones stay. 02 §4.5: the total beside them is what counting afresh gives
pub record Covers (f : ℕ → Bool) (needed : ℕ) (old new : List ℕ) (m rows : ℕ) : Type 0 where
  pub list : CanonicalPairs f needed old new m
  pub total : rows ≡ rows_of (pairs new m)

-- 01 form.11: whether a call answers, or why not
abbrev pub as_verdict : {A : Type 0} → Answer A → Verdict
as_verdict (Ok a) = accepted
as_verdict (Err r) = Err r

-- 01 demand.1, m6.5: refused exactly as the checks say; pairs written where it is not, and their number and total answered; reading A1: nothing
-- written where it is
pub record Builds (checks : Verdict) (f : ℕ → Bool) (needed : ℕ) (old new : List ℕ) (r : Answer (ℕ × ℕ)) : Type 0 where
  pub verdict : as_verdict r ≡ checks
  pub written : (m rows : ℕ) → r ≡ Ok (m, rows) → Covers f needed old new m rows
  pub kept : (no : Refusal) → r ≡ Err no → new ≡ old

-- 01 m6.3, m6.5: the pairs of the covered positions, for every number: u64::MAX is below no count
abbrev pub FromQueryItems : List ℕ → List ℕ → ℕ → List ℕ → List ℕ → Answer (ℕ × ℕ) → Type 0
FromQueryItems pool ws count old new r =
    Builds (build_verdict pool ws count (length old)) (covered pool (items_of ws) count) (ranges_needed pool count (items_of ws)) old new r
