-- Each law that a caller cites: for two items that the call accepts, which keys are in the shared part and which in the leftovers, for keys k of
-- any length. No contract cites this file. Assumes nothing.
use Rattle.std.specs.Prelude.{Ok}
use Prim.Native.Nat.{ℕ}
use mathlib.Core.Path.{◌≡◌}
use mathlib.Core.Bool.{true, false, not, ◌&&◌, ◌||◌}
use mathlib.Core.List.{List}
use Rattle.query_item.specs.declared.ItemWords.{ItemWords}
use Rattle.query_item.specs.Items.{query_item, holds, holds_maybe}
use Rattle.query_item.specs.Boundaries.{range_of, upright}
use Rattle.item_check.specs.Checks.{accepted}
use Rattle.item_check.proofs.Laws.{answers}
use Rattle.intersect.specs.declared.QueryItemIntersectionResult.{QueryItemIntersectionResult}
use Rattle.intersect.specs.Pair.{intersection, pair_verdict, pair_answer}
use Rattle.intersect.proofs.Held.{meet_holds, over_holds, over_once, accepted_upright}

-- ---- the keys of the pair

module _ (pool : List ℕ) (ours theirs : ItemWords) (p : QueryItemIntersectionResult) (is : pair_answer pool ours theirs ≡ Ok p)
    (k : List ℕ) where
  parts : (pair_verdict pool ours theirs ≡ accepted) × (intersection pool (range_of ours) (range_of theirs) ≡ p)
  parts =
      let both = answers (pair_verdict pool ours theirs) (Ok (intersection pool (range_of ours) (range_of theirs))) p is in
      (both.0, cc both.1)

  u : upright pool (range_of ours) ≡ true
  u = (accepted_upright pool ours theirs parts.0).0

  v : upright pool (range_of theirs) ≡ true
  v = (accepted_upright pool ours theirs parts.0).1

  -- 01 m3.2: the shared part holds exactly the keys that both items hold
  pub holds_shared : holds_maybe pool p.in_both k ≡ holds pool (query_item ours) k && holds pool (query_item theirs) k
  holds_shared = rw (← parts.1) (meet_holds pool k (query_item ours) (query_item theirs) u v)

  -- 01 m3.3, m3.4: our leftovers together hold exactly the keys that ours holds and theirs does not
  pub holds_ours : holds_maybe pool p.ours_left k || holds_maybe pool p.ours_right k
      ≡ holds pool (query_item ours) k && not (holds pool (query_item theirs) k)
  holds_ours = rw (← parts.1) (over_holds pool k (query_item ours) (query_item theirs) u v)

  -- and their leftovers the keys that theirs holds and ours does not
  pub holds_theirs : holds_maybe pool p.theirs_left k || holds_maybe pool p.theirs_right k
      ≡ holds pool (query_item theirs) k && not (holds pool (query_item ours) k)
  holds_theirs = rw (← parts.1) (over_holds pool k (query_item theirs) (query_item ours) v u)

  -- no key is in both of our leftovers, and none in both of theirs

  pub ours_once : holds_maybe pool p.ours_left k && holds_maybe pool p.ours_right k ≡ false
  ours_once = rw (← parts.1) (over_once pool k (query_item ours) (query_item theirs) u v)

  pub theirs_once : holds_maybe pool p.theirs_left k && holds_maybe pool p.theirs_right k ≡ false
  theirs_once = rw (← parts.1) (over_once pool k (query_item theirs) (query_item ours) v u)
