-- What the checks leave: both pools small, lists of whole items, not too many, whose keys lie in the pool. Assumes nothing.
use Prim.Native.Nat.{ℕ, ◌+◌, ◌-◌, ◌/◌, ◌≤◌, ◌<◌}
use mathlib.Core.Path.{◌≡◌}
use mathlib.Core.List.{List}
use native.Mathlib.Omega.{arith}
use native.Mathlib.Numerals.{add-one}
use Rattle.std.specs.Prelude.{Err}
use Rattle.query_item.specs.declared.ItemWords.{ItemWords}
use lib.ListN.{length}
use Rattle.query_item.specs.Items.{item_size, item_at, items_from}
use Rattle.item_check.specs.declared.Refusal.{Refusal}
use Rattle.item_check.specs.Checks.{Verdict, accepted, item_fault, fault_at, first_bad, most_pool, pool_verdict}
use Rattle.item_check.proofs.Scans.{items_more}
use Rattle.item_check.proofs.Laws.{accepts, pool_passes, items_all}
use Rattle.pool_collect.specs.Collected.{named_verdict, pools_verdict, lists_verdict, collect_verdict}
use Rattle.pool_collect.specs.Table.{Accepts}
use Rattle.pool_collect.proofs.Moved.{keys_lie}
use Rattle.pool_collect.proofs.Kept.{Checks, named_checks}

pub checks_accepts : (pool ws : List ℕ) → length pool ≤ most_pool → Checks pool ws → Accepts pool ws
checks_accepts pool ws small c = record {
  inside = λ i h.
      let l = keys_lie pool (item_at ws i) (items_all (λ it. item_fault pool it ≡ 0) ws 0 (length ws / item_size) c.faultless i (omega arith) (omega arith)) in
      record { start_in = record { lies = l.0; small = small }; end_in = record { lies = l.1; small = small } };
  whole = c.whole;
  few = c.few;
}

pub record Admitted (pool fresh ours theirs : List ℕ) : Type 0 where
  pub pool_small : length pool ≤ most_pool
  pub fresh_small : length fresh ≤ most_pool
  pub ours_ok : Checks pool ours
  pub theirs_ok : Checks pool theirs

pub admitted : (pool fresh ours theirs : List ℕ) → collect_verdict pool fresh ours theirs ≡ accepted → Admitted pool fresh ours theirs
admitted pool fresh ours theirs e =
    let b = (accepts (pools_verdict pool fresh) (lists_verdict pool ours theirs)).0 e in
    let p = (accepts (pool_verdict pool) (pool_verdict fresh)).0 b.0 in
    let l = (accepts (named_verdict pool ours 0) (named_verdict pool theirs 1)).0 b.1 in
    record {
      pool_small = (pool_passes pool).0 p.0;
      fresh_small = (pool_passes fresh).0 p.1;
      ours_ok = named_checks pool ours 0 l.0;
      theirs_ok = named_checks pool theirs 1 l.1;
    }

-- ---- a turn of the check of a list: the item at an index is refused, or the rest is left

module _ (pool ws : List ℕ) (side i count : ℕ) (h : i < count) {it : ItemWords} {v : Verdict} (e : v ≡ fault_at (item_fault pool it) side i) (s : it ≡ item_at ws i) where
  abbrev left : ℕ → Verdict
  left j = first_bad (item_fault pool) side j (items_from ws j (count - j))

  pub fault_next : v ≡ accepted → left i ≡ left (i + 1)
  unfolding first_bad
  fault_next o = rw (items_more ws i count h, ← s, ← e, o, add-one i)

  pub fault_stops : {r : Refusal} → v ≡ Err r → left i ≡ Err r
  unfolding first_bad
  fault_stops o = rw (items_more ws i count h, ← s, ← e, o)
