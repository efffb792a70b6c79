-- Which keys the pair of two upright items holds once it is converted, by the ranks of keys; and items that the call accepts are upright.
-- Assumes nothing.
use Prim.Native.Nat.{ℕ, ◌+◌, ◌≤◌, min, max}
use mathlib.Core.Path.{◌≡◌, ap, ◌∙◌}
use mathlib.Core.Bool.{true, false, not, ◌&&◌, ◌||◌}
use mathlib.Core.List.{List, [], ◌∷◌, map}
use native.Mathlib.Decide.{dec_lt}
use native.Mathlib.Omega.{arith}
use Rattle.key_order.proofs.Line.{size}
use Rattle.key_order.proofs.Ranks.{key_rank}
use Rattle.intervals.specs.Intervals.{Interval, inside, piece}
use Rattle.intervals.proofs.Model.{meet}
use Rattle.intervals.specs.Intervals as interval
use Rattle.intervals.proofs.Laws.{All, holds_piece, piece_some, piece_none}
use Rattle.intervals.proofs.Members.{inside_meet, inside_cut, cut_once}
use Rattle.query_item.specs.declared.ItemWords.{ItemWords}
use Rattle.query_item.specs.declared.QueryItem.{QueryItem}
use Rattle.query_item.specs.declared.RangeSet.{RangeSet}
use Rattle.query_item.specs.Items.{holds, holds_maybe}
use Rattle.query_item.specs.Boundaries.{to_range_set, range_of, upright}
use Rattle.query_item.proofs.Laws.{upright_whole, holds_interval, holds_made}
use Rattle.item_check.specs.Checks.{accepted, upright_fault, fault_at, pool_verdict}
use Rattle.item_check.proofs.Laws.{accepts, fault_passes, sound_parts}
use Rattle.intersect.specs.Pair.{meet_sets, left_over, right_over, converted, two_verdict, pair_verdict}
use Rattle.intersect.proofs.Ranked.{Good}
use Rattle.intersect.proofs.Intervals.{iv, meet_carried, left_carried, right_carried}

-- n is a size that the pool and the key k fit, and x the key's rank
module _ (pool k : List ℕ) where
  abbrev n : ℕ
  n = size pool + size k

  fit : size pool ≤ n
  fit = omega arith

  short : size k ≤ n
  short = omega arith

  abbrev x : ℕ
  x = key_rank n k

  abbrev span : RangeSet → Interval
  span a = iv pool n fit a

  -- ranges that are a piece of ranks, or none where that is empty, converted hold the keys whose ranks lie in the piece
  piece_holds : (S : List RangeSet) (s e : ℕ) → All (Good pool n fit) S × (map span S ≡ piece s e) → holds_maybe pool (converted pool S) k ≡ inside s e x
  unfolding interval.holds
  piece_holds [] s e h = ap (λ (L : List Interval). interval.holds L x) h.1 ∙ holds_piece s e x
  piece_holds (t ∷ S) s e h = elim (dec_lt s e) [
    | yes l ↦
        let one : span t ∷ map span S ≡ (s, e) ∷ [] = h.1 ∙ piece_some s e l in
        let same : span t ≡ (s, e) = cc in
        holds_made pool n fit t h.0.0.starts h.0.0.ends k short ∙ ap (λ (a : Interval). inside a.0 a.1 x) same
    | no l ↦
        let none : span t ∷ map span S ≡ [] = h.1 ∙ piece_none s e (omega arith) in
        let z : ◌≡◌ {A = ℕ} 0 1 = cc in
        absurd (omega arith)
  ]

  -- ---- what q and r share, and what is left over of q

  module _ (q r : QueryItem) (u : upright pool (to_range_set q) ≡ true) (v : upright pool (to_range_set r) ≡ true) where
    abbrev a : RangeSet
    a = to_range_set q

    abbrev b : RangeSet
    b = to_range_set r

    A : Good pool n fit a
    A = upright_whole pool n fit q u

    B : Good pool n fit b
    B = upright_whole pool n fit r v

    pub meet_holds : holds_maybe pool (converted pool (meet_sets pool a b)) k ≡ holds pool q k && holds pool r k
    unfolding meet
    meet_holds =
        rw (holds_interval pool n fit q k short, holds_interval pool n fit r k short)
        (piece_holds (meet_sets pool a b) (max (span a).0 (span b).0) (min (span a).1 (span b).1) (meet_carried pool n fit a b A B)
        ∙ inside_meet (span a).0 (span a).1 (span b).0 (span b).1 x)

    left_holds : holds_maybe pool (converted pool (left_over pool a b)) k ≡ inside (span a).0 (min (span a).1 (span b).0) x
    left_holds = piece_holds (left_over pool a b) (span a).0 (min (span a).1 (span b).0) (left_carried pool n fit a b A B)

    right_holds : holds_maybe pool (converted pool (right_over pool a b)) k ≡ inside (max (span a).0 (span b).1) (span a).1 x
    right_holds = piece_holds (right_over pool a b) (max (span a).0 (span b).1) (span a).1 (right_carried pool n fit a b A B)

    pub over_holds : holds_maybe pool (converted pool (left_over pool a b)) k || holds_maybe pool (converted pool (right_over pool a b)) k
        ≡ holds pool q k && not (holds pool r k)
    over_holds =
        rw (left_holds, right_holds, holds_interval pool n fit q k short, holds_interval pool n fit r k short)
        (inside_cut (span a).0 (span a).1 (span b).0 (span b).1 x)

    pub over_once : holds_maybe pool (converted pool (left_over pool a b)) k && holds_maybe pool (converted pool (right_over pool a b)) k ≡ false
    over_once =
        rw (left_holds, right_holds) (cut_once (span a).0 (span a).1 (span b).0 (span b).1 x (omega (arith, B.straight)))

-- ---- items that the call accepts

pub accepted_upright : (pool : List ℕ) (ours theirs : ItemWords) → pair_verdict pool ours theirs ≡ accepted
    → (upright pool (range_of ours) ≡ true) × (upright pool (range_of theirs) ≡ true)
accepted_upright pool ours theirs e =
    let f = upright_fault pool ours in
    let g = upright_fault pool theirs in
    let both = (accepts (fault_at f 0 0) (fault_at g 1 0)).0 ((accepts (pool_verdict pool) (two_verdict f g)).0 e).1 in
    ((sound_parts pool ours ((fault_passes f 0 0).0 both.0)).2, (sound_parts pool theirs ((fault_passes g 1 0).0 both.1)).2)
