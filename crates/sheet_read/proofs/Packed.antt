-- Packed items over the pool that their keys are packed into: each says its lane, and is plain. Assumes nothing.
use Prim.Native.Nat.{ℕ, ◌+◌, ◌≤◌}
use mathlib.Core.Path.{◌≡◌, refl, sym, ap, ap₂, subst, ◌∙◌}
use mathlib.Core.Bool.{Bool, true, false, cond}
use mathlib.Core.List.{List, [], ◌∷◌, ◌++◌, map, append_assoc}
use native.Mathlib.Omega.{arith}
use lib.ListN.{length, length-append}
use lib.Seq.{take-append_seam, drop_at}
use lib.Dec.{ltb}
use borrow.Author.Tests.{le-ltb, ltb-false}
use Rattle.query_item.specs.Items.{bytes_of, key_at}
use Rattle.item_check.specs.Checks.{has_start, has_end, key_out, most_key}
use Rattle.item_check.proofs.Laws.{All, both_false, Formed, absent_in, fault_by}
use Rattle.sheet_row.specs.Lanes.{Lane, lane_of, lane_at}
use Rattle.sheet_row.proofs.Laws.{Sound, SoundAll, none, more, PlainIn}
use Rattle.sheet_read.specs.Reading.{packed_keys, key_for, lane_item, packed_items, is_long}

-- ---- what they say

-- a key after other bytes
key_here : (pre k rest : List ℕ) (at : ℕ) → length pre ≡ at → bytes_of (pre ++ (k ++ rest)) (key_at at (length k)) ≡ k
key_here pre k rest at e = rw (drop_at pre (k ++ rest) at e, take-append_seam k rest)

key_shown : (p : Bool) (pre k rest : List ℕ) (at : ℕ) → length pre ≡ at → (p ≡ false → k ≡ [])
    → cond p (bytes_of (pre ++ (k ++ rest)) (key_for p at (length k))) [] ≡ k
key_shown true pre k rest at e h = key_here pre k rest at e
key_shown false pre k rest at e h = sym (h refl)

lane_shown_lem : (pre rest : List ℕ) (l : Lane) (at : ℕ) → Sound l → length pre ≡ at → lane_at (pre ++ ((l.start ++ l.end) ++ rest)) (lane_item at l) ≡ l
lane_shown_lem pre rest l at s e =
    let a = key_shown (has_start l.code) pre l.start (l.end ++ rest) at e s.no_start in
    let b = key_shown (has_end l.code) (pre ++ l.start) l.end rest (at + length l.start) (rw length-append (omega arith)) s.no_end in
    ap₂ (lane_of l.code) (rw (append_assoc l.start l.end rest) a)
    (rw (append_assoc l.start l.end rest, ← append_assoc pre l.start (l.end ++ rest)) b)

-- the items of lanes whose keys are packed after other bytes say these lanes
pub items_shown : (pre : List ℕ) (ls : List Lane) (rest : List ℕ) (at : ℕ) → SoundAll ls → length pre ≡ at
    → map (lane_at (pre ++ (packed_keys ls ++ rest))) (packed_items at ls) ≡ ls
unfolding packed_keys packed_items
items_shown pre [] rest at none e = refl
items_shown pre (l ∷ ls) rest at (more s ss) e =
    ap₂ ◌∷◌ (rw (append_assoc (l.start ++ l.end) (packed_keys ls) rest) (lane_shown_lem pre (packed_keys ls ++ rest) l at s e))
    (subst (λ (ws : List ℕ). map (lane_at ws) (packed_items (at + (length l.start + length l.end)) ls) ≡ ls)
    (append_assoc pre (l.start ++ l.end) (packed_keys ls ++ rest)
    ∙ ap (λ (ws : List ℕ). pre ++ ws) (sym (append_assoc (l.start ++ l.end) (packed_keys ls) rest)))
    (items_shown (pre ++ (l.start ++ l.end)) ls rest (at + (length l.start + length l.end)) ss
    (rw (length-append pre (l.start ++ l.end), length-append l.start l.end) (omega arith))))

-- ---- they are plain

key_inside : (p : Bool) (pool : List ℕ) (at n : ℕ) → n ≤ most_key → at + n ≤ length pool → key_out pool (key_for p at n) ≡ false
key_inside true pool at n h l = rw (le-ltb most_key n h, le-ltb (length pool) (at + n) l)
key_inside false pool at n h l = absent_in pool

item_plain : (pool : List ℕ) (l : Lane) (at : ℕ) → Sound l → is_long l ≡ false
    → at + (length l.start + length l.end) ≤ length pool → PlainIn pool (lane_item at l)
item_plain pool l at s short h =
    let c = l.code in
    let a = length l.start in
    let b = length l.end in
    let both = (both_false (ltb most_key a) (ltb most_key b)).0 short in
    let start_in = key_inside (has_start c) pool at a (ltb-false most_key a both.0) (omega arith) in
    let end_in = key_inside (has_end c) pool (at + a) b (ltb-false most_key b both.1) (omega arith) in
    let formed : Formed (lane_item at l) =
    record { known = omega (arith, s.known); known_wrapper = omega arith; no_start = λ e. rw e; no_end = λ e. rw e } in
    (fault_by pool (lane_item at l) formed start_in end_in, refl)

-- where the keys are short and fit the pool
pub packed_plain : (pool : List ℕ) (ls : List Lane) (at : ℕ) → SoundAll ls → All (λ l. is_long l ≡ false) ls
    → at + length (packed_keys ls) ≤ length pool → All (PlainIn pool) (packed_items at ls)
unfolding packed_keys packed_items
packed_plain pool [] at none a h = tt
packed_plain pool (l ∷ ls) at (more s ss) a h =
    let all = length-append (l.start ++ l.end) (packed_keys ls) in
    let two = length-append l.start l.end in (
      item_plain pool l at s a.0 (omega arith),
      packed_plain pool ls (at + (length l.start + length l.end)) ss a.1 (omega arith),
    )
