-- Pairs as words: that what is moved and cleared is laid, and a turn of the move. Assumes nothing.
use Prim.Native.Nat.{ℕ, zero, suc, ◌+◌, ◌-◌, ◌*◌, ◌≤◌, max}
use mathlib.Core.Path.{◌≡◌, refl, sym, ap, ◌∙◌}
use mathlib.Core.List.{List, [], ◌∷◌, ◌++◌, append_assoc}
use native.Mathlib.Omega.{arith}
use native.Mathlib.Numerals.{add-one}
use lib.ListN.{length, set, take, drop, replicate, length-append, length-replicate, take-append-drop}
use lib.Seq.{take-append-le, take-take, paste, sets, sets-eq, length-sets, length-take-le, take_at, drop_at, drop-drop, set-get_or}
use Rattle.intervals.specs.Intervals.{Interval}
use Rattle.pairs_sort.specs.Pairs.{finish, pairs_from, pairs, put, flat_pairs}
use Rattle.pairs_sort.proofs.Laws.{pairs_ahead, pairs_length, length_flat}
use Rattle.pairs_sort.proofs.Flat.{flat_append, flat_front, flat_pairs_lem}
use Rattle.position_stored.specs.Stored.{laid}

-- ---- laid

-- the list that stands there is laid already
pub laid_same : (ws : List ℕ) (count : ℕ) → 2 * count ≤ length ws → laid ws count (pairs ws count) ≡ ws
unfolding laid
laid_same ws count h =
    let e : 2 * (count - count) ≡ 0 = omega arith in
    let f : max count count ≡ count = omega arith in
    rw (pairs_length ws count 0, e, f, flat_front ws count h) (take-append-drop (2 * count) ws)

-- pairs written after the first at, and what is left of the old ones cleared
module _ (ws : List ℕ) (count at : ℕ) (M : List Interval) (old : 2 * count ≤ length ws) (new : 2 * (at + length M) ≤ length ws) where
  written : List ℕ
  written = sets ws (2 * at) (flat_pairs M)

  front : List ℕ
  front = take (2 * at) ws ++ flat_pairs M

  front_long : length front ≡ 2 * (at + length M)
  unfolding front
  front_long = rw (length-append (take (2 * at) ws) (flat_pairs M), length-take-le (2 * at) ws (omega arith), length_flat M) (omega arith)

  written_is : written ≡ front ++ drop (2 * (at + length M)) ws
  unfolding written front
  written_is =
      let e : 2 * at + 2 * length M ≡ 2 * (at + length M) = omega arith in
      sets-eq (flat_pairs M) ws (2 * at) (rw (length_flat M) (omega arith)) ∙ rw (length_flat M, e)

  pub laid_is : sets (sets ws (2 * at) (flat_pairs M)) (2 * (at + length M)) (replicate (2 * count - 2 * (at + length M)) 0)
      ≡ laid ws count (pairs ws at ++ M)
  unfolding laid written front
  laid_is =
      let n : ℕ = 2 * (at + length M) in
      let z : ℕ = 2 * count - n in
      let e : 2 * (count - (at + length M)) ≡ z = omega arith in
      let f : n + z ≡ 2 * max count (at + length M) = omega arith in
      sets-eq (replicate z 0) written n (rw (length-replicate {A = ℕ} z 0, length-sets ws (2 * at) (flat_pairs M)) (omega arith))
      ∙ rw (
        length-replicate {A = ℕ} z 0,
        written_is,
        take_at front (drop n ws) n front_long,
        ← drop-drop z n (front ++ drop n ws),
        drop_at front (drop n ws) n front_long,
        drop-drop z n ws,
        f,
        length-append (pairs ws at) M,
        pairs_length ws at 0,
        e,
        flat_append (pairs ws at) M,
        flat_front ws at (omega arith),
        append_assoc (take (2 * at) ws ++ flat_pairs M) (replicate z 0) (drop (2 * max count (at + length M)) ws),
      )

-- ---- the move

-- pairs that are stored where they stand
flat_same : (l : List ℕ) (k i : ℕ) → sets l (2 * i) (flat_pairs (pairs_from l i k)) ≡ l
unfolding flat_pairs pairs_from
flat_same l zero i = refl
flat_same l (suc k) i =
    let q : 2 * suc i ≡ suc (suc (2 * i)) = omega arith in
    let second : set l (suc (2 * i)) (finish l i) ≡ l = ap (λ (n : ℕ). set l n (finish l i)) (sym (add-one (2 * i))) ∙ set-get_or l (2 * i + 1) 0 in
    let rest : List ℕ = flat_pairs (pairs_from l (suc i) k) in
    ap (λ (v : List ℕ). sets (set v (suc (2 * i)) (finish l i)) (suc (suc (2 * i))) rest) (set-get_or l (2 * i) 0)
    ∙ ap (λ (v : List ℕ). sets v (suc (suc (2 * i))) rest) second
    ∙ (rw q at (flat_same l k (suc i)))

-- a pair put is its two words stored
put_sets : (w : List ℕ) (at s e : ℕ) → put w at s e ≡ sets w (2 * at) (s ∷ e ∷ [])
put_sets w at s e = ap (λ (n : ℕ). set (set w (2 * at) s) n e) (add-one (2 * at))

-- one pair in the place of one: those behind it stay
pub tail_stays : (w : List ℕ) (at k s e : ℕ) → put w at s e ≡ sets w (2 * at) (s ∷ e ∷ flat_pairs (pairs_from w (at + 1) k))
tail_stays w at k s e =
    let q : 2 * (at + 1) ≡ suc (suc (2 * at)) = omega arith in
    put_sets w at s e ∙ sym (rw (pairs_ahead w at s e (at + 1) k (omega arith), q, add-one (2 * at)) at (flat_same (put w at s e) k (at + 1)))

-- those behind it are copied to stand behind it
module _ (ws : List ℕ) (count at from s e : ℕ) (h : from ≤ count) (old : 2 * count ≤ length ws) (new : 2 * (at + 1 + (count - from)) ≤ length ws) where
  moved : List ℕ
  moved = flat_pairs (pairs_from ws from (count - from))

  moved_long : length moved ≡ 2 * (count - from)
  unfolding moved
  moved_long = rw (length_flat (pairs_from ws from (count - from)), pairs_length ws (count - from) from)

  moved_are : take (2 * (count - from)) (drop (2 * from) ws) ≡ moved
  unfolding moved
  moved_are =
      let q : from + (count - from) ≡ count = omega arith in
      rw (← flat_pairs_lem ws from (count - from) (omega arith)) (take_at moved (drop (2 * (from + (count - from))) ws) (2 * (count - from)) moved_long)

  abbrev behind : List ℕ
  behind = drop (2 * (at + 1) + 2 * (count - from)) ws

  abbrev shifted : List ℕ
  shifted = take (2 * (at + 1)) ws ++ (flat_pairs (pairs_from ws from (count - from)) ++ behind)

  shifted_is : paste ws (2 * (at + 1)) (drop (2 * from) ws) (2 * count - 2 * from) ≡ shifted
  unfolding moved
  shifted_is =
      let n : 2 * count - 2 * from ≡ 2 * (count - from) = omega arith in
      rw (n, moved_are) (append_assoc (take (2 * (at + 1)) ws) moved behind)

  stored_short : sets shifted (2 * at) (s ∷ e ∷ []) ≡ (take (2 * at) ws ++ (s ∷ e ∷ [])) ++ (moved ++ behind)
  unfolding moved
  stored_short =
      let front : List ℕ = take (2 * (at + 1)) ws in
      let long : length front ≡ 2 * (at + 1) = length-take-le (2 * (at + 1)) ws (omega arith) in
      let size : length shifted ≡ length front + length {A = ℕ} (moved ++ behind) = length-append front (moved ++ behind) in
      let two : 2 * at + length {A = ℕ} (s ∷ e ∷ []) ≡ 2 * (at + 1) = omega arith in
      let low : take (2 * at) shifted ≡ take (2 * at) ws = take-append-le (2 * at) front (moved ++ behind) (omega arith) ∙ take-take (2 * at) (2 * (at + 1)) ws (omega arith) in
      let high : drop (2 * (at + 1)) shifted ≡ moved ++ behind = drop_at front (moved ++ behind) (2 * (at + 1)) long in
      rw (two, low, high) at (sets-eq (s ∷ e ∷ []) shifted (2 * at) (omega arith))

  stored_long : sets ws (2 * at) (s ∷ e ∷ moved) ≡ (take (2 * at) ws ++ (s ∷ e ∷ moved)) ++ behind
  unfolding moved
  stored_long =
      let all : 2 * at + length {A = ℕ} (s ∷ e ∷ moved) ≡ 2 * (at + 1) + 2 * (count - from) = omega (arith, moved_long) in
      rw all at (sets-eq (s ∷ e ∷ moved) ws (2 * at) (omega arith))

  pub copied_put : (v : List ℕ) → v ≡ paste ws (2 * (at + 1)) (drop (2 * from) ws) (2 * count - 2 * from)
      → put v at s e ≡ sets ws (2 * at) (s ∷ e ∷ flat_pairs (pairs_from ws from (count - from)))
  unfolding moved
  copied_put v is =
      rw (is, shifted_is) (put_sets shifted at s e
      ∙ stored_short
      ∙ append_assoc (take (2 * at) ws) (s ∷ e ∷ []) (moved ++ behind)
      ∙ sym (append_assoc (take (2 * at) ws) (s ∷ e ∷ moved) behind)
      ∙ sym stored_long)
