-- Reports that grow by a run of positions: a turn of the loop that stores them, and what the report is then of. Assumes nothing.
use Prim.Native.Nat.{ℕ, zero, suc, ◌+◌, ◌-◌, ◌≤◌, ◌<◌, min}
use mathlib.Core.Path.{◌≡◌, ap, ◌∙◌}
use mathlib.Core.List.{List, [], ◌++◌}
use native.Mathlib.Decide.{dec_lt}
use native.Mathlib.Omega.{arith}
use lib.ListN.{length, take, drop, replicate, set, length-append, length-replicate, drop_of_length-le}
use lib.Seq.{sets, sets-eq, take_all, take-append-le, take-append-add, take-append_seam, drop-append-add, take-nil}
use Rattle.position_given.specs.Positions.{count_up}
use Rattle.position_given.specs.Inner.{last_word}
use Rattle.position_given.proofs.Widths.{length_count}
use Rattle.position_report.specs.declared.PositionMismatch.{PositionMismatch}
use Rattle.position_report.specs.Reports.{most_reported, report_at, report_of}
use Rattle.position_report.specs.Inner.{with_run}

-- ---- a run that is not stored

pub run_none : (e : List ℕ) (n from k : ℕ) → k ≡ 0 → e ≡ sets e n (count_up from k)
unfolding count_up
run_none e n from k h = rw h

pub run_empty : (r : PositionMismatch) (from width : ℕ) → width ≡ 0 → r.total.0 ≤ last_word → r ≡ with_run r from width
unfolding with_run
run_empty r from width h l =
    let t : r.total.0 ≡ min (r.total.0 + width) last_word = omega arith in
    let k : min (most_reported - r.count) width ≡ 0 = omega arith in
    let c : r.count ≡ r.count + min (most_reported - r.count) width = omega arith in
    let e = run_none r.examples r.count from (min (most_reported - r.count) width) k in
    λ i. report_at (t i) (c i) (e i)

-- ---- a turn

module _ (e : List ℕ) (n from shown k : ℕ) where
  pub run_more : k < shown
      → sets (set e (n + k) (from + k)) (n + (k + 1)) (count_up (from + (k + 1)) (shown - (k + 1))) ≡ sets e (n + k) (count_up (from + k) (shown - k))
  unfolding count_up
  run_more h =
      let p : shown - k ≡ suc (shown - (k + 1)) = omega arith in
      let q : n + (k + 1) ≡ suc (n + k) = omega arith in
      let r : from + (k + 1) ≡ suc (from + k) = omega arith in
      rw (p, q, r)

  pub run_end : shown ≤ k → sets e (n + k) (count_up (from + k) (shown - k)) ≡ e
  unfolding count_up
  run_end h = let p : shown - k ≡ 0 = omega arith in rw p

pub run_start_lem : (e : List ℕ) (n from shown : ℕ) → sets e (n + 0) (count_up (from + 0) (shown - 0)) ≡ sets e n (count_up from shown)
run_start_lem e n from shown =
    let p : shown - 0 ≡ shown = omega arith in
    let q : n + 0 ≡ n = omega arith in
    let r : from + 0 ≡ from = omega arith in
    rw (p, q, r)

-- ---- a report of a list, with a run

take_count : (s k m : ℕ) → take m (count_up s k) ≡ count_up s (min m k)
unfolding count_up
take_count s zero m = let q : min m 0 ≡ 0 = omega arith in rw (q, take-nil m)
take_count s (suc k) zero = let q : min 0 (suc k) ≡ 0 = omega arith in rw q
take_count s (suc k) (suc m) = let q : min (suc m) (suc k) ≡ suc (min m k) = omega arith in rw (q, take_count (suc s) k m)

drop_zeros : (n m : ℕ) → drop {A = ℕ} m (replicate n 0) ≡ replicate (n - m) 0
drop_zeros zero m = let q : 0 - m ≡ 0 = omega arith in rw q (drop_of_length-le [] {i = m} (omega arith))
drop_zeros (suc n) zero = let q : suc n - 0 ≡ suc n = omega arith in rw q
drop_zeros (suc n) (suc m) = let q : suc n - suc m ≡ n - m = omega arith in rw q (drop_zeros n m)

add_min : (n m w : ℕ) → n + min m w ≤ n + m
add_min n m w = omega arith

left_over : (n w : ℕ) → most_reported - (n + w) ≡ most_reported - n - min (most_reported - n) w
left_over n w = omega arith

-- the examples of a list
abbrev shown_of : List ℕ → List ℕ
shown_of l = take most_reported l ++ replicate (most_reported - length l) 0

module _ (l : List ℕ) (from width : ℕ) where
  abbrev places : ℕ
  places = min (most_reported - min most_reported (length l)) width

  grown : length (l ++ count_up from width) ≡ length l + width
  grown = rw (length-append l (count_up from width), length_count from width)

  full : most_reported ≤ length l → sets (shown_of l) (min most_reported (length l)) (count_up from places) ≡ shown_of (l ++ count_up from width)
  unfolding count_up
  full h =
      let p : places ≡ 0 = omega arith in
      let q : most_reported - length (l ++ count_up from width) ≡ 0 = omega (arith, grown) in
      let r : most_reported - length l ≡ 0 = omega arith in
      rw (p, q, r, take-append-le most_reported l (count_up from width) h)

  partly : length l < most_reported → sets (shown_of l) (min most_reported (length l)) (count_up from places) ≡ shown_of (l ++ count_up from width)
  partly h =
      let m : ℕ = most_reported - length l in
      let n : min most_reported (length l) ≡ length l = omega arith in
      let room : most_reported ≡ length l + m = omega arith in
      let k : places ≡ min m width = omega arith in
      let z : most_reported - length (l ++ count_up from width) ≡ m - min m width = rw grown (left_over (length l) width) in
      let cut : take most_reported (l ++ count_up from width) ≡ l ++ count_up from (min m width) =
      ap (λ (x : ℕ). take x (l ++ count_up from width)) room
      ∙ take-append-add l (count_up from width) m
      ∙ ap (λ (t : List ℕ). l ++ t) (take_count from width m) in
      let c : length (count_up from (min m width)) ≡ min m width = length_count from (min m width) in
      rw (k, n, z, cut, take_all most_reported l (omega arith))
      (sets-eq (count_up from (min m width)) (l ++ replicate m 0) (length l) (rw (length-append l (replicate m 0), length-replicate {A = ℕ} m 0, c) (add_min (length l) m width))
      ∙ rw (take-append_seam l (replicate m 0), c, drop-append-add l (replicate m 0) (min m width), drop_zeros m (min m width)))

  pub run_report : length l + width ≤ last_word → with_run (report_of l) from width ≡ report_of (l ++ count_up from width)
  unfolding with_run report_of
  run_report h =
      let t : min (length l + width) last_word ≡ length (l ++ count_up from width) = omega (arith, grown) in
      let c : min most_reported (length l) + places ≡ min most_reported (length (l ++ count_up from width)) = omega (arith, grown) in
      let e : sets (shown_of l) (min most_reported (length l)) (count_up from places) ≡ shown_of (l ++ count_up from width) =
      elim (dec_lt (length l) most_reported) [ yes k ↦ partly k | no k ↦ full (omega arith) ] in
      λ i. report_at (t i) (c i) (e i)
