-- The steps of the program: what deciding a file leaves in the lists, and that every line of the answer is there, no longer than the longest.
-- Assumes nothing.
use Rattle.std.specs.Prelude.{Ok, Err, Result}
use Prim.Native.Nat.{ℕ, zero, suc, ◌+◌, ◌*◌, ◌≤◌}
use mathlib.Core.Path.{◌≡◌, refl, sym, ap, ◌∙◌}
use mathlib.Core.List.{List, [], ◌∷◌}
use native.Mathlib.Omega.{arith}
use lib.ListN.{length, get_or, take, drop}
use lib.Seq.{take-append_seam}
use Rattle.intervals.proofs.Laws.{All}
use Rattle.query_item.specs.declared.ItemWords.{ItemWords}
use Rattle.query_item.specs.Items.{item_size, flat_all}
use Rattle.item_check.specs.declared.Refusal.{Refusal}
use Rattle.item_check.proofs.Laws.{AllSound}
use Rattle.item_lists.specs.Lists.{Accepted}
use Rattle.item_lists.specs.Written.{written}
use Rattle.item_lists.proofs.Accepted.{list_of}
use Rattle.item_lists.proofs.Read.{items_flat, items_laid, front_laid}
use Rattle.intersect_many.specs.declared.ManyCounts.{ManyCounts}
use Rattle.intersect_many.specs.Lists.{shared_items, only_items, many_answer, IntersectMany}
use Rattle.intersect_many.proofs.Demands.{shared_accepted, without_accepted}
use Rattle.krl_file.specs.declared.FileParts.{FileParts}
use Rattle.krl_file.specs.File.{pool_of, ours_of, theirs_of, file_answer}
use Rattle.krl_file.proofs.Laws.{ReadFile, answered→read, length_ours, length_theirs}
use Rattle.lent_text.proofs.Laws.{stored_whole}
use Rattle.krl_line.specs.Lines.{refusal_line, PutFront}
use Rattle.krl_line.proofs.Laws.{refusal_few}
use Rattle.krl_listing.specs.Listing.{line_at, most_line}
use Rattle.krl_listing.proofs.Laws.{ShortKeys, Short, length_listing_lines, lines_few, sound_short}
use Rattle.krl_program.specs.Program.{our_words, their_words, list_room, file_lines, program_answer, program_lines}
use Rattle.krl_program.specs.Decided.{Rooms, Listed, Decided, lines_of, Asked, Given}
use Rattle.krl_program.proofs.Answered.{answered→lists, file_refused, many_is_program}

-- ---- the file's lists

-- of a file that is read to two lists: their records fit, and are the file's two lists
module _ (file ours theirs : List ℕ) (p : FileParts) (e : file_answer file ours theirs ≡ Ok p) where
  read : ReadFile file ours theirs p
  read = answered→read file ours theirs p e

  pub ours_fit : (ours' : List ℕ) → length ours' ≡ length ours → item_size * p.ours ≤ length ours'
  ours_fit ours' same = omega (arith, read.ours_room, ap (λ (q : FileParts). q.ours) read.parts)

  pub theirs_fit : (theirs' : List ℕ) → length theirs' ≡ length theirs → item_size * p.theirs ≤ length theirs'
  theirs_fit theirs' same = omega (arith, read.theirs_room, ap (λ (q : FileParts). q.theirs) read.parts)

  pub ours_are : (ours' : List ℕ) → ours' ≡ written (file_answer file ours theirs) (ours_of file) ours → take (item_size * p.ours) ours' ≡ our_words file
  ours_are ours' is = rw (is, e) (front_laid ours (ours_of file) p.ours (length_ours file ∙ sym (ap (λ (q : FileParts). q.ours) read.parts)))

  pub theirs_are : (theirs' : List ℕ) → theirs' ≡ written (file_answer file ours theirs) (theirs_of file) theirs → take (item_size * p.theirs) theirs' ≡ their_words file
  theirs_are theirs' is = rw (is, e) (front_laid theirs (theirs_of file) p.theirs (length_theirs file ∙ sym (ap (λ (q : FileParts). q.theirs) read.parts)))

-- ---- the decision

module _ (file ours theirs shared_out ours_out theirs_out : List ℕ) (R : Rooms ours theirs shared_out ours_out theirs_out) where
  -- a file that is refused has no lists
  pub decided_refused : (r : Refusal) → file_answer file ours theirs ≡ Err r → Decided file shared_out ours_out theirs_out (Err r)
  decided_refused r e = record {
    answer = sym (file_refused file ours theirs shared_out ours_out theirs_out R r e);
    lists = λ c h. cc;
  }

  -- a file that is read to two lists has the lists of these
  pub decided_read : (p : FileParts) → file_answer file ours theirs ≡ Ok p
      → (pool A B : List ℕ) → pool ≡ pool_of file → A ≡ our_words file → B ≡ their_words file
      → (r : Result ManyCounts Refusal) (shared_out' ours_out' theirs_out' : List ℕ)
      → IntersectMany pool A B shared_out ours_out theirs_out r shared_out' ours_out' theirs_out' → Decided file shared_out' ours_out' theirs_out' r
  decided_read p e pool A B is-pool is-A is-B r shared_out' ours_out' theirs_out' F =
      let is : r ≡ program_answer file = F.told ∙ rw (is-pool, is-A, is-B) (many_is_program file ours theirs shared_out ours_out theirs_out R p e) in
      record { answer = is; lists = λ c h. listed c (sym is ∙ h) (sym F.told ∙ h) }
    where
      listed : (c : ManyCounts) → program_answer file ≡ Ok c → many_answer pool A B shared_out ours_out theirs_out ≡ Ok c
          → Listed file shared_out' ours_out' theirs_out' c
      listed c h k =
          let n = sym (answered→lists file c h).counts in
          let P = pool_of file in
          let O = our_words file in
          let T = their_words file in
          record {
            shared = rw (F.shared, k, is-pool, is-A, is-B) (items_laid shared_out (shared_items P O T) c.shared (ap (λ (x : ManyCounts). x.shared) n));
            ours_only = rw (F.ours_only, k, is-pool, is-A, is-B) (items_laid ours_out (only_items P O T) c.ours (ap (λ (x : ManyCounts). x.ours) n));
            theirs_only = rw (F.theirs_only, k, is-pool, is-A, is-B) (items_laid theirs_out (only_items P T O) c.theirs (ap (λ (x : ManyCounts). x.theirs) n));
          }

-- ---- the lines

-- the items of an accepted list have short keys
all_short : (pool : List ℕ) (its : List ItemWords) → AllSound pool its → All ShortKeys its
all_short pool [] h = tt
all_short pool (it ∷ its) h = (sound_short pool it h.0, all_short pool its h.1)

words_short : (pool : List ℕ) (its : List ItemWords) → Accepted pool (flat_all its) → All ShortKeys its
words_short pool its a = all_short pool its (rw (items_flat its) at (list_of pool (flat_all its) a).sound)

all_at : (ls : List (List ℕ)) → All Short ls → (i : ℕ) → length (get_or ls i []) ≤ most_line
all_at [] h i = omega arith
all_at (l ∷ ls) h zero = h.0
all_at (l ∷ ls) h (suc i) = all_at ls h.1 i

-- no line of a file's listing is longer than the longest
listing_short : (file : List ℕ) (c : ManyCounts) → program_answer file ≡ Ok c → All Short (file_lines file)
listing_short file c e =
    let v = answered→lists file c e in
    let pool = pool_of file in
    let A = our_words file in
    let B = their_words file in
    let n = v.counts in
    lines_few pool (shared_items pool A B) (only_items pool A B) (only_items pool B A)
    (words_short pool (shared_items pool A B) (shared_accepted pool A B v.ours v.theirs (rw n at v.few_shared)))
    (words_short pool (only_items pool A B) (without_accepted pool A B v.ours v.theirs (rw n at v.few_ours)))
    (words_short pool (only_items pool B A) (without_accepted pool B A v.theirs v.ours (rw n at v.few_theirs)))

-- a text no longer than the lent bytes stands at their front
put_given : (file line line' text : List ℕ) (i n : ℕ) → most_line ≤ length line → length text ≤ most_line → PutFront line text n line'
    → length line' ≡ length line → text ≡ get_or (program_lines file) i [] → Given file i line' n
put_given file line line' text i n room short put same is = record {
  bytes = rw (put.0, put.1, stored_whole line text (omega arith)) (take-append_seam text (drop (length text) line)) ∙ is;
  within = omega (arith, put.0, same);
}

module _ (file shared_out ours_out theirs_out : List ℕ) where
  lines_listed : (c : ManyCounts) → Decided file shared_out ours_out theirs_out (Ok c) → program_lines file ≡ file_lines file
  unfolding program_lines
  lines_listed c d = rw (← d.answer)

  lines_refused : (r : Refusal) → Decided file shared_out ours_out theirs_out (Err r) → program_lines file ≡ refusal_line r ∷ []
  unfolding program_lines
  lines_refused r d = rw (← d.answer)

  -- there are as many lines as are asked for
  pub lines_counted : (r : Result ManyCounts Refusal) → Decided file shared_out ours_out theirs_out r → (lines_of r ≡ length (program_lines file)) × (lines_of r ≤ 3 + 3 * list_room)
  lines_counted (Ok c) d =
      let v = answered→lists file c (sym d.answer) in
      let n = v.counts in
      let pool = pool_of file in
      let A = our_words file in
      let B = their_words file in (
        rw (lines_listed c d)
            (omega (
              arith,
              length_listing_lines pool (shared_items pool A B) (only_items pool A B) (only_items pool B A),
              ap (λ (x : ManyCounts). x.shared) n,
              ap (λ (x : ManyCounts). x.ours) n,
              ap (λ (x : ManyCounts). x.theirs) n,
            )),
        omega (arith, v.few_shared, v.few_ours, v.few_theirs),
      )
  lines_counted (Err r) d = (rw (lines_refused r d), omega arith)

  -- a line of the listing
  pub line_listed : (c : ManyCounts) (i : ℕ) (line line' : List ℕ) (n : ℕ) → Asked file shared_out ours_out theirs_out (Ok c) i line
      → PutFront line (line_at (pool_of file) shared_out ours_out theirs_out c i) n line' → length line' ≡ length line → Given file i line' n
  unfolding line_at
  line_listed c i line line' n a put same =
      let l = a.decided.lists c refl in
      let is : line_at (pool_of file) shared_out ours_out theirs_out c i ≡ get_or (program_lines file) i [] =
      rw (l.shared, l.ours_only, l.theirs_only, lines_listed c a.decided) in
      put_given file line line' (line_at (pool_of file) shared_out ours_out theirs_out c i) i n a.room
      (rw (is, lines_listed c a.decided) (all_at (file_lines file) (listing_short file c (sym a.decided.answer)) i)) put same is

  -- the one line of a refusal
  pub line_refused : (r : Refusal) (i : ℕ) (line line' : List ℕ) (n : ℕ) → Asked file shared_out ours_out theirs_out (Err r) i line
      → PutFront line (refusal_line r) n line' → length line' ≡ length line → Given file i line' n
  line_refused r i line line' n a put same =
      let text = refusal_line r in
      let e = lines_refused r a.decided in
      let first : i ≡ 0 = omega (arith, a.there, ap length e) in
      put_given file line line' text i n a.room (omega (arith, refusal_few r)) put same (rw (first, e))
