-- The lines of a list and of the listing, by index. Assumes nothing.
use Prim.Native.Nat.{ℕ, zero, suc, ◌+◌, ◌-◌, ◌≤◌, ◌<◌}
use mathlib.Core.Path.{◌≡◌, refl, sym, ap, ◌∙◌}
use mathlib.Core.List.{List, [], ◌∷◌, ◌++◌}
use native.Mathlib.Omega.{arith}
use lib.ListN.{length, get_or, get_or-append, get_or-eq_default}
use lib.Seq.{get_or-append-add}
use Rattle.query_item.specs.declared.ItemWords.{ItemWords}
use Rattle.query_item.specs.declared.QueryItem.{QueryItem}
use Rattle.query_item.specs.Items.{query_item, item_at, items_from}
use Rattle.intersect_many.specs.declared.ManyCounts.{ManyCounts}
use Rattle.item_lists.proofs.Words.{length_items}
use Rattle.lent_text.specs.Text.{stored}
use Rattle.krl_line.specs.Lines.{ours_word, theirs_word}
use Rattle.krl_listing.specs.Listing.{item_line, title_line, item_lines, list_lines, listing_lines, line_at, shared_word}

-- ---- the lines of a list, by index

length_item_lines : (pool : List ℕ) (its : List ItemWords) → length (item_lines pool its) ≡ length its
unfolding item_lines
length_item_lines pool [] = refl
length_item_lines pool (it ∷ its) = ap suc (length_item_lines pool its)

pub length_list_lines : (pool title : List ℕ) (its : List ItemWords) → length (list_lines pool title its) ≡ suc (length its)
unfolding list_lines
length_list_lines pool title its = ap suc (length_item_lines pool its)

item_line_at : (pool ws : List ℕ) (a n j : ℕ) → j < n → get_or (item_lines pool (items_from ws a n)) j [] ≡ item_line pool (query_item (item_at ws (a + j)))
unfolding item_lines items_from
item_line_at pool ws a zero j h = absurd (omega arith)
item_line_at pool ws a (suc n) zero h = let q : a + 0 ≡ a = omega arith in rw q
item_line_at pool ws a (suc n) (suc j) h = let q : a + suc j ≡ suc a + j = omega arith in rw q (item_line_at pool ws (suc a) n j (omega arith))

module _ (pool title ws : List ℕ) (n : ℕ) where
  pub line_title : (i : ℕ) → i ≡ 0 → get_or (list_lines pool title (items_from ws 0 n)) i [] ≡ title_line title n
  unfolding list_lines
  line_title i h = rw (h, length_items ws 0 n)

  pub line_item : (i : ℕ) → (i ≡ 0 → ⊥) → i ≤ n → get_or (list_lines pool title (items_from ws 0 n)) i [] ≡ item_line pool (query_item (item_at ws (i - 1)))
  unfolding list_lines
  line_item zero h l = absurd (h refl)
  line_item (suc i) h l =
      let q : 0 + i ≡ suc i - 1 = omega arith in
      item_line_at pool ws 0 n i (omega arith) ∙ ap (λ (j : ℕ). item_line pool (query_item (item_at ws j))) q

  pub item_stored : (i : ℕ) → (i ≡ 0 → ⊥) → i ≤ n → (l o : List ℕ) (r : ℕ) (it : ItemWords) (q : QueryItem) → it ≡ item_at ws (i - 1) → q ≡ query_item it
      → (r ≡ length (item_line pool q)) × (o ≡ stored l 0 (item_line pool q))
      → (r ≡ length (get_or (list_lines pool title (items_from ws 0 n)) i [])) × (o ≡ stored l 0 (get_or (list_lines pool title (items_from ws 0 n)) i []))
  item_stored i h k l o r it q is-it is-q p =
      let e : item_line pool q ≡ get_or (list_lines pool title (items_from ws 0 n)) i [] =
      ap (λ (x : QueryItem). item_line pool x) (is-q ∙ ap query_item is-it) ∙ sym (line_item i h k)
      in
      (p.0 ∙ ap length e, p.1 ∙ ap (λ (x : List ℕ). stored l 0 x) e)

  -- of a list with more lines behind it, the lines up to its count are its own, and the others follow

  line_own : (rest : List (List ℕ)) (i : ℕ) → i ≤ n → get_or (list_lines pool title (items_from ws 0 n) ++ rest) i [] ≡ get_or (list_lines pool title (items_from ws 0 n)) i []
  line_own rest i h =
      get_or-append (list_lines pool title (items_from ws 0 n)) rest [] i (omega (arith, length_list_lines pool title (items_from ws 0 n), length_items ws 0 n))

  line_behind : (rest : List (List ℕ)) (i : ℕ) → n < i → get_or (list_lines pool title (items_from ws 0 n) ++ rest) i [] ≡ get_or rest (i - n - 1) []
  line_behind rest i h =
      let L = list_lines pool title (items_from ws 0 n) in
      let q : i ≡ length L + (i - n - 1) = omega (arith, length_list_lines pool title (items_from ws 0 n), length_items ws 0 n) in
      ap (λ (j : ℕ). get_or (L ++ rest) j []) q ∙ get_or-append-add L rest (i - n - 1) []

  line_past : (i : ℕ) → n < i → get_or (list_lines pool title (items_from ws 0 n)) i [] ≡ []
  line_past i h =
      get_or-eq_default (list_lines pool title (items_from ws 0 n)) [] {n = i} (omega (arith, length_list_lines pool title (items_from ws 0 n), length_items ws 0 n))

-- ---- the lines of the listing, by index

module _ (pool shared_out ours_out theirs_out : List ℕ) (n : ManyCounts) (i : ℕ) where
  pub line_shared : i ≤ n.shared → line_at pool shared_out ours_out theirs_out n i ≡ get_or (list_lines pool shared_word (items_from shared_out 0 n.shared)) i []
  unfolding line_at listing_lines
  line_shared h = line_own pool shared_word shared_out n.shared _ i h

  line_not_shared : n.shared < i
      → line_at pool shared_out ours_out theirs_out n i
      ≡ get_or (list_lines pool ours_word (items_from ours_out 0 n.ours) ++ list_lines pool theirs_word (items_from theirs_out 0 n.theirs)) (i - n.shared - 1) []
  unfolding line_at listing_lines
  line_not_shared h = line_behind pool shared_word shared_out n.shared _ i h

  pub line_ours : n.shared < i → i - n.shared - 1 ≤ n.ours
      → line_at pool shared_out ours_out theirs_out n i ≡ get_or (list_lines pool ours_word (items_from ours_out 0 n.ours)) (i - n.shared - 1) []
  line_ours h k = line_not_shared h ∙ line_own pool ours_word ours_out n.ours _ (i - n.shared - 1) k

  pub line_theirs : n.shared < i → n.ours < i - n.shared - 1
      → line_at pool shared_out ours_out theirs_out n i ≡ get_or (list_lines pool theirs_word (items_from theirs_out 0 n.theirs)) (i - n.shared - 1 - n.ours - 1) []
  line_theirs h k = line_not_shared h ∙ line_behind pool ours_word ours_out n.ours _ (i - n.shared - 1) k

  pub line_none : n.shared < i → n.ours < i - n.shared - 1 → n.theirs < i - n.shared - 1 - n.ours - 1
      → line_at pool shared_out ours_out theirs_out n i ≡ []
  line_none h k g = line_theirs h k ∙ line_past pool theirs_word theirs_out n.theirs (i - n.shared - 1 - n.ours - 1) g
