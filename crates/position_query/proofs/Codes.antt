-- An item's range by its code is that by its boundaries, code by code. No proof cites this file. Assumes nothing.
use Rattle.std.proofs.Common.{◌≡◌, ℕ, List, refl, sym, ◌∙◌, lt-ltb}
use Rattle.query_item.specs.declared.KeyAt.{KeyAt}
use Rattle.query_item.specs.declared.ItemWords.{ItemWords}
use Rattle.query_item.specs.Items.{bytes_of, item_of}
use Rattle.query_item.specs.Boundaries.{to_range_set, range_of}
use Rattle.query_item.proofs.Laws.{each_item}
use Rattle.item_check.specs.Checks.{Answer}
use Rattle.position_key.specs.Keys.{position_answer}
use Rattle.position_query.specs.Codes.{first_by, past_by}
use Rattle.position_query.specs.Ranges.{first_of, past_of, both_of, clip_to, clipped}

module _ (pool : List ℕ) (a b : KeyAt) where
  pub code_first : (c : ℕ) → first_of pool (to_range_set (item_of c a b)).start ≡ first_by c (position_answer (bytes_of pool a))
  code_first =
      each_item a b (λ c q. first_of pool (to_range_set q).start ≡ first_by c (position_answer (bytes_of pool a)))
      refl refl refl refl refl refl refl refl refl refl (λ c h. sym (rw (lt-ltb 9 c h)))

  pub code_past : (c : ℕ) → past_of pool (to_range_set (item_of c a b)).end ≡ past_by c (position_answer (bytes_of pool a)) (position_answer (bytes_of pool b))
  code_past =
      each_item a b (λ c q. past_of pool (to_range_set q).end ≡ past_by c (position_answer (bytes_of pool a)) (position_answer (bytes_of pool b)))
      refl refl refl refl refl refl refl refl refl refl (λ c h. sym (rw (lt-ltb 9 c h)))

pub clipped_by : (pool : List ℕ) (count : ℕ) (it : ItemWords) (x y : Answer ℕ) → x ≡ first_by it.code (position_answer (bytes_of pool it.start))
    → y ≡ past_by it.code (position_answer (bytes_of pool it.start)) (position_answer (bytes_of pool it.end))
    → clipped pool count it ≡ clip_to count (both_of x y)
clipped_by pool count it x y p q =
    let first : first_of pool (range_of it).start ≡ x = code_first pool it.start it.end it.code ∙ sym p in
    let past : past_of pool (range_of it).end ≡ y = code_past pool it.start it.end it.code ∙ sym q in
    λ i. clip_to count (both_of (first i) (past i))
