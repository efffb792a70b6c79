-- A row with a doubled quote is bad, and so a quoted field may be taken to end at the next quote. Assumes nothing.
use Prim.Native.Nat.{ℕ, suc, ◌+◌, ◌%◌, ◌≤◌, ◌<◌}
use mathlib.Core.Path.{◌≡◌, refl, sym, ap, ◌∙◌}
use mathlib.Core.Bool.{Bool, true, false, cond, not, ◌||◌, ◌&&◌, and-false, or-true, false≢true}
use mathlib.Core.List.{List, [], ◌∷◌}
use native.Mathlib.Omega.{arith}
use lib.ListN.{length, take, drop, length-drop}
use lib.Dec.{eqb, ltb, leb-suc-suc}
use borrow.Author.Tests.{eqb-true, lt-ltb, ltb-true, ne_eqb}
use Rattle.key_order.proofs.Laws.{compare_same}
use Rattle.query_item.specs.Items.{same}
use Rattle.item_check.specs.Checks.{has_start, has_end}
use Rattle.sheet_row.specs.Fields.{
  Split,
  split,
  broken,
  Ended,
  ended,
  unended,
  comma,
  quote,
  carriage_return,
  line_feed,
  is_text,
  leading,
  with_byte,
  unquoted,
  quoted,
  field,
  after_comma,
  next_field,
  row_end,
  end_of,
  content,
}
use Rattle.item_name.specs.Names.{
  key_name,
  range_name,
  range_inclusive_name,
  range_full_name,
  range_from_name,
  range_to_name,
  range_to_inclusive_name,
  range_after_name,
  range_after_to_name,
  range_after_to_inclusive_name,
  code_of,
}
use Rattle.sheet_row.specs.Lanes.{is_hex, all_hex, is_key, fits_field, is_lane, bad_row, closed, row_by, first_row}
use Rattle.sheet_read.specs.Scan.{not_quote, short_quoted, short_field, short_after, short_next}
use Rattle.std.proofs.lemmas.List.{length-take}

-- ---- no name and no key has a quote

unfoldable has_quote : List ℕ → Bool
has_quote [] = false
has_quote (b ∷ s) = eqb b quote || has_quote s

same_not : (f w : List ℕ) → has_quote f ≡ true → has_quote w ≡ false → same f w ≡ false
same_not f w h e = go (same f w) refl
  where
    go : (t : Bool) → same f w ≡ t → t ≡ false
    go true c = absurd (false≢true (sym e ∙ ap has_quote (sym ((compare_same f w).0 c)) ∙ h))
    go false c = refl

code_quote : (f : List ℕ) → has_quote f ≡ true → code_of f ≡ 10
unfolding code_of has_quote
code_quote f h =
    rw (
      same_not f key_name h refl,
      same_not f range_name h refl,
      same_not f range_inclusive_name h refl,
      same_not f range_full_name h refl,
      same_not f range_from_name h refl,
      same_not f range_to_name h refl,
      same_not f range_to_inclusive_name h refl,
      same_not f range_after_name h refl,
      same_not f range_after_to_name h refl,
      same_not f range_after_to_inclusive_name h refl,
    )

hex_quote : (f : List ℕ) → has_quote f ≡ true → all_hex f ≡ false
unfolding has_quote all_hex
hex_quote [] h = absurd (false≢true h)
hex_quote (b ∷ f) h = go (eqb b quote) refl (hex_quote f)
  where
    both : (t : Bool) → cond t false false ≡ false
    both true = refl
    both false = refl

    go : (t : Bool) → eqb b quote ≡ t → (has_quote f ≡ true → all_hex f ≡ false) → cond (is_hex b) (all_hex f) false ≡ false
    go true e more = rw (eqb-true b quote e)
    go false e more = rw (more (rw e at h)) (both (is_hex b))

key_quote : (f : List ℕ) → has_quote f ≡ true → is_key f ≡ false
unfolding has_quote
key_quote f h = rw (same_not f (45 ∷ []) h refl, hex_quote f h) (and-false (not (eqb (length f) 0) && eqb (length f % 2) 0))

fits_quote : (p : Bool) (f : List ℕ) → has_quote f ≡ true → fits_field p f ≡ false
unfolding has_quote
fits_quote true f h = rw (key_quote f h)
fits_quote false [] h = absurd (false≢true h)
fits_quote false (b ∷ f) h = ne_eqb (length (b ∷ f)) 0 (λ e. omega arith)

-- ---- a field of the grammar, and the one split at the next quote

abbrev spoilt : Split → Bool
spoilt (split f s) = has_quote f
spoilt broken = true

-- the same, or one with a quote in it beside one that a quote follows
data Like : Split → Split → Type 0 where
  alike : {c : Split} → Like c c
  doubled : {c : Split} {f s : List ℕ} → spoilt c ≡ true → Like c (split f (quote ∷ s))

spoilt_more : (b : ℕ) (c : Split) → spoilt c ≡ true → spoilt (with_byte b c) ≡ true
unfolding has_quote
spoilt_more b (split f s) h = rw h (or-true (eqb b quote))
spoilt_more b broken h = refl

spoilt_here : (b : ℕ) (c : Split) → eqb b quote ≡ true → spoilt (with_byte b c) ≡ true
unfolding has_quote
spoilt_here b (split f s) h = rw h
spoilt_here b broken h = refl

like_more : (b : ℕ) {c d : Split} → Like c d → Like (with_byte b c) (with_byte b d)
like_more b alike = alike
like_more b (doubled {c} {f} {s} h) = doubled {c = with_byte b c} {f = b ∷ f} {s = s} (spoilt_more b c h)

short_more : (b : ℕ) (s : List ℕ) → eqb b quote ≡ false → short_quoted (b ∷ s) ≡ with_byte b (short_quoted s)
unfolding short_quoted leading
short_more b s e = rw (e, leb-suc-suc (suc (leading not_quote s)) (length s)) (go (ltb (leading not_quote s) (length s)))
  where
    go : (t : Bool)
        → cond t (split (b ∷ take (leading not_quote s) s) (drop (suc (leading not_quote s)) s)) broken
        ≡ with_byte b (cond t (split (take (leading not_quote s) s) (drop (suc (leading not_quote s)) s)) broken)
    go true = refl
    go false = refl

short_here : (b : ℕ) (s : List ℕ) → eqb b quote ≡ true → short_quoted (b ∷ s) ≡ split [] s
unfolding short_quoted leading
short_here b s e = rw e (rw (lt-ltb 0 (suc (length s)) (omega arith)))

-- behind the first quote
closing_like : (s : List ℕ) → Like (quoted true s) (split [] s)
unfolding quoted
closing_like [] = alike
closing_like (c ∷ s) = go (eqb c quote) refl
  where
    go : (t : Bool) → eqb c quote ≡ t → Like (cond t (with_byte c (quoted false s)) (split [] (c ∷ s))) (split [] (c ∷ s))
    go true e = rw (eqb-true c quote e) (doubled {c = with_byte quote (quoted false s)} {f = []} {s = s} (spoilt_here quote (quoted false s) refl))
    go false e = alike

short_none : short_quoted [] ≡ broken
unfolding short_quoted leading
short_none = refl

quoted_like : (s : List ℕ) → Like (quoted false s) (short_quoted s)
unfolding quoted
quoted_like [] = rw short_none alike
quoted_like (b ∷ s) = go (eqb b quote) refl (quoted_like s)
  where
    go : (t : Bool) → eqb b quote ≡ t → Like (quoted false s) (short_quoted s)
        → Like (cond t (quoted true s) (with_byte b (quoted false s))) (short_quoted (b ∷ s))
    go true e l = rw (short_here b s e) (closing_like s)
    go false e l = rw (short_more b s e) (like_more b {c = quoted false s} {d = short_quoted s} l)

field_like : (s : List ℕ) → Like (field s) (short_field s)
unfolding field short_field
field_like [] = alike
field_like (b ∷ s) = go (eqb b quote)
  where
    go : (t : Bool) → Like (cond t (quoted false s) (unquoted (b ∷ s))) (cond t (short_quoted s) (unquoted (b ∷ s)))
    go true = quoted_like s
    go false = alike

next_like : (c : Split) → Like (next_field c) (short_next c)
unfolding after_comma short_after
next_like broken = alike
next_like (split f []) = alike
next_like (split f (b ∷ s)) = go (eqb b comma)
  where
    go : (t : Bool) → Like (cond t (field s) broken) (cond t (short_field s) broken)
    go true = field_like s
    go false = alike

-- ---- rows

closed_bad : (c : ℕ) (a b : List ℕ) (e : Ended) → is_lane c a b ≡ false → closed c a b e ≡ bad_row
closed_bad c a b (ended s) h = rw h
closed_bad c a b unended h = refl

bad_name : (n : Split) → spoilt n ≡ true → row_by n (next_field n) (next_field (next_field n)) ≡ bad_row
bad_name broken h = refl
bad_name (split f s) h =
    closed_bad (code_of f) (content (after_comma s)) (content (next_field (after_comma s))) (end_of (next_field (after_comma s))) (rw (code_quote f h))

bad_start : (n a : Split) → spoilt a ≡ true → row_by n a (next_field a) ≡ bad_row
bad_start n broken h = refl
bad_start n (split f s) h =
    let c = code_of (content n) in
    closed_bad c f (content (after_comma s)) (end_of (after_comma s))
    (rw (fits_quote (has_start c) f h) (and_false_left (ltb c 10) (fits_field (has_end c) (content (after_comma s)))))
  where
    and_false_left : (x y : Bool) → x && false && y ≡ false
    and_false_left true y = refl
    and_false_left false y = refl

bad_end : (n a b : Split) → spoilt b ≡ true → row_by n a b ≡ bad_row
bad_end n a broken h = refl
bad_end n a (split f s) h =
    let c = code_of (content n) in
    closed_bad c (content a) f (row_end s) (rw (fits_quote (has_end c) f h) (and-false (ltb c 10 && fits_field (has_start c) (content a))))

-- a quote is no end of a row
quote_open : (s : List ℕ) → row_end (quote ∷ s) ≡ unended
unfolding row_end
quote_open [] = refl
quote_open (b ∷ s) = refl

quote_after : (s : List ℕ) → short_after (quote ∷ s) ≡ broken
unfolding short_after
quote_after s = refl

ends_like : (n a : Split) {b d : Split} → Like b d → row_by n a b ≡ row_by n a d
ends_like n a alike = refl
ends_like n a (doubled {c} {f} {s} h) = bad_end n a c h ∙ rw (quote_open s)

starts_like : (n : Split) {a d : Split} → Like a d → row_by n a (next_field a) ≡ row_by n d (short_next d)
starts_like n (alike {c}) = ends_like n c {b = next_field c} {d = short_next c} (next_like c)
starts_like n (doubled {c} {f} {s} h) = bad_start n c h ∙ rw (quote_after s)

names_like : {n d : Split} → Like n d → row_by n (next_field n) (next_field (next_field n)) ≡ row_by d (short_next d) (short_next (short_next d))
names_like (alike {c}) = starts_like c {a = next_field c} {d = short_next c} (next_like c)
names_like (doubled {c} {f} {s} h) = bad_name c h ∙ rw (quote_after s)

-- the first row by fields split at the next quote
pub first_short : (s : List ℕ) → first_row s ≡ row_by (short_field s) (short_next (short_field s)) (short_next (short_next (short_field s)))
unfolding first_row
first_short s = names_like (field_like s)

-- ---- the row that the scanner finds

-- how many bytes a field and the text after it have, and one more; none where there is no field
abbrev extent : Split → ℕ
extent (split f s) = suc (length f + length s)
extent broken = 0

abbrev reach : Ended → ℕ
reach (ended s) = length s
reach unended = 0

part_extent : (n : ℕ) (s : List ℕ) → extent (split (take n s) (drop n s)) ≤ suc (length s)
part_extent n s = omega (arith, length-take n s, length-drop n s)

quoted_extent : (s : List ℕ) → extent (short_quoted s) ≤ length s
unfolding short_quoted
quoted_extent s = go (ltb (leading not_quote s) (length s)) refl
  where
    n : ℕ
    n = leading not_quote s

    go : (t : Bool) → ltb n (length s) ≡ t → extent (cond t (split (take n s) (drop (suc n) s)) broken) ≤ length s
    go true e = omega (arith, ltb-true _ _ e, length-take n s, length-drop (suc n) s)
    go false e = omega arith

field_extent : (s : List ℕ) → extent (short_field s) ≤ suc (length s)
unfolding short_field unquoted
field_extent [] = omega arith
field_extent (b ∷ s) = go (eqb b quote)
  where
    go : (t : Bool) → extent (cond t (short_quoted s) (unquoted (b ∷ s))) ≤ suc (suc (length s))
    go true = omega (arith, quoted_extent s)
    go false = part_extent (leading is_text (b ∷ s)) (b ∷ s)

after_extent : (s : List ℕ) → extent (short_after s) ≤ length s
unfolding short_after
after_extent [] = omega arith
after_extent (b ∷ s) = go (eqb b comma)
  where
    go : (t : Bool) → extent (cond t (short_field s) broken) ≤ suc (length s)
    go true = field_extent s
    go false = omega arith

end_reach : (s : List ℕ) → reach (row_end s) ≤ length s
unfolding row_end
end_reach [] = omega arith
end_reach (b ∷ []) = omega arith
end_reach (b ∷ c ∷ s) = go (eqb b carriage_return && eqb c line_feed)
  where
    go : (t : Bool) → reach (cond t (ended s) unended) ≤ suc (suc (length s))
    go true = omega arith
    go false = omega arith

module _ (s : List ℕ) where
  -- a field or the end of the row is missing

  pub lacks_name : broken ≡ short_field s → bad_row ≡ first_row s
  lacks_name e = sym (first_short s ∙ rw (← e))

  module _ {n s₁ : List ℕ} (fn : split n s₁ ≡ short_field s) where
    pub lacks_start : broken ≡ short_after s₁ → bad_row ≡ first_row s
    lacks_start e = sym (first_short s ∙ rw (← fn, ← e))

    module _ {a s₂ : List ℕ} (fa : split a s₂ ≡ short_after s₁) where
      pub lacks_end : broken ≡ short_after s₂ → bad_row ≡ first_row s
      lacks_end e = sym (first_short s ∙ rw (← fn, ← fa, ← e))

      module _ {b s₃ : List ℕ} (fb : split b s₃ ≡ short_after s₂) where
        pub lacks_close : unended ≡ row_end s₃ → bad_row ≡ first_row s
        lacks_close e = sym (first_short s ∙ rw (← fn, ← fa, ← fb, ← e))

        module _ {t : List ℕ} (ft : ended t ≡ row_end s₃) where
          pub row_found : closed (code_of n) a b (ended t) ≡ first_row s
          row_found = sym (first_short s ∙ rw (← fn, ← fa, ← fb, ← ft))

          pub row_shorter : length a + length b + length t < length s
          row_shorter = omega (
            arith,
            ap extent fn,
            field_extent s,
            ap extent fa,
            after_extent s₁,
            ap extent fb,
            after_extent s₂,
            ap reach ft,
            end_reach s₃,
          )
