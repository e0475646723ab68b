-- What is before the marks of a row, and after them.
use Rattle.std.proofs.Common.{◌≡◌, ◌==◌, ◌||◌, ◌&&◌, ◌<◌, ◌≤◌, ◌+◌, ◌∙◌, sym, Bool, true, false, List, []}
use Rattle.std.proofs.Common.{◌∷◌, ℕ}
use Rattle.std.proofs.Common.{zero, suc, refl}
use Rattle.std.proofs.Common.{◌-◌, ap, subst, add-one, arith, length, drop, slice_index, slice_index_or}
use Rattle.std.proofs.Math.Seq.{drop-cons}
use Rattle.std.proofs.lemmas.Bool.{eqb-true, eq-eqb, false≢true}
use Rattle.std.proofs.lemmas.List.{get_or-map, length-map}
use Rattle.std.proofs.Math.ListN.{get_or-map as get_or-map_as}
use Rattle.std.specs.Char.{to_ascii_lowercase}
use Rattle.std.specs.Str.{str_to_ascii_lowercase}
use Rattle.twp_grammar.specs.Tokens.{same_bytes}
use Rattle.twp_rules.specs.Rules.{is_entry}
use Rattle.twp_rules.specs.Lists.{after, before}
use Rattle.twp_rules.specs.steps.Rows.{entry_of, has_last}
use Rattle.twp_rules.proofs.SameTexts.{both, same_tells}

-- nothing is before a mark at the beginning
ends_here : (mark : ℕ) (row : List ℕ) (at : ℕ) → slice_index_or row at mark ≡ mark
    → before mark (drop at row) ≡ []
ends_here mark [] zero h = refl
ends_here mark [] (suc at) h = refl
ends_here mark (byte ∷ bytes) zero h = rw (eq-eqb byte mark h) refl
ends_here mark (byte ∷ bytes) (suc at) h = ends_here mark bytes at h

-- a text that has more bytes than are before a mark isn't the text before it
pub no_more : (mark : ℕ) (text row : List ℕ) (at : ℕ) → at < length text → slice_index_or row at mark ≡ mark
    → same_bytes (drop at text) (before mark (drop at row)) ≡ false
no_more mark text row at within h = rw (ends_here mark row at h, drop-cons text at 0 within) refl

-- the same, in lowercase
pub no_more_lower : (mark : ℕ) (text row : List ℕ) (at : ℕ) → at < length text
    → slice_index_or row at mark ≡ mark
    → same_bytes (str_to_ascii_lowercase (drop at text)) (before mark (drop at row)) ≡ false
no_more_lower mark text row at within h = rw (ends_here mark row at h, drop-cons text at 0 within) refl

-- what is after the mark comes after the text before it, and the mark
after_is : (mark : ℕ) (text row : List ℕ) → same_bytes text (before mark row) ≡ true
    → drop (suc (length text)) row ≡ after mark row
after_is mark [] [] h = refl
after_is mark [] (byte ∷ bytes) h = by_test (byte == mark) refl
  where
    by_test : (t : Bool) → (byte == mark) ≡ t → drop 1 (byte ∷ bytes) ≡ after mark (byte ∷ bytes)
    by_test true e = rw e refl
    by_test false e = absurd (false≢true (rw e at h))
after_is mark (x ∷ text) [] h = cc
after_is mark (x ∷ text) (byte ∷ bytes) h = by_test (after_is mark text bytes) (byte == mark) refl
  where
    by_test : (same_bytes text (before mark bytes) ≡ true → drop (suc (length text)) bytes ≡ after mark bytes)
        → (t : Bool) → (byte == mark) ≡ t → drop (suc (length text)) bytes ≡ after mark (byte ∷ bytes)
    by_test more true e = absurd (false≢true (rw e at h))
    by_test more false e =
        rw e (more (both (x == byte) (same_bytes text (before mark bytes)) (rw e at h)).1)

-- the mark is where the text before it ends
mark_is : (mark : ℕ) (text row : List ℕ) → same_bytes text (before mark row) ≡ true
    → slice_index_or row (length text) mark ≡ mark
mark_is mark [] [] h = refl
mark_is mark [] (byte ∷ bytes) h = by_test (byte == mark) refl
  where
    by_test : (t : Bool) → (byte == mark) ≡ t → byte ≡ mark
    by_test true e = eqb-true byte mark e
    by_test false e = absurd (false≢true (rw e at h))
mark_is mark (x ∷ text) [] h = cc
mark_is mark (x ∷ text) (byte ∷ bytes) h = by_test (mark_is mark text bytes) (byte == mark) refl
  where
    by_test : (same_bytes text (before mark bytes) ≡ true → slice_index_or bytes (length text) mark ≡ mark)
        → (t : Bool) → (byte == mark) ≡ t → slice_index_or bytes (length text) mark ≡ mark
    by_test more true e = absurd (false≢true (rw e at h))
    by_test more false e = more (both (x == byte) (same_bytes text (before mark bytes)) (rw e at h)).1

-- no more bytes are before the mark than there are
fits : (mark : ℕ) (text row : List ℕ) → same_bytes text (before mark row) ≡ true → length text ≤ length row
fits mark [] row h = omega arith
fits mark (x ∷ text) [] h = cc
fits mark (x ∷ text) (byte ∷ bytes) h = by_test (fits mark text bytes) (byte == mark) refl
  where
    by_test : (same_bytes text (before mark bytes) ≡ true → length text ≤ length bytes)
        → (t : Bool) → (byte == mark) ≡ t → length (x ∷ text) ≤ length (byte ∷ bytes)
    by_test more true e = absurd (false≢true (rw e at h))
    by_test more false e =
        let rest = more (both (x == byte) (same_bytes text (before mark bytes)) (rw e at h)).1 in
        omega arith

-- a text is ruled out by its length, if no mark is there
pub other_size : (mark : ℕ) (seen row : List ℕ) → (slice_index_or row (length seen) mark ≡ mark → ⊥)
    → same_bytes (str_to_ascii_lowercase seen) (before mark row) ≡ false
other_size mark seen row other = by_test (same_bytes (str_to_ascii_lowercase seen) (before mark row)) refl
  where
    by_test : (t : Bool) → same_bytes (str_to_ascii_lowercase seen) (before mark row) ≡ t → t ≡ false
    by_test true e =
        absurd
        (other (subst (λ (n : ℕ). slice_index_or row n mark ≡ mark) (length-map seen to_ascii_lowercase)
        (mark_is mark (str_to_ascii_lowercase seen) row e)))
    by_test false e = refl

-- what is written is ruled out by its length, if no filling is there
pub other_written : (written rest : List ℕ) → (slice_index_or rest (length written) 95 ≡ 95 → ⊥)
    → same_bytes written (before 95 rest) ≡ false
other_written written rest other = by_test (same_bytes written (before 95 rest)) refl
  where
    by_test : (t : Bool) → same_bytes written (before 95 rest) ≡ t → t ≡ false
    by_test true e = absurd (other (mark_is 95 written rest e))
    by_test false e = refl

-- or if the row ends before
pub longer_written : (written rest : List ℕ) → length rest < length written
    → same_bytes written (before 95 rest) ≡ false
longer_written written rest longer = by_test (same_bytes written (before 95 rest)) refl
  where
    by_test : (t : Bool) → same_bytes written (before 95 rest) ≡ t → t ≡ false
    by_test true e =
        let within = fits 95 written rest e in
        absurd (omega arith)
    by_test false e = refl

-- a row is an entry if it looks at the text and writes the other after it
pub is_entry_by_parts : (answer : Bool) (seen written row : List ℕ)
    → same_bytes (str_to_ascii_lowercase seen) (before 61 row) ≡ true
    → answer ≡ same_bytes written (before 95 (drop (length seen + 1) row))
    → answer ≡ is_entry seen written (entry_of row)
is_entry_by_parts answer seen written row h is =
    let size = length-map seen to_ascii_lowercase in
    let here : drop (suc (length seen)) row ≡ after 61 row =
    subst (λ (n : ℕ). drop (suc n) row ≡ after 61 row) size
    (after_is 61 (str_to_ascii_lowercase seen) row h) in
    rw h (rw (add-one, here) at is)

-- a word with another first byte is not what is before a row's mark, which is no capital letter
pub other_head : (mark : ℕ) (word row : List ℕ)
    → to_ascii_lowercase mark ≡ mark
    → (slice_index_or row 0 mark ≡ to_ascii_lowercase (slice_index_or word 0 mark) → ⊥)
    → same_bytes (str_to_ascii_lowercase word) (before mark row) ≡ false
other_head mark [] [] low other = absurd (other (sym low))
other_head mark [] (byte ∷ bytes) low other = by_test (byte == mark) refl
  where
    by_test : (t : Bool) → (byte == mark) ≡ t → same_bytes [] (before mark (byte ∷ bytes)) ≡ false
    by_test true e = absurd (other (eqb-true byte mark e ∙ sym low))
    by_test false e = rw e refl
other_head mark (x ∷ xs) [] low other = refl
other_head mark (x ∷ xs) (byte ∷ bytes) low other = by_test (byte == mark) refl
  where
    by_same : (t : Bool) → (to_ascii_lowercase x == byte) ≡ t
        → (t && same_bytes (str_to_ascii_lowercase xs) (before mark bytes)) ≡ false
    by_same true e = absurd (other (sym (eqb-true (to_ascii_lowercase x) byte e)))
    by_same false e = refl

    by_test : (t : Bool) → (byte == mark) ≡ t
        → same_bytes (str_to_ascii_lowercase (x ∷ xs)) (before mark (byte ∷ bytes)) ≡ false
    by_test true e = rw e refl
    by_test false e = rw e (by_same (to_ascii_lowercase x == byte) refl)

-- a text before a mark has the row's bytes
byte_is : (mark : ℕ) (text row : List ℕ) (at : ℕ) → at < length text
    → same_bytes text (before mark row) ≡ true → slice_index_or row at mark ≡ slice_index_or text at mark
byte_is mark [] row at within h = absurd (omega arith)
byte_is mark (x ∷ text) [] at within h = cc
byte_is mark (x ∷ text) (byte ∷ bytes) zero within h = by_test (byte == mark) refl
  where
    by_test : (t : Bool) → (byte == mark) ≡ t → byte ≡ x
    by_test true e = absurd (false≢true (rw e at h))
    by_test false e =
        sym (eqb-true x byte (both (x == byte) (same_bytes text (before mark bytes)) (rw e at h)).0)
byte_is mark (x ∷ text) (byte ∷ bytes) (suc at) within h =
    by_test (byte_is mark text bytes at (omega arith)) (byte == mark) refl
  where
    by_test :
        (same_bytes text (before mark bytes) ≡ true
        → slice_index_or bytes at mark ≡ slice_index_or text at mark)
        → (t : Bool) → (byte == mark) ≡ t → slice_index_or bytes at mark ≡ slice_index_or text at mark
    by_test more true e = absurd (false≢true (rw e at h))
    by_test more false e = more (both (x == byte) (same_bytes text (before mark bytes)) (rw e at h)).1

-- of two that are both false, the second is
second_is : (one other : Bool) → (one || other) ≡ false → other ≡ false
second_is true other h = cc h
second_is false other h = h

-- a word whose last byte is not at its place in a row is not what is before the row's mark
pub other_end : (mark : ℕ) (seen row : List ℕ) → has_last mark row seen ≡ false
    → same_bytes (str_to_ascii_lowercase seen) (before mark row) ≡ false
other_end mark [] row other = absurd (false≢true (sym other))
other_end mark (x ∷ xs) row other =
    by_test (same_bytes (str_to_ascii_lowercase (x ∷ xs)) (before mark row)) refl
  where
    by_test : (t : Bool) → same_bytes (str_to_ascii_lowercase (x ∷ xs)) (before mark row) ≡ t → t ≡ false
    by_test true e =
        let size = length-map (x ∷ xs) to_ascii_lowercase in
        let at = length (x ∷ xs) - 1 in
        let is = byte_is mark (str_to_ascii_lowercase (x ∷ xs)) row at (omega arith) e in
        let low = get_or-map to_ascii_lowercase (x ∷ xs) at 0 mark (omega arith) in
        let not_last = second_is (length (x ∷ xs) == 0)
        (slice_index_or row at mark == to_ascii_lowercase (slice_index (x ∷ xs) at)) other in
        absurd (false≢true (sym not_last ∙ eq-eqb (slice_index_or row at mark)
        (to_ascii_lowercase (slice_index (x ∷ xs) at)) (is ∙ low)))
    by_test false e = refl

-- a word with another byte at an index is not what is before a row's mark, which is no capital letter
pub other_at : (index mark : ℕ) (word row : List ℕ)
    → to_ascii_lowercase mark ≡ mark
    → (slice_index_or (before mark row) index mark ≡ to_ascii_lowercase (slice_index_or word index mark) → ⊥)
    → same_bytes (str_to_ascii_lowercase word) (before mark row) ≡ false
other_at index mark word row low other =
    by_test (same_bytes (str_to_ascii_lowercase word) (before mark row)) refl
  where
    by_test : (t : Bool) → same_bytes (str_to_ascii_lowercase word) (before mark row) ≡ t → t ≡ false
    by_test true e =
        absurd (other (ap (λ (xs : List ℕ). slice_index_or xs index mark)
        (sym (same_tells (str_to_ascii_lowercase word) (before mark row) e))
        ∙ ap (λ (m : ℕ). slice_index_or (str_to_ascii_lowercase word) index m) (sym low)
        ∙ get_or-map_as to_ascii_lowercase word index mark))
    by_test false e = refl
