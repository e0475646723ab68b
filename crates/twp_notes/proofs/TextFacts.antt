-- Texts that are built by appending.
use Rattle.std.proofs.Common.{◌≡◌, ℕ, ◌+◌, ◌≤◌, List, [], ◌∷◌, ◌++◌, length, take, get_or, map, inl}
use Rattle.std.proofs.Common.{inr, refl, ap, subst, sym, ◌∙◌, arith, append_assoc, length-append}
use Rattle.std.specs.Prelude.{Result, Ok, Err, OnOk, OnErr}
use Rattle.std.proofs.lemmas.Bool.{cases_lt}
use Rattle.std.proofs.lemmas.List.{append-nil, take_at, take-take, length_push}
use Rattle.std.proofs.lemmas.List.{get_or_push, get_or_append_left, flat_map_more}
use Rattle.twp_notes.specs.Records.{Fields}
use Rattle.twp_notes.specs.FieldNotes.{FieldNotes, heading, returned_of}
use Rattle.twp_notes.specs.NotesTexts.{record_text, township_fields, AreLineFields}
use Rattle.twp_notes.specs.steps.WrittenFields.{BeginsWith}
use Rattle.twp_notes.specs.NotesTexts.{AreLineRecords, text_before}

-- if more was appended, a text that begins with the longer part begins with the shorter one
pub begins_more : (old more between new : List ℕ) → between ≡ old ++ more → BeginsWith between new
    → BeginsWith old new
begins_more old more between new is begins =
    let short : length old ≤ length between = rw (is, length-append old more) (omega arith) in
    sym (take-take (length old) (length between) new short)
    ∙ ap (take (length old)) begins
    ∙ ap (take (length old)) is
    ∙ take_at old more (length old) refl

-- five fields, appended with the byte after each, make a record's text
pub five_appended : (old first second third fourth fifth a b c d e : List ℕ) → first ≡ old ++ (a ++ 44 ∷ [])
    → second ≡ first ++ (b ++ 44 ∷ []) → third ≡ second ++ (c ++ 44 ∷ [])
    → fourth ≡ third ++ (d ++ 44 ∷ []) → fifth ≡ fourth ++ (e ++ 10 ∷ [])
    → fifth ≡ old ++ record_text (a ∷ b ∷ c ∷ d ∷ e ∷ [])
five_appended old first second third fourth fifth a b c d e is-first is-second is-third is-fourth is-fifth =
    rw (is-fifth, is-fourth, is-third, is-second, is-first) (simp append_assoc)

-- five things by index
pub five_mapped : {X : Type 0} (f : X → List ℕ) (xs : List X) (x y z u v : X) → length xs ≡ 5
    → map f xs
    ≡ f (get_or xs 0 x) ∷ f (get_or xs 1 y) ∷ f (get_or xs 2 z) ∷ f (get_or xs 3 u) ∷ f (get_or xs 4 v) ∷ []
five_mapped f [] x y z u v h = absurd (omega arith)
five_mapped f (a ∷ []) x y z u v h = absurd (omega arith)
five_mapped f (a ∷ b ∷ []) x y z u v h = absurd (omega arith)
five_mapped f (a ∷ b ∷ c ∷ []) x y z u v h = absurd (omega arith)
five_mapped f (a ∷ b ∷ c ∷ d ∷ []) x y z u v h = absurd (omega arith)
five_mapped f (a ∷ b ∷ c ∷ d ∷ e ∷ []) x y z u v h = refl
five_mapped f (a ∷ b ∷ c ∷ d ∷ e ∷ g ∷ rest) x y z u v h = absurd (omega arith)

-- two facts about each success or each failure imply a third
pub on_ok : {A E : Type 0} (r : Result A E) {P Q : Type 0} → OnOk r P → (P → Q) → OnOk r Q
on_ok (Ok a) holds f = f holds
on_ok (Err e) holds f = tt

pub on_err : {A E : Type 0} (r : Result A E) {P Q : Type 0} → OnErr r P → (P → Q) → OnErr r Q
on_err (Ok a) holds f = tt
on_err (Err e) holds f = f holds

pub err_anyway : {A E : Type 0} (r : Result A E) {P : Type 0} → P → OnErr r P
err_anyway (Ok a) holds = tt
err_anyway (Err e) holds = holds

-- the heading, the township, and the lines below an index were appended
pub record IsWrittenTo (notes : FieldNotes) (count : ℕ) (old new : List ℕ) : Type 0 where
  pub rows : List Fields
  pub rows_are : AreLineRecords notes count rows
  pub text_is : new ≡ old ++ text_before notes rows

-- before the first line is written
pub no_line : (notes : FieldNotes) (old first new : List ℕ) → first ≡ old ++ record_text heading
    → new ≡ first ++ record_text (township_fields notes.township) → IsWrittenTo notes 0 old new
no_line notes old first new is-first is-new = record {
  rows = [];
  rows_are = record { count_is = refl; each = λ line below. absurd (omega arith) };
  text_is = is-new ∙ ap (λ (t : List ℕ). t ++ record_text (township_fields notes.township)) is-first
      ∙ append_assoc old (record_text heading) (record_text (township_fields notes.township))
      ∙ ap (λ (t : List ℕ). old ++ (record_text heading ++ t))
      (sym (append-nil (record_text (township_fields notes.township))));
}

-- one more line
pub line_more : (notes : FieldNotes) (count : ℕ) (old so_far new : List ℕ) (fields : Fields)
    → IsWrittenTo notes count old so_far
    → AreLineFields count (returned_of notes count) fields → new ≡ so_far ++ record_text fields
    → IsWrittenTo notes (count + 1) old new
line_more notes count old so_far new fields written are is =
    let rows = written.rows in
    let long : length rows ≡ count = written.rows_are.count_is in
    record {
      rows = rows ++ fields ∷ [];
      rows_are = record {
        count_is = rw (length_push rows fields) (omega arith);
        each = λ line below. elim (cases_lt line count) [
          | inl before ↦
              subst (AreLineFields line (returned_of notes line))
              (sym (get_or_append_left rows (fields ∷ []) [] line (omega arith)))
              (written.rows_are.each line before)
          | inr over ↦
              let last : line ≡ count = omega arith in
              rw last
              (subst (AreLineFields count (returned_of notes count))
              (sym (get_or_push rows fields [] count long)) are)
        ];
      };
      text_is = is ∙ ap (λ (t : List ℕ). t ++ record_text fields) written.text_is
          ∙ append_assoc old (text_before notes rows) (record_text fields)
          ∙ ap (λ (t : List ℕ). old ++ t)
          (flat_map_more record_text [] (heading ∷ township_fields notes.township ∷ rows) fields);
    }
