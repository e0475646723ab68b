-- The fields of a record, and where they end, byte by byte; over plain values.
use Rattle.std.proofs.Common.{◌≡◌, ℕ, zero, suc, ◌+◌, ◌≤◌, ◌<◌, true, false, List, [], ◌∷◌, length}
use Rattle.std.proofs.Common.{drop, length-drop, get_or, Some, None, refl, ap, sym, ◌∙◌, arith, add-one}
use Rattle.std.proofs.Common.{drop-cons, ◌++◌}
use Rattle.std.proofs.lemmas.List.Elements.{All-append, All-cons, All-nil}
use Rattle.csv.specs.Machine.{step}
use Rattle.csv.specs.Reading.{default_config}
use Rattle.csv.specs.Records.{field_at}
use Rattle.csv.specs.declared.parser.State.{State}
use Rattle.twp_grammar.specs.Tokens.{begins_with}
use Rattle.twp_notes.specs.FieldNotes.{NamesLine}
use Rattle.twp_notes.specs.Records.{Fields, field}
use Rattle.twp_diagnose.specs.Marks.{span}
use Rattle.twp_diagnose.specs.RecordFields.{ends_field, field_size, field_end, field_span, is_comma}
use Rattle.twp_diagnose.specs.RecordFields.{NoneNames}
use Rattle.twp_diagnose.specs.steps.Fields.{GoesOn}

-- none of these records names the line, and the next one doesn't either
pub none_names_more : (line : ℕ) (rows : List Fields) (fields : Fields) → NoneNames line rows
    → (NamesLine fields line → ⊥) → NoneNames line (rows ++ fields ∷ [])
none_names_more line rows fields before none =
    All-append (λ (row : Fields). ¬ NamesLine row line) rows (fields ∷ []) before
    (All-cons (λ (row : Fields). ¬ NamesLine row line) fields [] none
    (All-nil (λ (row : Fields). ¬ NamesLine row line)))

-- the field at an index, or no bytes
pub text_found : (fields : Fields) (place : ℕ) (text : List ℕ) → Some text ≡ field_at fields place
    → text ≡ field fields place
unfolding field_at
text_found [] place text is = cc is
text_found (first ∷ more) zero text is = cc is
text_found (first ∷ more) (suc place) text is = text_found more place text is

pub text_missing : (fields : Fields) (place : ℕ) → None ≡ field_at fields place → [] ≡ field fields place
unfolding field_at
text_missing [] place is = refl
text_missing (first ∷ more) zero is = cc is
text_missing (first ∷ more) (suc place) is = text_missing more place is

-- a byte ends the field, or is one of it
byte_ends : (from : State) (byte : ℕ) (rest : List ℕ) → ends_field (step default_config from byte).1 ≡ true
    → field_size from (byte ∷ rest) ≡ 0
unfolding field_size
byte_ends from byte rest ends = rw ends refl

byte_is_of : (from next : State) (byte : ℕ) (rest : List ℕ)
    → ends_field (step default_config from byte).1 ≡ false → (step default_config from byte).0 ≡ next
    → field_size from (byte ∷ rest) ≡ 1 + field_size next rest
unfolding field_size
byte_is_of from next byte rest goes to = rw (goes, to) refl

pub ends_at : (from : State) (file : List ℕ) (at : ℕ) → at < length file
    → GoesOn from (get_or file at 0) None → field_size from (drop at file) ≡ 0
ends_at from file at within ends =
    ap (field_size from) (drop-cons file at 0 within)
    ∙ byte_ends from (get_or file at 0) (drop (suc at) file) ends

pub goes_at : (from next : State) (file : List ℕ) (at : ℕ) → at < length file
    → GoesOn from (get_or file at 0) (Some next)
    → field_size from (drop at file) ≡ 1 + field_size next (drop (at + 1) file)
goes_at from next file at within goes =
    ap (field_size from) (drop-cons file at 0 within)
    ∙ (byte_is_of from next (get_or file at 0) (drop (suc at) file) goes.0 goes.1
    ∙ ap (λ n. 1 + field_size next (drop n file)) (sym (add-one at)))

-- past the end there are no more bytes
none_left : (from : State) (bytes : List ℕ) → length bytes ≡ 0 → field_size from bytes ≡ 0
unfolding field_size
none_left from [] none = refl
none_left from (byte ∷ rest) none = absurd (omega (arith, none))

pub past_end : (from : State) (file : List ℕ) (at : ℕ) → length file ≤ at
    → field_size from (drop at file) ≡ 0
past_end from file at past = none_left from (drop at file) (omega (arith, length-drop at file))

-- the fields of a record, one after another
pub first_field : (file : List ℕ) (start place : ℕ) → place ≡ 0
    → field_span file start place ≡ span start (field_end file start)
unfolding field_span
first_field file start place is = rw is refl

pub next_field : (file : List ℕ) (start place left : ℕ) → place ≡ suc left
    → begins_with is_comma (drop (field_end file start) file) ≡ true
    → field_span file start place ≡ field_span file (field_end file start + 1) left
unfolding field_span
next_field file start place left is comma = rw (is, comma) refl

pub no_field : (file : List ℕ) (start place left : ℕ) → place ≡ suc left
    → begins_with is_comma (drop (field_end file start) file) ≡ false
    → field_span file start place ≡ span (field_end file start) (field_end file start)
unfolding field_span
no_field file start place left is other = rw (is, other) refl
