-- Records that are written are read back as those records.
use Rattle.std.proofs.Common.{◌≡◌, ◌==◌, ℕ, ◌+◌, ◌*◌, ◌/◌, ◌%◌, ◌^◌, ◌≤◌, ◌<◌, Bool, true, false}
use Rattle.std.proofs.Common.{List, [], ◌∷◌, ◌++◌, length, Some, None, decimal, refl, ap, sym, ◌∙◌}
use Rattle.std.proofs.Common.{arith, append_assoc, length-append, if◌then◌else◌}
use Rattle.std.specs.List.{AllByRecursion, list_any, flat_map}
use Rattle.std.specs.Int.{IsInRange}
use Rattle.std.specs.Str.Parse.{AllDigits}
use Rattle.std.proofs.lemmas.Bool.{ne_eqb}
use Rattle.std.proofs.lemmas.Str.Parse.{digit_at}
use Rattle.std.proofs.lemmas.Fmt.{decimal_is_IsNumeral, length-decimal-le}
use Rattle.csv.specs.Machine.{next_record}
use Rattle.csv.specs.Reading.{records_from, default_config}
use Rattle.csv.specs.Writing.{default_writer, needs_byte, field_text, fields_text, row_text}
use Rattle.csv.specs.Writing.{is_blank}
use Rattle.csv.specs.declared.parser.State.TheVariants as st
use Rattle.csv.proofs.RoundTrip.{read-write-many}
use Rattle.twp_measure.specs.LengthTexts.{IsLength, digit_byte, third_decimal, length_text}
use Rattle.twp_notes.specs.Records.{Fields}
use Rattle.twp_notes.specs.NotesTexts.{rest_text, record_text}
use Rattle.twp_notes.proofs.RecordFacts.{records_after, no_records}

-- bytes that are not special in records: points, digits, and letters
abbrev pub IsPlain : List ℕ → Type 0
IsPlain text = AllByRecursion (λ byte. 46 ≤ byte) text

-- a record of at least two fields, all plain
pub data IsPlainRecord (fields : Fields) : Type 0 where
  fields_of : (first second : List ℕ) (rest : Fields) → fields ≡ first ∷ second ∷ rest
      → AllByRecursion IsPlain fields → IsPlainRecord fields

plain_byte : (byte : ℕ) → 46 ≤ byte → needs_byte default_writer byte ≡ false
plain_byte byte over =
    let comma : (byte == 44) ≡ false = ne_eqb byte 44 (λ same. omega arith) in
    let quote : (byte == 34) ≡ false = ne_eqb byte 34 (λ same. omega arith) in
    let carriage : (byte == 13) ≡ false = ne_eqb byte 13 (λ same. omega arith) in
    let feed : (byte == 10) ≡ false = ne_eqb byte 10 (λ same. omega arith) in
    rw (comma, quote, carriage, feed) refl

no_mark : (text : List ℕ) → IsPlain text → list_any (needs_byte default_writer) text ≡ false
no_mark [] plain = refl
no_mark (byte ∷ rest) plain = rw (plain_byte byte plain.0, no_mark rest plain.1) refl

-- a plain field is written unchanged
unquoted : (text : List ℕ) → IsPlain text → field_text default_writer text ≡ text
unquoted text plain = rw (no_mark text plain) refl

unquoted_rest : (fields : Fields) → AllByRecursion IsPlain fields
    → rest_text fields ≡ fields_text default_writer fields ++ (10 ∷ [])
unfolding fields_text
unquoted_rest [] plain = refl
unquoted_rest (field ∷ rest) plain =
    rw (unquoted field plain.0, unquoted_rest rest plain.1)
    (ap (λ (t : List ℕ). 44 ∷ t) (sym (append_assoc field (fields_text default_writer rest) (10 ∷ []))))

unquoted_record : (first second : List ℕ) (rest : Fields) → AllByRecursion IsPlain (first ∷ second ∷ rest)
    → record_text (first ∷ second ∷ rest) ≡ row_text default_writer (first ∷ second ∷ rest)
unfolding is_blank
unquoted_record first second rest plain =
    rw (unquoted first plain.0, unquoted_rest (second ∷ rest) plain.1)
    (sym (append_assoc first (fields_text default_writer (second ∷ rest)) (10 ∷ [])))

-- a record is read back, and the text after it remains
reads_back : (fields : Fields) (tail : List ℕ) → IsPlainRecord fields
    → next_record default_config st.StartRecord [] [] (record_text fields ++ tail)
    ≡ Some (fields, st.StartRecord, tail)
reads_back fields tail (fields_of first second rest is plain) =
    rw is (rw (unquoted_record first second rest (rw is at plain)) (read-write-many first second rest tail))

none_left : next_record default_config st.StartRecord [] [] [] ≡ None
unfolding next_record
none_left = refl

-- all records are read back
pub records_back : (rows : List Fields) → AllByRecursion IsPlainRecord rows
    → records_from default_config (length (flat_map record_text rows) + 1) st.StartRecord
    (flat_map record_text rows)
    ≡ rows
records_back [] plain = no_records st.StartRecord [] none_left
records_back (row ∷ rows) plain =
    let after =
    records_after st.StartRecord (flat_map record_text (row ∷ rows))
    (row, st.StartRecord, flat_map record_text rows) refl
    (reads_back row (flat_map record_text rows) plain.0) in
    after.0 ∙ ap (λ (more : List Fields). row ∷ more) (records_back rows plain.1)

-- digits are plain
plain_digits : (text : List ℕ) → AllDigits 10 text → IsPlain text
plain_digits [] all = tt
plain_digits (byte ∷ rest) all =
    let range : IsInRange 48 57 byte = digit_at (byte ∷ rest) 0 all (omega arith) in
    (omega arith, plain_digits rest all.1)

pub plain_decimal : (n : ℕ) → n < 2 ^ 64 → IsPlain (decimal n)
plain_decimal n small = plain_digits (decimal n) (decimal_is_IsNumeral n small).0.1

plain_append : (front back : List ℕ) → IsPlain front → IsPlain back → IsPlain (front ++ back)
plain_append [] back plain plain' = plain'
plain_append (byte ∷ rest) back plain plain' = (plain.0, plain_append rest back plain.1 plain')

plain_third : (digit : ℕ) (none : Bool) → IsPlain (if none then [] else digit_byte digit ∷ [])
plain_third digit true = tt
plain_third digit false = (omega arith, tt)

-- a length's text is plain and short
pub plain_length : (v : ℕ) → IsLength v → IsPlain (length_text v)
plain_length v bound =
    plain_append (decimal (v / 1000)) _ (plain_decimal (v / 1000) (omega arith))
    (omega arith, (omega arith, (omega arith, plain_third (v % 10) (v % 10 == 0))))

third_short : (digit : ℕ) (none : Bool) → length (if none then [] else digit_byte digit ∷ []) ≤ 1
third_short digit true = omega arith
third_short digit false = omega arith

pub length_short : (v : ℕ) → IsLength v → length (length_text v) ≤ 6
length_short v bound =
    let whole : length (decimal (v / 1000)) ≤ 2 =
    length-decimal-le 2 (v / 1000) (omega arith) (omega arith) (omega arith) in
    let third : length (third_decimal v) ≤ 1 = third_short (v % 10) (v % 10 == 0) in
    simp length-append (omega arith)

-- if records are short, so is their text
pub texts_short : (rows : List Fields) (most : ℕ)
    → AllByRecursion (λ (fields : Fields). length (record_text fields) ≤ most) rows
    → length (flat_map record_text rows) ≤ most * length rows
texts_short [] most short = omega arith
texts_short (row ∷ rows) most short =
    let rest : length (flat_map record_text rows) ≤ most * length rows = texts_short rows most short.1 in
    let first : length (record_text row) ≤ most = short.0 in
    rw (length-append (record_text row) (flat_map record_text rows)) (grind arith)
