-- The text that is written for notes is read back as those notes.
use Rattle.std.proofs.Common.{◌≡◌, ℕ, suc, ◌+◌, ◌-◌, ◌*◌, ◌≤◌, ◌<◌, List, [], ◌∷◌, ◌++◌, length}
use Rattle.std.proofs.Common.{inl, inr, Option, Some, None, codes, decimal, refl, ap, subst, sym}
use Rattle.std.proofs.Common.{◌∙◌, arith, length-append}
use Rattle.std.specs.List.{AllByRecursion, flat_map}
use Rattle.std.proofs.lemmas.Fmt.{decimal_is_IsNumeral, length-decimal-le}
use Rattle.csv.specs.Reading.{strip_bom}
use Rattle.twp_measure.specs.LengthTexts.{IsShortNumber, IsLength, length_text}
use Rattle.twp_measure.proofs.WrittenLengths.{written_is_length}
use Rattle.twp_grid.specs.Winding.{IsSection}
use Rattle.twp_grid.specs.Lines.{LINE_COUNT, IsSide, LiesBeside}
use Rattle.twp_grid.specs.Townships.{Designation, IsTownshipNumber}
use Rattle.twp_grid.specs.declared.line.Run.{Run}
use Rattle.twp_grid.specs.declared.line.Run.TheVariants as run
use Rattle.twp_grid.specs.declared.township.NorthSouth.{NorthSouth}
use Rattle.twp_grid.specs.declared.township.NorthSouth.TheVariants as ns
use Rattle.twp_grid.specs.declared.township.EastWest.{EastWest}
use Rattle.twp_grid.specs.declared.township.EastWest.TheVariants as ew
use Rattle.twp_notes.specs.Records.{Fields, records_of, record_at, record_numbered}
use Rattle.twp_grid.specs.Townships.{north_south_letter, east_west_letter}
use Rattle.twp_notes.specs.FieldNotes.{FieldNotes, NOTES_MOST, heading}
use Rattle.twp_notes.specs.FieldNotes.{run_text, returned_of, IsTownshipRecord}
use Rattle.twp_notes.specs.FieldNotes.{IsSectionNumber, IsNeighborText, NamesLine, IsLineRecord}
use Rattle.twp_notes.specs.FieldNotes.{IsLineNumber, AreNoteRecords, AreNotes}
use Rattle.twp_notes.specs.NotesTexts.{record_text, township_fields, neighbor_text, AreLineFields}
use Rattle.twp_notes.specs.NotesTexts.{AreLineRecords, text_before, AreWithinLimits}
use Rattle.twp_notes.specs.Laws.{WrittenIsRead}
use Rattle.twp_notes.specs.declared.parsing.Returned.{Returned}
use Rattle.twp_notes.proofs.NameFacts.{names_one}
use Rattle.twp_notes.proofs.WrittenRecords.{IsPlain, IsPlainRecord, fields_of, records_back}
use Rattle.twp_notes.proofs.WrittenRecords.{plain_decimal, plain_length, length_short, texts_short}

-- the digits of a number under 100
short_number : (n : ℕ) → n < 100 → IsShortNumber (decimal n) n
short_number n small =
    let numeral = decimal_is_IsNumeral n (omega arith) in
    record {
      numeral = numeral.0;
      places = length-decimal-le 2 n (omega arith) small (omega arith);
      value = sym numeral.1;
    }

short_text : (n : ℕ) → n < 100 → length (decimal n) ≤ 2
short_text n small = length-decimal-le 2 n (omega arith) small (omega arith)

-- a section that has sides is a valid section
section_range : (section line : ℕ) → IsSide section line → IsSection section
section_range section line side = elim side.stands.winds [
  | inl even ↦ (
    omega (arith, side.stands.row_range, side.stands.column_range),
    omega (arith, side.stands.row_range, side.stands.column_range),
  )
  | inr odd ↦ (
    omega (arith, side.stands.row_range, side.stands.column_range),
    omega (arith, side.stands.row_range, side.stands.column_range),
  )
]

section_text : (section line : ℕ) → IsSide section line → IsSectionNumber (decimal section) section
section_text section line side =
    let range : IsSection section = section_range section line side in
    (short_number section (omega arith), range)

-- the first section beside a line has the line as a side
first_side : (section : ℕ) (other : Option ℕ) (line : ℕ) → LiesBeside section other line → IsSide section line
first_side section (Some other) line beside = beside.1
first_side section None line beside = beside.0

neighbor_is : (section : ℕ) (other : Option ℕ) (line : ℕ) → LiesBeside section other line
    → IsNeighborText (neighbor_text other) other
neighbor_is section (Some other) line beside = section_text other line beside.2
neighbor_is section None line beside = refl

-- facts about a neighbor's text
record IsShortPlain (text : List ℕ) (most : ℕ) : Type 0 where
  plain : IsPlain text
  short : length text ≤ most

short_plain : (n : ℕ) → n < 100 → IsShortPlain (decimal n) 2
short_plain n small = record { plain = plain_decimal n (omega arith); short = short_text n small }

section_plain : (section line : ℕ) → IsSide section line → IsShortPlain (decimal section) 2
section_plain section line side =
    let range : IsSection section = section_range section line side in
    short_plain section (omega arith)

neighbor_plain : (section : ℕ) (other : Option ℕ) (line : ℕ) → LiesBeside section other line
    → IsShortPlain (neighbor_text other) 2
neighbor_plain section (Some other) line beside = section_plain other line beside.2
neighbor_plain section None line beside = record { plain = tt; short = omega arith }

run_plain : (run : Run) → IsShortPlain (run_text run) 1
run_plain run.North = record { plain = (omega arith, tt); short = omega arith }
run_plain run.West = record { plain = (omega arith, tt); short = omega arith }

north_south_plain : (side : NorthSouth) → IsShortPlain (north_south_letter side) 1
north_south_plain ns.N = record { plain = (omega arith, tt); short = omega arith }
north_south_plain ns.S = record { plain = (omega arith, tt); short = omega arith }

east_west_plain : (side : EastWest) → IsShortPlain (east_west_letter side) 1
east_west_plain ew.E = record { plain = (omega arith, tt); short = omega arith }
east_west_plain ew.W = record { plain = (omega arith, tt); short = omega arith }

-- a record of five plain fields
five_plain : (a b c d e : List ℕ) → IsPlain a → IsPlain b → IsPlain c → IsPlain d → IsPlain e
    → IsPlainRecord (a ∷ b ∷ c ∷ d ∷ e ∷ [])
five_plain a b c d e pa pb pc pd pe = fields_of a b (c ∷ d ∷ e ∷ []) refl (pa, (pb, (pc, (pd, (pe, tt)))))

-- the length of its text
five_long : (a b c d e : List ℕ)
    → length (record_text (a ∷ b ∷ c ∷ d ∷ e ∷ [])) ≡ length a + length b + length c + length d + length e + 5
five_long a b c d e = simp length-append (omega arith)

-- the facts about the record of a line
record IsWrittenLine (line : ℕ) (returned : Returned) (fields : Fields) : Type 0 where
  is : IsLineRecord fields line returned
  plain : IsPlainRecord fields
  short : length (record_text fields) ≤ 22

written_line : (line : ℕ) (returned : Returned) (fields : Fields) → IsLength returned.quarter
    → IsLength returned.corner
    → AreLineFields line returned fields → IsWrittenLine line returned fields
written_line line returned fields quarter corner are =
    let beside = are.names.is_line.1 in
    let section = section_plain are.section line (first_side are.section are.other line beside) in
    let other = neighbor_plain are.section are.other line beside in
    let run = run_plain are.run in
    let short-quarter : length (length_text returned.quarter) ≤ 6 = length_short returned.quarter quarter in
    let short-corner : length (length_text returned.corner) ≤ 6 = length_short returned.corner corner in
    subst (IsWrittenLine line returned) (sym are.fields_are) (record {
      is = record {
        names = record {
          run = are.run;
          section = are.section;
          other = are.other;
          columns = refl;
          run_is = refl;
          section_is = section_text are.section line (first_side are.section are.other line beside);
          other_is = neighbor_is are.section are.other line beside;
          line_is = are.names.is_line;
        };
        returns = record {
          quarter = written_is_length returned.quarter quarter;
          corner = written_is_length returned.corner corner;
        };
      };
      plain =
          five_plain _ _ _ _ _ run.plain section.plain other.plain (plain_length returned.quarter quarter)
          (plain_length returned.corner corner);
      short =
          rw
          (five_long (run_text are.run) (decimal are.section) (neighbor_text are.other)
          (length_text returned.quarter) (length_text returned.corner))
          (omega (arith, run.short, section.short, other.short));
    })

-- the township's record
record IsWrittenTownship (township : Designation) : Type 0 where
  is : IsTownshipRecord (township_fields township) township
  plain : IsPlainRecord (township_fields township)
  short : length (record_text (township_fields township)) ≤ 22

written_township : (township : Designation) → IsTownshipNumber township.number
    → IsTownshipNumber township.range → IsWrittenTownship township
written_township township number range =
    let plain-number = short_plain township.number (omega arith) in
    let plain-range = short_plain township.range (omega arith) in
    let north_south = north_south_plain township.north_south in
    let east_west = east_west_plain township.east_west in
    record {
      is = record {
        columns = refl;
        mark = refl;
        number = (short_number township.number (omega arith), number);
        north_south = refl;
        range = (short_number township.range (omega arith), range);
        east_west = refl;
      };
      plain =
          five_plain _ _ _ _ _ (omega arith, tt) plain-number.plain north_south.plain plain-range.plain
          east_west.plain;
      short =
          rw
          (five_long (codes "T") (decimal township.number) (north_south_letter township.north_south)
          (decimal township.range) (east_west_letter township.east_west))
          (omega (arith, plain-number.short, plain-range.short, north_south.short, east_west.short));
    }

-- if a fact holds for the record at each index, it holds for all records
all_at : (P : Fields → Type 0) (rows : List Fields) → ((i : ℕ) → i < length rows → P (record_at rows i))
    → AllByRecursion P rows
all_at P [] at = tt
all_at P (row ∷ rows) at = (at 0 (omega arith), all_at P rows (λ i below. at (suc i) (omega arith)))

-- the records that are written for notes
record AreRowsOf (notes : FieldNotes) (rows : List Fields) : Type 0 where
  count : length rows ≡ LINE_COUNT
  each : (line : ℕ) → line < LINE_COUNT → IsWrittenLine line (returned_of notes line) (record_at rows line)

rows_of : (notes : FieldNotes) (rows : List Fields) → AreWithinLimits notes
    → AreLineRecords notes LINE_COUNT rows → AreRowsOf notes rows
rows_of notes rows within are = record {
  count = are.count_is;
  each = λ line below.
      let range = within.lengths line below in
      written_line line (returned_of notes line) (record_at rows line) range.0 range.1 (are.each line below);
}

-- the numbered record of a line is that of its index
numbered : (first second : Fields) (rows : List Fields) (line : ℕ)
    → record_numbered (first ∷ second ∷ rows) (line + 3) ≡ record_at rows line
numbered first second rows line =
    let e : line + 3 - 1 ≡ suc (suc line) = omega arith in
    rw e refl

numbered_back : (first second : Fields) (rows : List Fields) (number : ℕ) → 3 ≤ number
    → record_numbered (first ∷ second ∷ rows) number ≡ record_at rows (number - 3)
numbered_back first second rows number from =
    let e : number ≡ number - 3 + 3 = omega arith in
    subst (λ n. record_numbered (first ∷ second ∷ rows) n ≡ record_at rows (number - 3)) (sym e)
    (numbered first second rows (number - 3))

-- the records are those of the notes
are_records : (notes : FieldNotes) (rows : List Fields) → AreWithinLimits notes → AreRowsOf notes rows
    → AreNoteRecords (heading ∷ township_fields notes.township ∷ rows) notes
are_records notes rows within are =
    let all = heading ∷ township_fields notes.township ∷ rows in
    let count : length rows ≡ 84 = are.count in
    let below : (number : ℕ) → IsLineNumber all number → number - 3 < 84 =
    λ number is. omega (arith, is.0, is.1) in
    let line_of : (number : ℕ) → IsLineNumber all number
    → IsLineRecord (record_numbered all number) (number - 3) (returned_of notes (number - 3)) =
    λ number is.
    subst (λ (f : Fields). IsLineRecord f (number - 3) (returned_of notes (number - 3)))
    (sym (numbered_back heading (township_fields notes.township) rows number is.0))
    (are.each (number - 3) (below number is)).is in
    record {
      heading_is = refl;
      township_is = (written_township notes.township within.township.0 within.township.1).is;
      each = λ number is. (number - 3, line_of number is);
      once = λ number other line is is' names names'.
          let same : number - 3 ≡ line = names_one _ _ _ (line_of number is).names names in
          let same' : other - 3 ≡ line = names_one _ _ _ (line_of other is').names names' in
          let from : 3 ≤ number = is.0 in
          let from' : 3 ≤ other = is'.0 in
          omega arith;
      all = λ line is.
          let number : IsLineNumber all (line + 3) = (omega arith, omega arith) in (
            line + 3,
            number,
            subst (λ (f : Fields). NamesLine f line)
                (sym (numbered heading (township_fields notes.township) rows line))
                (are.each line is).is.names,
          );
      lines = within.count;
    }

-- the heading is read back as it is written
heading_plain : IsPlainRecord heading
heading_plain =
    five_plain (codes "line") (codes "between") (codes "and") (codes "quarter") (codes "corner")
    (omega arith, (omega arith, (omega arith, (omega arith, tt)))) (
      omega arith,
      (omega arith, (omega arith, (omega arith, (omega arith, (omega arith, (omega arith, tt)))))),
    )
    (omega arith, (omega arith, (omega arith, tt))) (
      omega arith,
      (omega arith, (omega arith, (omega arith, (omega arith, (omega arith, (omega arith, tt)))))),
    )
    (omega arith, (omega arith, (omega arith, (omega arith, (omega arith, (omega arith, tt))))))

-- the text does not begin with a byte order mark
no_mark : (notes : FieldNotes) (rows : List Fields)
    → strip_bom (text_before notes rows) ≡ text_before notes rows
unfolding strip_bom
no_mark notes rows = refl

-- the text has the records of the heading, of the township, and of the lines
records_are : (notes : FieldNotes) (rows : List Fields) → AreWithinLimits notes → AreRowsOf notes rows
    → records_of (text_before notes rows) ≡ heading ∷ township_fields notes.township ∷ rows
records_are notes rows within are =
    let township = written_township notes.township within.township.0 within.township.1 in
    let below : (line : ℕ) → line < length rows → line < 84 = λ line short. omega (arith, are.count) in
    rw (no_mark notes rows) (records_back (heading ∷ township_fields notes.township ∷ rows) (
      heading_plain,
      (township.plain, all_at IsPlainRecord rows (λ line short. (are.each line (below line short)).plain)),
    ))

-- the text is short enough
short_enough : (notes : FieldNotes) (rows : List Fields) → AreWithinLimits notes → AreRowsOf notes rows
    → length (text_before notes rows) ≤ NOTES_MOST
short_enough notes rows within are =
    let township = written_township notes.township within.township.0 within.township.1 in
    let below : (line : ℕ) → line < length rows → line < 84 = λ line short. omega (arith, are.count) in
    let lines : length (flat_map record_text rows) ≤ 22 * length rows =
    texts_short rows 22
    (all_at (λ (fields : Fields). length (record_text fields) ≤ 22) rows
    (λ line short. (are.each line (below line short)).short)) in
    let count : length rows ≡ 84 = are.count in
    let all : length (text_before notes rows)
    ≡ length (record_text heading)
    + (length (record_text (township_fields notes.township)) + length (flat_map record_text rows)) =
    length-append (record_text heading)
    (record_text (township_fields notes.township) ++ flat_map record_text rows)
    ∙ ap (λ n. length (record_text heading) + n)
    (length-append (record_text (township_fields notes.township)) (flat_map record_text rows)) in
    let few : length (record_text (township_fields notes.township)) ≤ 22 = township.short in
    let head : length (record_text heading) ≡ 32 = refl in
    omega arith

pub written_is_read : WrittenIsRead
written_is_read notes text within are =
    let rows : AreRowsOf notes are.rows = rows_of notes are.rows within are.rows_are in
    subst (λ t. AreNotes t notes) (sym are.text_is) (record {
      size = short_enough notes are.rows within rows;
      records_are = rw (records_are notes are.rows within rows) (are_records notes are.rows within rows);
    })
