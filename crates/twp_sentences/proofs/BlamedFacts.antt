-- Which field of a record fails, over plain values.
use Rattle.std.proofs.Common.{◌≡◌, ◌≢◌, ◌⊎◌, ◌<◌, ℕ, List, length, codes, inl, inr, refl, ◌∙◌, arith}
use Rattle.std.proofs.Common.{Option, Some, None, [], ◌∷◌}
use Rattle.std.proofs.lemmas.List.Elements.{All-cons, All-nil}
use Rattle.std.specs.Prelude.{MatchOption}
use Rattle.twp_measure.specs.LengthTexts.{IsLengthText}
use Rattle.twp_grid.specs.Lines.{IsLine, IsSide, LiesBeside}
use Rattle.twp_grid.specs.Townships.{north_south_letter, east_west_letter}
use Rattle.twp_grid.specs.Townships.{designation}
use Rattle.twp_grid.specs.declared.township.NorthSouth.{NorthSouth}
use Rattle.twp_grid.specs.declared.township.NorthSouth.TheVariants as side
use Rattle.twp_grid.specs.declared.township.EastWest.{EastWest}
use Rattle.twp_notes.specs.Records.{Fields, field, records_of}
use Rattle.twp_notes.specs.FieldNotes.{FIELDS, heading, IsTownshipRecord, IsSectionNumber, IsNeighborText}
use Rattle.twp_notes.specs.FieldNotes.{NamesLine}
use Rattle.twp_notes.specs.NotesFaults.{HasNone, HasNoSection, HasNoLength}
use Rattle.twp_notes.proofs.FieldFacts.{five_fields}
use Rattle.twp_plat.specs.PlatFaults.{place_of}
use Rattle.twp_plat.specs.declared.fault.PlatFault.{PlatFault}
use Rattle.twp_diagnose.specs.RecordFields.{IsFirstOfLine, NoneNames}
use Rattle.twp_diagnose.specs.declared.location.Location.{Location}
use Rattle.twp_diagnose.specs.declared.location.Location.TheVariants.{Whole}
use Rattle.twp_diagnose.specs.declared.records.Record.{Record}
use Rattle.twp_sentences.specs.Blamed.{IsTownshipText}
use Rattle.twp_sentences.specs.BlamedDistances.{distance_of, as_a_whole, in_its_record, IsShownIn}
use Rattle.twp_sentences.specs.BlamedDistances.{ShowsDistance}

-- five fields of which four are the heading's are the heading, or the last one differs
pub unlike_last : (fields : Fields) → length fields ≡ FIELDS → fields ≢ heading
    → field fields 0 ≡ codes "line" → field fields 1 ≡ codes "between" → field fields 2 ≡ codes "and"
    → field fields 3 ≡ codes "quarter" → field fields 4 ≢ codes "corner"
unlike_last fields size other line between and quarter corner =
    other (five_fields fields size ∙ rw (line, between, and, quarter, corner) refl)

-- a text that is neither letter is no side of the base line
pub no_side : (text : List ℕ) → ((text ≡ codes "N") ⊎ (text ≡ codes "S") → ⊥)
    → HasNone (λ (side : NorthSouth). text ≡ north_south_letter side)
no_side text neither side.N is = neither (inl is)
no_side text neither side.S is = neither (inr is)

-- where the first four fields are a township's, and the record is none, the last one fails
pub no_way : (fields : Fields) → length fields ≡ FIELDS → HasNone (IsTownshipRecord fields)
    → field fields 0 ≡ codes "T" → IsTownshipText (field fields 1)
    → (field fields 2 ≡ codes "N") ⊎ (field fields 2 ≡ codes "S") → IsTownshipText (field fields 3)
    → HasNone (λ (way : EastWest). field fields 4 ≡ east_west_letter way)
no_way fields size none mark number (inl north) range way is =
    none (designation number.0 side.N range.0 way) (record {
      columns = size;
      mark = mark;
      number = (number.1, number.2);
      north_south = north;
      range = (range.1, range.2);
      east_west = is;
    })
no_way fields size none mark number (inr south) range way is =
    none (designation number.0 side.S range.0 way) (record {
      columns = size;
      mark = mark;
      number = (number.1, number.2);
      north_south = south;
      range = (range.1, range.2);
      east_west = is;
    })

-- where the first of two is one, the second isn't
pub no_neighbor : (fields : Fields) (section : ℕ) → IsSectionNumber (field fields 1) section
    → HasNoSection fields → HasNone (IsNeighborText (field fields 2))
no_neighbor fields section is (inl none) = absurd (none section is)
no_neighbor fields section is (inr none) = none

pub no_corner : (fields : Fields) (quarter : ℕ) → IsLengthText (field fields 3) quarter
    → HasNoLength fields → HasNone (IsLengthText (field fields 4))
no_corner fields quarter is (inl none) = absurd (none quarter is)
no_corner fields quarter is (inr none) = none

-- a distance is shown in the record of its line, or the notes as a whole
pub shown_distance : (notes : List ℕ) (is : PlatFault) (found : Option Record) (location : Location)
    → MatchOption found (NoneNames (place_of is) (records_of notes)) (IsFirstOfLine notes (place_of is))
    → IsShownIn found (distance_of is) location → ShowsDistance notes is location
shown_distance notes is None location none shown = as_a_whole none shown
shown_distance notes is (Some found) location named shown = in_its_record found named shown

-- a side of a section is a line of the township
side_is_line : (section index : ℕ) → IsSide section index → IsLine index
side_is_line section index is =
    let row : is.row < 6 = is.stands.row_range in
    let column : is.column < 6 = is.stands.column_range in
    elim is.side [
      | inl east ↦ omega arith
      | inr others ↦ elim others [
        | inl west ↦ omega arith
        | inr tiers ↦ elim tiers [
          | inl north ↦ omega arith
          | inr south ↦ omega arith
        ]
      ]
    ]

-- and so is a line beside a section
beside_is_line : (section : ℕ) (other : Option ℕ) (index : ℕ) → LiesBeside section other index → IsLine index
beside_is_line section None index is = side_is_line section index is.0
beside_is_line section (Some other) index is = side_is_line section index is.1

-- records name lines of the township alone
none_names_no_line : (place : ℕ) (rows : List Fields) → (IsLine place → ⊥) → NoneNames place rows
none_names_no_line place [] outside = All-nil (λ (row : Fields). ¬ NamesLine row place)
none_names_no_line place (row ∷ rows) outside =
    All-cons (λ (row : Fields). ¬ NamesLine row place) row rows
    (λ names. outside (beside_is_line names.section names.other place names.line_is.1))
    (none_names_no_line place rows outside)

-- where a fault's place is no line, the notes are shown as a whole
pub shown_no_line : (notes : List ℕ) (is : PlatFault) (location : Location) → (IsLine (place_of is) → ⊥)
    → location ≡ Whole → ShowsDistance notes is location
shown_no_line notes is location outside shown =
    as_a_whole (none_names_no_line (place_of is) (records_of notes) outside) shown
