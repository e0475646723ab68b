-- Which distance of a record is to blame where notes make no plat, and its limits.
use Rattle.std.specs.Prelude.{◌≡◌, ℕ, ◌+◌, ◌-◌, List, Option, Some, None}
use Rattle.twp_notes.specs.Records.{records_of}
use Rattle.twp_plat.specs.Closing.{HALF_MILE, TOLERANCE, CLOSING_LEAST, CLOSING_MOST}
use Rattle.twp_plat.specs.PlatFaults.{place_of}
use Rattle.twp_plat.specs.declared.fault.HalfMile.TheVariants as half
use Rattle.twp_plat.specs.declared.fault.PlatFault.{PlatFault}
use Rattle.twp_plat.specs.declared.fault.PlatFault.TheVariants as fault
use Rattle.twp_diagnose.specs.RecordFields.{fields_span, IsFirstOfLine, NoneNames}
use Rattle.twp_diagnose.specs.declared.location.Location.{Location}
use Rattle.twp_diagnose.specs.declared.location.Location.TheVariants.{Whole, Field}
use Rattle.twp_diagnose.specs.declared.records.Record.{Record}

-- the fields of the distances to the quarter corner and to the end of the line
abbrev pub QUARTER : ℕ
QUARTER = 3

abbrev pub CORNER : ℕ
CORNER = 4

-- the field of the distance that ends the half mile, or the quarter mile, of a fault
abbrev pub distance_of : PlatFault → ℕ
distance_of (fault.Irregular line half.First) = QUARTER
distance_of (fault.Irregular line half.Second) = CORNER
distance_of (fault.ClosingShort line) = CORNER
distance_of (fault.ClosingLong line) = CORNER

-- the least and the greatest length that are allowed there
abbrev pub least_of : PlatFault → ℕ
least_of (fault.Irregular line which) = HALF_MILE - TOLERANCE
least_of (fault.ClosingShort line) = CLOSING_LEAST
least_of (fault.ClosingLong line) = CLOSING_LEAST

abbrev pub most_of : PlatFault → ℕ
most_of (fault.Irregular line which) = HALF_MILE + TOLERANCE
most_of (fault.ClosingShort line) = CLOSING_MOST
most_of (fault.ClosingLong line) = CLOSING_MOST

-- a field is shown where it is in its record; if there is no record, the notes as a whole
abbrev pub IsShownIn : Option Record → ℕ → Location → Type 0
IsShownIn None place location = location ≡ Whole
IsShownIn (Some found) place location = location ≡ Field (fields_span found place place)

-- A fault of a line is shown at its distance in the first record that names the line; the notes are shown as
-- a whole only if no record does.
pub data ShowsDistance (notes : List ℕ) (is : PlatFault) (location : Location) : Type 0 where
  as_a_whole : NoneNames (place_of is) (records_of notes) → location ≡ Whole
      → ShowsDistance notes is location
  in_its_record : (found : Record) → IsFirstOfLine notes (place_of is) found
      → location ≡ Field (fields_span found (distance_of is) (distance_of is))
      → ShowsDistance notes is location
