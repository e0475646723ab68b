-- Where in its file a fault is said to be.
use Rattle.std.specs.Prelude.{◌≡◌, ℕ, ◌+◌, ◌≤◌, ◌<◌, min, Option, None, length}
use Rattle.std.specs.Prelude.{MatchOption}
use Rattle.twp_excerpt.specs.Spots.{line_of, column_of}
use Rattle.twp_excerpt.specs.declared.spot.Spot.{Spot}
use Rattle.twp_diagnose.specs.declared.location.Given.{Given}
use Rattle.twp_diagnose.specs.declared.location.Location.{Location}
use Rattle.twp_diagnose.specs.declared.location.Location.TheVariants.{Whole, Line, Field, Part}

-- the place in a file, or its end
abbrev pub in_file : Given → ℕ → ℕ
in_file file at = min at (length file.bytes.now)

-- this is the line of a place in a file, whose lines are numbered from its first, if its number is one of a
-- `u32`
abbrev pub IsLineIn : Given → ℕ → ℕ → Type 0
IsLineIn file at line =
    line_of file.bytes.now (in_file file at) + file.first_line ≤ 4294967295
    → line + 1 ≡ line_of file.bytes.now (in_file file at) + file.first_line

-- this is the line and the column of a place in a file
pub record IsSpotIn (file : Given) (at : ℕ) (spot : Spot) : Type 0 where
  pub line : IsLineIn file at spot.line
  pub column : spot.column ≡ column_of file.bytes.now (in_file file at)

-- the most bytes of a file in which places are shown, which is more than any run reads
abbrev pub MOST_BYTES : ℕ
MOST_BYTES = 0x7FFFFFFF

-- the line and the column of a place in a file, unless the file is longer than that
abbrev pub IsSpotAt : Given → ℕ → Option Spot → Type 0
IsSpotAt file at spot = MatchOption spot (MOST_BYTES < length file.bytes.now) (IsSpotIn file at)

-- the line and the column that are explained of what is shown: none of a file as a whole
abbrev pub IsSpotOf : Given → Location → Option Spot → Type 0
IsSpotOf file Whole spot = spot ≡ None
IsSpotOf file (Line at_) spot = IsSpotAt file at_ spot
IsSpotOf file (Field span) spot = IsSpotAt file span.start spot
IsSpotOf file (Part span) spot = IsSpotAt file span.start spot
