-- What the text of an explanation says of the place that it shows in a file.
use Rattle.std.specs.Prelude.{◌≡◌, ℕ, List, Option, Some, None}
use Rattle.twp_excerpt.specs.Messages.{IsInParts}
use Rattle.twp_excerpt.specs.declared.message.Extract.{Extract}
use Rattle.twp_excerpt.specs.declared.message.MessagePlace.{MessagePlace}
use Rattle.twp_excerpt.specs.declared.message.MessagePlace.TheVariants as heading
use Rattle.twp_excerpt.specs.declared.message.Message.{Message}
use Rattle.twp_excerpt.specs.declared.message.MessageParts.{MessageParts}
use Rattle.twp_excerpt.specs.declared.spot.Span.{Span}
use Rattle.twp_excerpt.specs.declared.spot.Spot.{Spot}
use Rattle.twp_diagnose.specs.Spots.{IsSpotOf}
use Rattle.twp_diagnose.specs.declared.location.Given.{Given}
use Rattle.twp_diagnose.specs.declared.location.Location.{Location}
use Rattle.twp_diagnose.specs.declared.location.Location.TheVariants.{Whole, Line, Field, Part}
use Rattle.twp_diagnose.specs.declared.explanation.Explanation.{Explanation}

-- what a message names after the file: the line and the column of a part of a line; the line of a field, or
-- of a line of which nothing is shown; nothing where there is no one line
abbrev pub heading_of : Location → Option Spot → MessagePlace
heading_of location None = heading.File
heading_of (Part span) (Some spot) = heading.Place spot
heading_of location (Some spot) = heading.Line spot.line

-- the line that a message shows: the one of a field or a part, which is underlined, if it has a spot
abbrev pub extract_from : Given → Span → Option Spot → Option Extract
extract_from file span None = None
extract_from file span (Some spot) = Some (record { text = file.bytes; span = span; line = spot.line })

abbrev pub extract_of : Given → Location → Option Spot → Option Extract
extract_of file Whole spot = None
extract_of file (Line at_) spot = None
extract_of file (Field span) spot = extract_from file span spot
extract_of file (Part span) spot = extract_from file span spot

-- the text is a message about a location in a file, at this line and column of it, and these are its parts
pub record IsMessageAt (file : Given) (location : Location) (spot : Option Spot) (text : List ℕ)
    (parts : MessageParts) : Type 0 where
  pub message : Message
  pub name_is : message.name ≡ file.name
  pub heading_is : message.heading ≡ heading_of location spot
  pub extract_is : message.extract ≡ extract_of file location spot
  pub text_is : IsInParts message text parts

-- The explanation shows its place in this file: its spot is there, and its text is a message that begins with
-- the file's name and that spot, and that underlines the place.
pub record ShowsIn (file : Given) (explanation : Explanation) : Type 0 where
  pub spot_is : IsSpotOf file explanation.place explanation.spot
  pub text_is : IsMessageAt file explanation.place explanation.spot explanation.text.bytes.items
      explanation.parts
