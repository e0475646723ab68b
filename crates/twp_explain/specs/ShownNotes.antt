-- What is noted of accepted input, and what the text of a note says of its place.
use Rattle.std.specs.Prelude.{◌≡◌, ◌≤◌, ◌<◌, List, ℕ, ◌+◌, length, Option, MatchOption}
use Rattle.twp_notes.specs.Records.{record_numbered, records_of}
use Rattle.twp_answers.specs.Tracts.{TRACTS_MOST, description_in}
use Rattle.twp_diagnose.specs.Origins.{IsFieldAt, place_of}
use Rattle.twp_diagnose.specs.RecordFields.{listed_span, IsListedAt}
use Rattle.twp_diagnose.specs.Spots.{IsSpotAt, IsSpotOf}
use Rattle.twp_diagnose.specs.declared.location.Given.{Given}
use Rattle.twp_diagnose.specs.declared.listed.Listed.{Listed}
use Rattle.twp_diagnose.specs.declared.location.Location.TheVariants.{Part}
use Rattle.twp_diagnose.specs.declared.location.Origin.{Origin}
use Rattle.twp_read.specs.Doubts.{HasNoDoubtfulPlace, AreDoubts}
use Rattle.twp_read.specs.declared.doubt.Doubts.{Doubts}
use Rattle.twp_diagnose.specs.ShownMessages.{IsMessageAt}
use Rattle.twp_explain.specs.declared.note.Note.{Note}

-- a note is of the first doubtful place of a text
pub record IsOfFirst (text : List ℕ) (note : Note) : Type 0 where
  pub doubts : Doubts
  pub are : AreDoubts text doubts
  pub at_is : note.at ≡ doubts.first.at

-- there is a note exactly if the text has a doubtful place
abbrev pub IsNoteOf : List ℕ → Option Note → Type 0
IsNoteOf text explained = MatchOption explained (HasNoDoubtfulPlace text) (IsOfFirst text)

-- The note shows its place in this file: its spot is there, and its text is a message that begins with the
-- file's name and that spot, and that underlines the place.
pub record ShowsNoteIn (file : Given) (note : Note) : Type 0 where
  pub spot_is : IsSpotOf file (Part note.span) note.spot
  pub text_is : IsMessageAt file (Part note.span) note.spot note.text.bytes.items note.parts

-- the spot of a note is that of its place in a text
abbrev pub IsSpotOfNote : Origin → Note → Type 0
IsSpotOfNote origin note = IsSpotAt origin.file (place_of origin note.at) note.spot

-- the description of a record of a list
abbrev pub description_of : List ℕ → ℕ → List ℕ
description_of tracts number = description_in (record_numbered (records_of tracts) number)

-- no description of the records before this one has a doubtful place
abbrev pub AreClearBefore : List ℕ → ℕ → Type 0
AreClearBefore tracts number =
    (other : ℕ) → 1 ≤ other → other ≤ length (records_of tracts) → other < number
    → HasNoDoubtfulPlace (description_of tracts other)

-- no description of a list has one: of the heading, and of the most tracts that a list can have
abbrev pub AreClear : List ℕ → Type 0
AreClear tracts = AreClearBefore tracts (TRACTS_MOST + 2)

-- a note is of the first description of a list that has a doubtful place, and its spot is where that is in
-- the list
pub record IsOfFirstTract (tracts : Given) (note : Note) : Type 0 where
  pub number : ℕ
  pub before : AreClearBefore tracts.bytes.now number
  pub is : IsOfFirst (description_of tracts.bytes.now number) note
  pub listed : Listed
  pub listed_is : IsListedAt tracts number listed
  pub origin : Origin
  pub file_is : origin.file ≡ tracts
  pub in_its_field : IsFieldAt (listed_span listed 1).start origin
  pub spot_is : IsSpotOfNote origin note

-- there is a note exactly if a description of the list has a doubtful place
abbrev pub IsNoteOfList : Given → Option Note → Type 0
IsNoteOfList tracts explained = MatchOption explained (AreClear tracts.bytes.now) (IsOfFirstTract tracts)
