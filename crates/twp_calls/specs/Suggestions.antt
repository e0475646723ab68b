-- The readings of a text as plain data: where the text of each is, its changes, and what each change writes.
use Rattle.std.specs.Prelude.{◌≡◌, ℕ, ◌<◌, ◌≤◌, ◌++◌, ◌⊎◌, List, [], length, drop, Option, Some, None}
use Rattle.std.specs.List.{AllZip}
use Rattle.twp_grid.specs.Lands.{Lotting, STANDARD_LOTS}
use Rattle.twp_plat.specs.LotTables.{lots_of}
use Rattle.twp_suggest.specs.Assumptions.{assumed}
use Rattle.twp_suggest.specs.Readings.{AreReadings}
use Rattle.twp_suggest.specs.declared.assumptions.Assumption.{Assumption}
use Rattle.twp_suggest.specs.declared.assumptions.Assumption.TheVariants.{SameMeridian, SameAcreage, NotLand}
use Rattle.twp_suggest.specs.declared.assumptions.Assumption.TheVariants.{SaidBefore, WrongLetter}
use Rattle.twp_suggest.specs.declared.assumptions.Assumption.TheVariants.{NoMissingComma}
use Rattle.twp_rules.specs.Changes.{seen}
use Rattle.twp_rules.specs.declared.change.Change.{Change}
use Rattle.twp_suggest.specs.declared.meaning.manner.Manner.{Manner}
use Rattle.twp_suggest.specs.declared.meaning.manner.Manner.TheVariants.{Changed, LotsNamed, Remainder}
use Rattle.twp_suggest.specs.declared.reading.Reading.{Reading}
use Rattle.twp_rules.specs.declared.rule.Rule.{Rule}
use Rattle.twp_rules.specs.declared.rule.Rule.TheVariants.{Half, Quarter, Direction, Numeral, Copied}
use Rattle.twp_rules.specs.declared.rule.Rule.TheVariants.{CopiedStep, Damage, Exception}
use Rattle.twp_rules.specs.declared.rule.Rule.TheVariants.{Zeros, FractionDigit, Heading, SectionWord}
use Rattle.twp_rules.specs.declared.rule.Rule.TheVariants.{LotWord, Through, And, Comma, Semicolon}
use Rattle.twp_rules.specs.declared.rule.Rule.TheVariants.{OnePart, Mark, Word, Repeated, MovedSection}
use Rattle.twp_rules.specs.declared.rule.Rule.TheVariants.{MovedHeading, Meridian, Acreage, Label}
use Rattle.twp_calls.specs.Answers.{ACCEPTED, NO_MEMORY, NO_ROOM, bare}
use Rattle.twp_calls.specs.LotCalls.{ByLots}
use Rattle.twp_calls.specs.declared.answer.TownshipAnswer.{TownshipAnswer}
use Rattle.twp_calls.specs.declared.lots.TownshipLots.{TownshipLots as GivenLots}
use Rattle.twp_calls.specs.declared.suggestion.TownshipChange.{TownshipChange}
use Rattle.twp_calls.specs.declared.suggestion.TownshipReading.{TownshipReading}
use Rattle.twp_calls.specs.declared.suggestion.TownshipSuggestion.{TownshipSuggestion}

-- the number of a rule
abbrev pub number_of : Rule → ℕ
number_of Half = 1
number_of Quarter = 2
number_of Direction = 3
number_of Numeral = 4
number_of (Copied from to) = 5
number_of (CopiedStep from to) = 6
number_of Damage = 7
number_of Exception = 8
number_of Zeros = 9
number_of FractionDigit = 10
number_of Heading = 11
number_of SectionWord = 12
number_of LotWord = 13
number_of Through = 14
number_of And = 15
number_of Comma = 16
number_of Semicolon = 17
number_of OnePart = 18
number_of Mark = 19
number_of Word = 20
number_of Repeated = 21
number_of MovedSection = 22
number_of MovedHeading = 23
number_of Meridian = 24
number_of Acreage = 25
number_of Label = 26

-- where what a rule copies begins and ends, or 0
abbrev pub copied_from : Rule → ℕ
copied_from (Copied from to) = from
copied_from (CopiedStep from to) = from
copied_from _ = 0

abbrev pub copied_to : Rule → ℕ
copied_to (Copied from to) = to
copied_to (CopiedStep from to) = to
copied_to _ = 0

-- the number of an assumption, or 0 for none
abbrev pub number_of_assumption : Option Assumption → ℕ
number_of_assumption None = 0
number_of_assumption (Some SameMeridian) = 1
number_of_assumption (Some SameAcreage) = 2
number_of_assumption (Some NotLand) = 3
number_of_assumption (Some SaidBefore) = 4
number_of_assumption (Some WrongLetter) = 5
number_of_assumption (Some NoMissingComma) = 6

-- the number of what a change of a text assumes that the text doesn't say
abbrev pub assumes_of : List ℕ → Change → ℕ
assumes_of text change = number_of_assumption (assumed text (seen change))

-- the number of a manner
abbrev pub manner_of : Manner → ℕ
manner_of Changed = 0
manner_of LotsNamed = 1
manner_of Remainder = 2

-- A PIECE of a list: it begins at a place, and has this many elements
pub record IsPiece {T : Type 0} (all : List T) (start count : ℕ) (piece : List T) : Type 0 where
  pub before : List T
  pub after : List T
  pub all_is : all ≡ before ++ (piece ++ after)
  pub start_is : start ≡ length before
  pub count_is : count ≡ length piece

-- THE DATA OF A CHANGE of a text: what it leaves out, where what it writes is in the bytes, its rule, and
-- what it assumes
pub record IsChangeData (text bytes : List ℕ) (change : Change) (made : TownshipChange) : Type 0 where
  pub start_is : made.start ≡ change.start
  pub end_is : made.end ≡ change.end
  pub written_is : IsPiece bytes made.written made.written_length change.written.now
  pub copied_is : made.copied ≡ copied_from change.rule
  pub copied_end_is : made.copied_end ≡ copied_to change.rule
  pub rule_is : made.rule ≡ number_of change.rule
  pub assumes_is : made.assumes ≡ assumes_of text change

-- THE DATA OF A READING of a text: where the reading's text is in the bytes, and where its changes are, in
-- their order
pub record IsReadingData (given : List ℕ) (changes : List TownshipChange) (bytes : List ℕ)
    (reading : Reading) (made : TownshipReading) : Type 0 where
  pub text_is : IsPiece bytes made.text made.text_length reading.text.items
  pub list : List TownshipChange
  pub changes_are : IsPiece changes made.changes made.changes_length list
  pub each : AllZip (IsChangeData given bytes) reading.changes.items list
  pub manner_is : made.manner ≡ manner_of reading.manner
  pub reserved_is : made.reserved ≡ 0

-- what is written, or the room for it: readings, changes, and bytes
pub record Rooms : Type 0 where
  pub readings : List TownshipReading
  pub changes : List TownshipChange
  pub bytes : List ℕ

abbrev pub rooms : List TownshipReading → List TownshipChange → List ℕ → Rooms
rooms readings changes bytes = record { readings = readings; changes = changes; bytes = bytes }

-- THE READINGS of a text on a plat with these lots, in their order, as data
pub record AreSuggested (lots : Lotting) (text : List ℕ) (made : Rooms) : Type 0 where
  pub readings : List Reading
  pub are : AreReadings lots text readings
  pub each : AllZip (IsReadingData text made.changes made.bytes) readings made.readings

-- a list was put at the front of the room for it, of which the rest is as it was
pub record IsPutAtFront {T : Type 0} (list old new : List T) : Type 0 where
  pub fits : length list ≤ length old
  pub new_is : new ≡ list ++ drop (length list) old

-- each was put at the front of its room
pub record ArePutAtFront (made old new : Rooms) : Type 0 where
  pub readings : IsPutAtFront made.readings old.readings new.readings
  pub changes : IsPutAtFront made.changes old.changes new.changes
  pub bytes : IsPutAtFront made.bytes old.bytes new.bytes

-- there is too little room for one of them
abbrev pub IsTooMuch : Rooms → Rooms → Type 0
IsTooMuch made old =
    (length old.readings < length made.readings)
    ⊎ ((length old.changes < length made.changes) ⊎ (length old.bytes < length made.bytes))

-- it is said how much there is
pub record AreSizes (made : Rooms) (suggestion : TownshipSuggestion) : Type 0 where
  pub readings : suggestion.readings ≡ length made.readings
  pub changes : suggestion.changes ≡ length made.changes
  pub bytes : suggestion.bytes ≡ length made.bytes

-- Why there are no readings, if lots and aliquot parts can't describe the land: a phrase among the bytes.
-- Where there is no such reason, each of its numbers is 0.
pub data IsReason (made : Rooms) (suggestion : TownshipSuggestion) : Type 0 where
  none : suggestion.reason ≡ 0 → suggestion.reason_length ≡ 0 → suggestion.beyond ≡ 0
      → suggestion.beyond_end ≡ 0 → IsReason made suggestion
  one : (phrase : List ℕ) → made.readings ≡ []
      → IsPiece made.bytes suggestion.reason suggestion.reason_length phrase → IsReason made suggestion

-- it is said how much there is, and why there are no readings
pub record IsReasonPut (made : Rooms) (suggestion : TownshipSuggestion) : Type 0 where
  pub sizes : AreSizes made suggestion
  pub reason : IsReason made suggestion

-- what was found was put at the front of the rooms; or there is too little room for a part of it
pub data ArePut (made old new : Rooms) (answer : TownshipAnswer) : Type 0 where
  put : ArePutAtFront made old new → answer ≡ bare ACCEPTED → ArePut made old new answer
  no_room : IsTooMuch made old → answer ≡ bare NO_ROOM → ArePut made old new answer

-- The readings of the text on a plat with these lots, and how much there is; or memory ran out.
pub data IsSuggestedOn (lots : Lotting) (text : List ℕ) (old new : Rooms) (suggestion : TownshipSuggestion)
    (answer : TownshipAnswer) : Type 0 where
  suggested : (made : Rooms) → AreSuggested lots text made → IsReasonPut made suggestion
      → ArePut made old new answer
      → IsSuggestedOn lots text old new suggestion answer
  no_memory : answer ≡ bare NO_MEMORY → IsSuggestedOn lots text old new suggestion answer

-- `township_suggest`: the readings on the plat of a regular township, with the standard lots
abbrev pub IsSuggestCall : List ℕ → Rooms → Rooms → TownshipSuggestion → TownshipAnswer → Type 0
IsSuggestCall text old new suggestion = IsSuggestedOn STANDARD_LOTS text old new suggestion

-- `township_lots_suggest`: the readings on the table's plat
abbrev pub IsLotsSuggestCall : GivenLots → List ℕ → Rooms → Rooms → TownshipSuggestion → TownshipAnswer
    → Type 0
IsLotsSuggestCall given text old new suggestion =
    ByLots given (λ township. IsSuggestedOn (lots_of given.lots) text old new suggestion)
