-- What the functions that make the data of readings promise one another.
use Rattle.std.specs.Prelude.{◌≡◌, ℕ, ◌++◌, List, [], ◌∷◌, length}
use Rattle.std.specs.List.{AllZip}
use Rattle.twp_grid.specs.Lands.{Lotting}
use Rattle.twp_rules.specs.declared.change.Change.{Change}
use Rattle.twp_suggest.specs.declared.reading.Reading.{Reading}
use Rattle.twp_calls.specs.Suggestions.{AreSuggested, IsChangeData, IsReadingData, IsReason, Rooms, rooms}
use Rattle.twp_calls.specs.Suggestions.{assumes_of, copied_from, copied_to, number_of}
use Rattle.twp_calls.specs.declared.suggesting.Reason.{Reason}
use Rattle.twp_calls.specs.declared.suggesting.FoundReadings.{FoundReadings}
use Rattle.twp_calls.specs.declared.suggestion.TownshipChange.{TownshipChange}
use Rattle.twp_calls.specs.declared.suggestion.TownshipReading.{TownshipReading}
use Rattle.twp_calls.specs.declared.suggestion.TownshipSuggestion.{TownshipSuggestion}

-- what is to be written, as lists
abbrev pub shown : FoundReadings → Rooms
shown found = rooms found.readings.items found.changes.items found.bytes.items

-- no reason
abbrev pub no_reason : Reason
no_reason = record { at = 0; length = 0; start = 0; end = 0 }

-- how much there is, and why there is nothing
abbrev pub suggestion_of : FoundReadings → TownshipSuggestion
suggestion_of found =
    record {
      readings = length found.readings.items;
      changes = length found.changes.items;
      bytes = length found.bytes.items;
      reason = found.reason.at;
      reason_length = found.reason.length;
      beyond = found.reason.start;
      beyond_end = found.reason.end;
    }

-- the data of a change of a text, whose written bytes begin at a place
abbrev pub change_data : List ℕ → Change → ℕ → TownshipChange
change_data text change written =
    record {
      start = change.start;
      end = change.end;
      written = written;
      written_length = length change.written.now;
      copied = copied_from change.rule;
      copied_end = copied_to change.rule;
      rule = number_of change.rule;
      assumes = assumes_of text change;
    }

-- the data of changes of a text were added at the end
pub record AreChangesAdded (text : List ℕ) (list : List Change) (old new : List TownshipChange)
    (bytes new_bytes : List ℕ) : Type 0 where
  pub made : List TownshipChange
  pub new_is : new ≡ old ++ made
  pub more : List ℕ
  pub bytes_are : new_bytes ≡ bytes ++ more
  pub each : AllZip (IsChangeData text new_bytes) list made

-- the data of a reading of a text were added at the end
pub record IsReadingAdded (text : List ℕ) (reading : Reading) (old new : Rooms) : Type 0 where
  pub made : TownshipReading
  pub new_is : new.readings ≡ old.readings ++ (made ∷ [])
  pub changes : List TownshipChange
  pub changes_are : new.changes ≡ old.changes ++ changes
  pub bytes : List ℕ
  pub bytes_are : new.bytes ≡ old.bytes ++ bytes
  pub is : IsReadingData text new.changes new.bytes reading made

-- these are the data of readings of a text
abbrev pub AreDataOf : List ℕ → List Reading → Rooms → Type 0
AreDataOf text readings made = AllZip (IsReadingData text made.changes made.bytes) readings made.readings

-- the same, and there is no reason
pub record AreFoundFor (text : List ℕ) (readings : List Reading) (found : FoundReadings) : Type 0 where
  pub made : AreDataOf text readings (shown found)
  pub none : found.reason ≡ no_reason

-- there are no readings, perhaps for a reason
pub record HasNoReadings (found : FoundReadings) : Type 0 where
  pub empty : found.readings.items ≡ []
  pub reason : IsReason (shown found) (suggestion_of found)

-- the readings of a text on a plat were found, or why there are none
pub record AreFoundReadings (lots : Lotting) (text : List ℕ) (found : FoundReadings) : Type 0 where
  pub readings : AreSuggested lots text (shown found)
  pub reason : IsReason (shown found) (suggestion_of found)
