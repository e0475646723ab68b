-- Which tracts of a list overlap on the plat of a lot table.
use Rattle.std.specs.Prelude.{◌≡◌, ℕ, ◌<◌, ◌≤◌, List, length, slice_index_or, Result, Ok, Err}
use Rattle.std.specs.List.{SameFrom}
use Rattle.twp_grid.specs.Townships.{Designation}
use Rattle.twp_grid.specs.declared.refusal.Refusal.{Refusal}
use Rattle.twp_plat.specs.declared.lots.returned.ReturnedLots.{ReturnedLots}
use Rattle.twp_answers.specs.EachTract.{IsListOfRecords}
use Rattle.twp_answers.specs.Overlaps.{AreOverlaps, measure_of_table}
use Rattle.twp_answers.specs.Tracts.{tract_records}
use Rattle.twp_answers.specs.declared.overlaps.TractOverlap.{TractOverlap}
use Rattle.twp_calls.specs.Answers.{ACCEPTED, NO_ROOM, bare, with_text}
use Rattle.twp_calls.specs.Calls.{Answers}
use Rattle.twp_calls.specs.EachCalls.{IsWholeListRefused}
use Rattle.twp_calls.specs.LotCalls.{ByLots}
use Rattle.twp_calls.specs.declared.answer.TownshipAnswer.{TownshipAnswer}
use Rattle.twp_calls.specs.declared.lots.TownshipLots.{TownshipLots as GivenLots}
use Rattle.twp_calls.specs.declared.lots_overlaps_call.TownshipLotsOverlap.{TownshipLotsOverlap}

-- the hundredths of an acre as plain data; or, if the table lacks a lot, none, and the place of that lot
abbrev pub ArePlainAcres : Result ℕ Refusal → TownshipLotsOverlap → Type 0
ArePlainAcres (Ok hundredths) plain = (plain.hundredths ≡ hundredths) × (plain.lacking ≡ 0)
ArePlainAcres (Err refusal) plain = (plain.hundredths ≡ 0) × (plain.lacking ≡ refusal.at)

-- the overlap as plain data
pub record IsPlainOverlap (found : TractOverlap (Result ℕ Refusal)) (plain : TownshipLotsOverlap)
    : Type 0 where
  pub first_is : plain.first ≡ found.first
  pub second_is : plain.second ≡ found.second
  pub acres_are : ArePlainAcres found.acres plain

-- the first overlaps, up to this number, are these as plain data
abbrev pub ArePlainOverlapsTo : ℕ → List (TractOverlap (Result ℕ Refusal)) → List TownshipLotsOverlap → Type 0
ArePlainOverlapsTo count found overlaps = (index : ℕ) (default : TractOverlap (Result ℕ Refusal))
    (other : TownshipLotsOverlap) → index < count
    → IsPlainOverlap (slice_index_or found index default) (slice_index_or overlaps index other)

-- These overlaps were written at the front of the room, and nothing else; or there is less room for them.
pub data AreLotsOverlapsPut (found : List (TractOverlap (Result ℕ Refusal)))
    (old new : List TownshipLotsOverlap) (answer : TownshipAnswer) : Type 0 where
  lots_overlaps_put : length found ≤ length old → length new ≡ length old
      → ArePlainOverlapsTo (length found) found new → SameFrom old new (length found)
      → answer ≡ with_text (bare ACCEPTED) (length found) → AreLotsOverlapsPut found old new answer
  no_lots_room : length old < length found → answer ≡ with_text (bare NO_ROOM) (length found)
      → AreLotsOverlapsPut found old new answer

-- the list consists of a heading and records, and the overlaps of its tracts were put there
pub record HasLotsOverlaps (township : Designation) (lots : ReturnedLots) (list : List ℕ)
    (old new : List TownshipLotsOverlap) (answer : TownshipAnswer) : Type 0 where
  pub list_is : IsListOfRecords list
  pub overlaps : List (TractOverlap (Result ℕ Refusal))
  pub are : AreOverlaps (measure_of_table township lots) (tract_records list) overlaps
  pub put : AreLotsOverlapsPut overlaps old new answer

-- `township_lots_overlaps`: each pair of tracts of the list that overlap
abbrev pub IsLotsOverlapsCall : GivenLots → List ℕ → List TownshipLotsOverlap → List TownshipLotsOverlap
    → TownshipAnswer → Type 0
IsLotsOverlapsCall given list old new = ByLots given (λ township.
    Answers (HasLotsOverlaps township given.lots list old new) (IsWholeListRefused list))
