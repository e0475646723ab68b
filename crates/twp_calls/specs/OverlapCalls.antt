-- Which tracts of a list overlap.
use Rattle.std.specs.Prelude.{◌≡◌, ℕ, ◌<◌, ◌≤◌, List, length, map, take}
use Rattle.std.specs.List.{SameFrom}
use Rattle.twp_plat.specs.Plats.{SurveyPlat}
use Rattle.twp_answers.specs.EachTract.{IsListOfRecords}
use Rattle.twp_answers.specs.Overlaps.{AreOverlaps, measure_of_plat}
use Rattle.twp_answers.specs.Tracts.{tract_records}
use Rattle.twp_answers.specs.declared.overlaps.TractOverlap.{TractOverlap}
use Rattle.twp_calls.specs.Answers.{ACCEPTED, NO_ROOM, bare, with_text}
use Rattle.twp_calls.specs.Calls.{Answers, OnPlat}
use Rattle.twp_calls.specs.EachCalls.{IsWholeListRefused}
use Rattle.twp_calls.specs.declared.answer.TownshipAnswer.{TownshipAnswer}
use Rattle.twp_calls.specs.declared.overlaps_call.TownshipOverlap.{TownshipOverlap}
use Rattle.twp_calls.specs.declared.plat.TownshipPlat.{TownshipPlat}

-- the overlap that plain data stands for
abbrev pub overlap_of : TownshipOverlap → TractOverlap ℕ
overlap_of plain = record { first = plain.first; second = plain.second; acres = plain.hundredths }

-- These overlaps were written at the front of the room, and nothing else; or there is less room for them.
pub data AreOverlapsPut (overlaps : List (TractOverlap ℕ)) (old new : List TownshipOverlap)
    (answer : TownshipAnswer)
    : Type 0 where
  overlaps_put : length overlaps ≤ length old → length new ≡ length old
      → map overlap_of (take (length overlaps) new) ≡ overlaps → SameFrom old new (length overlaps)
      → answer ≡ with_text (bare ACCEPTED) (length overlaps) → AreOverlapsPut overlaps old new answer
  no_room : length old < length overlaps → answer ≡ with_text (bare NO_ROOM) (length overlaps)
      → AreOverlapsPut overlaps old new answer

-- the list consists of a heading and records, and the overlaps of its tracts were put there
pub record HasOverlaps (plat : SurveyPlat) (list : List ℕ) (old new : List TownshipOverlap)
    (answer : TownshipAnswer) : Type 0 where
  pub list_is : IsListOfRecords list
  pub overlaps : List (TractOverlap ℕ)
  pub are : AreOverlaps (measure_of_plat plat) (tract_records list) overlaps
  pub put : AreOverlapsPut overlaps old new answer

-- `township_overlaps`: each pair of tracts of the list that overlap
abbrev pub IsOverlapsCall : TownshipPlat → List ℕ → List TownshipOverlap → List TownshipOverlap
    → TownshipAnswer → Type 0
IsOverlapsCall given list old new = OnPlat given (λ plat.
    Answers (HasOverlaps plat list old new) (IsWholeListRefused list))
