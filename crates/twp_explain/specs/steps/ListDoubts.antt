-- How the doubtful places of a list are found, record by record.
use Rattle.std.specs.Prelude.{◌≡◌, ◌≤◌, ℕ, List, length, Option, Some, None, MatchOption}
use Rattle.twp_notes.specs.Records.{records_of}
use Rattle.twp_read.specs.Doubts.{HasNoDoubtfulPlace, AreDoubts}
use Rattle.twp_read.specs.declared.doubt.DoubtfulPlace.{DoubtfulPlace}
use Rattle.twp_read.specs.declared.doubt.Doubts.{Doubts}
use Rattle.twp_explain.specs.ShownNotes.{AreClearBefore, description_of}
use Rattle.twp_explain.specs.declared.note.ListDoubts.{ListDoubts}

-- this is the first doubtful place of a text
pub record IsFirstDoubt (text : List ℕ) (place : DoubtfulPlace) : Type 0 where
  pub doubts : Doubts
  pub are : AreDoubts text doubts
  pub first_is : doubts.first ≡ place

-- this record's description is the first of a list with a doubtful place, and this is its first
pub record AreOfList (tracts : List ℕ) (found : ListDoubts) : Type 0 where
  pub first_record : 1 ≤ found.number
  pub within : found.number ≤ length (records_of tracts)
  pub before : AreClearBefore tracts found.number
  pub first : IsFirstDoubt (description_of tracts found.number) found.doubts.first

-- what was found stays found; if nothing was, the first place of one more record's description, if it has one
abbrev pub Takes : Option ListDoubts → ℕ → List ℕ → Option ListDoubts → Type 0
Takes (Some first) number description new = MatchOption new ⊥
    (λ (it : ListDoubts). (it.number ≡ first.number) × (it.doubts.first ≡ first.doubts.first))
Takes None number description new = MatchOption new (HasNoDoubtfulPlace description)
    (λ (it : ListDoubts). (it.number ≡ number) × IsFirstDoubt description it.doubts.first)

-- what was found in the records before this one
abbrev pub AreFoundBefore : List ℕ → ℕ → Option ListDoubts → Type 0
AreFoundBefore tracts number found = MatchOption found (AreClearBefore tracts number) (AreOfList tracts)
