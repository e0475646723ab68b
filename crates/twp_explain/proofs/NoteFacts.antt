-- A note is of the first doubtful place of a text, or of the texts of a list.
use Rattle.std.proofs.Common.{◌≡◌, ◌≤◌, ◌+◌, ℕ, List, length, Option, Some, None, Result, Ok, Err}
use Rattle.std.proofs.Common.{IfOk, MatchOption, sym, ap, ◌∙◌, subst, inl, inr, arith}
use Rattle.twp_notes.specs.Records.{records_of}
use Rattle.twp_answers.proofs.TractLands.{earlier_or_last}
use Rattle.twp_read.specs.Doubts.{AreDoubts, HasNoDoubtfulPlace}
use Rattle.twp_read.specs.declared.doubt.DoubtfulPlace.{DoubtfulPlace}
use Rattle.twp_read.specs.declared.doubt.Doubts.{Doubts}
use Rattle.twp_diagnose.specs.Origins.{IsFieldAt, IsWholeFile, place_of}
use Rattle.twp_diagnose.specs.RecordFields.{listed_span, IsListedAt}
use Rattle.twp_diagnose.specs.Spots.{in_file, IsSpotAt}
use Rattle.twp_diagnose.specs.declared.location.Given.{Given}
use Rattle.twp_diagnose.specs.declared.listed.Listed.{Listed}
use Rattle.twp_diagnose.specs.declared.location.Origin.{Origin}
use Rattle.twp_excerpt.specs.declared.spot.Spot.{Spot}
use Rattle.twp_explain.specs.ShownNotes.{AreClear, AreClearBefore, IsNoteOf, IsNoteOfList}
use Rattle.twp_explain.specs.ShownNotes.{IsOfFirstTract, IsSpotOfNote, description_of}
use Rattle.twp_explain.specs.declared.note.Note.{Note}
use Rattle.twp_explain.specs.declared.note.ListDoubts.{ListDoubts}
use Rattle.twp_explain.specs.steps.ListDoubts.{AreFoundBefore, AreOfList, IsFirstDoubt, Takes}
use Rattle.twp_diagnose.proofs.SpotFacts.{same_spot_at}

pub note_first : {E : Type 0} (text : List ℕ) (doubts : Doubts) (r : Result (Option Note) E)
    → AreDoubts text doubts
    → IfOk r (λ explained. MatchOption explained ⊥ (λ note. note.at ≡ doubts.first.at))
    → IfOk r (IsNoteOf text)
note_first text doubts (Ok None) are is = absurd is
note_first text doubts (Ok (Some note)) are is = record { doubts = doubts; are = are; at_is = is }
note_first text doubts (Err fault) are is = is

-- the place of a text that is a file is the same in the file
pub whole_spot : (origin : Origin) (file : Given) (at : ℕ) (spot : Option Spot)
    → IsWholeFile origin → origin.file ≡ file → IsSpotAt origin.file (place_of origin at) spot
    → IsSpotAt file at spot
whole_spot origin file at spot whole is shown =
    let here : in_file origin.file (place_of origin at) ≡ in_file origin.file at =
    rw (whole.starts, whole.plain) (omega arith) in
    subst (λ (f : Given). IsSpotAt f at spot) is
    (same_spot_at origin.file (place_of origin at) at spot here shown)

-- one more record without a doubtful place
more_clear : (tracts : List ℕ) (number : ℕ) → AreClearBefore tracts number
    → HasNoDoubtfulPlace (description_of tracts number) → AreClearBefore tracts (number + 1)
more_clear tracts number before clear other first within below =
    elim (earlier_or_last number other below) [
      | inl earlier ↦ before other first within earlier
      | inr last ↦ subst (λ n. HasNoDoubtfulPlace (description_of tracts n)) (sym last) clear
    ]

-- what is found stays found
same_first : (tracts : List ℕ) (first it : ListDoubts) → AreOfList tracts first → it.number ≡ first.number
    → it.doubts.first ≡ first.doubts.first → AreOfList tracts it
same_first tracts first it are number place = record {
  first_record = rw number are.first_record;
  within = rw number are.within;
  before = rw number are.before;
  first = rw (number, place) are.first;
}

pub takes_more : (tracts description : List ℕ) (number : ℕ) (found new : Option ListDoubts)
    → 1 ≤ number → number ≤ length (records_of tracts) → description ≡ description_of tracts number
    → AreFoundBefore tracts number found → Takes found number description new
    → AreFoundBefore tracts (number + 1) new
takes_more tracts description number (Some first) (Some it) one within is are takes =
    same_first tracts first it are takes.0 takes.1
takes_more tracts description number (Some first) None one within is are takes = absurd takes
takes_more tracts description number None None one within is are takes =
    more_clear tracts number are (subst HasNoDoubtfulPlace is takes)
takes_more tracts description number None (Some it) one within is are takes = record {
  first_record = rw takes.0 one;
  within = rw takes.0 within;
  before = rw takes.0 are;
  first = rw takes.0 (subst (λ text. IsFirstDoubt text it.doubts.first) is takes.1);
}

-- all records were searched
pub found_all : (tracts : List ℕ) (number : ℕ) (found : Option ListDoubts)
    → length (records_of tracts) + 1 ≤ number → AreFoundBefore tracts number found
    → MatchOption found (AreClear tracts) (AreOfList tracts)
found_all tracts number None all are = λ other first within below. are other first within (omega arith)
found_all tracts number (Some it) all are = are

-- a note on the first doubtful place of a list's record
pub note_of_tract : (tracts : Given) (found : ListDoubts) (listed : Listed) (origin : Origin) (note : Note)
    → AreOfList tracts.bytes.now found → IsListedAt tracts found.number listed
    → origin.file ≡ tracts → IsFieldAt (listed_span listed 1).start origin
    → note.at ≡ found.doubts.first.at → IsSpotOfNote origin note → IsOfFirstTract tracts note
note_of_tract tracts found listed origin note are is file_is field at spot = record {
  number = found.number;
  before = are.before;
  is = record {
    doubts = are.first.doubts;
    are = are.first.are;
    at_is = at ∙ ap (λ (p : DoubtfulPlace). p.at) (sym are.first.first_is);
  };
  listed = listed;
  listed_is = is;
  origin = origin;
  file_is = file_is;
  in_its_field = field;
  spot_is = spot;
}

-- a list is noted where one of its records is
pub note_listed : {E : Type 0} (tracts : Given) (found : ListDoubts) (r : Result (Option Note) E)
    → AreOfList tracts.bytes.now found
    → (AreOfList tracts.bytes.now found
    → IfOk r (λ explained. MatchOption explained ⊥ (IsOfFirstTract tracts)))
    → IfOk r (IsNoteOfList tracts)
note_listed tracts found (Ok None) are is = absurd (is are)
note_listed tracts found (Ok (Some note)) are is = is are
note_listed tracts found (Err fault) are is = is are
