-- What the calls answer that read and write the name of a township.
use Rattle.std.specs.Prelude.{◌≡◌, ℕ, List}
use Rattle.twp_grid.specs.Townships.{Designation}
use Rattle.twp_calls.specs.DesignationTexts.{IsSpelling, IsNoDesignation, designation_text}
use Rattle.twp_calls.specs.Answers.{ACCEPTED, bare}
use Rattle.twp_calls.specs.Calls.{Answers, IsRefusedFor, IsTextPut}
use Rattle.twp_calls.specs.GivenTownships.{given_designation}
use Rattle.twp_calls.specs.LandCalls.{InTownship}
use Rattle.twp_calls.specs.declared.answer.TownshipAnswer.{TownshipAnswer}
use Rattle.twp_calls.specs.declared.designation.TownshipDesignation.{TownshipDesignation}

-- `township_designation_read`: the only township that the text spells; or it spells none, and is refused
pub data IsDesignationReadCall (text : List ℕ) (new : TownshipDesignation) (answer : TownshipAnswer)
    : Type 0 where
  spelled : (township : Designation) → IsSpelling text township
      → ((other : Designation) → IsSpelling text other → other ≡ township)
      → new ≡ given_designation township → answer ≡ bare ACCEPTED → IsDesignationReadCall text new answer
  not_spelled : ((township : Designation) → ¬ IsSpelling text township)
      → IsRefusedFor (IsNoDesignation text) answer → IsDesignationReadCall text new answer

-- the spelling of a township that is written, which is read as that township
pub record IsWrittenDesignation (township : Designation) (text : List ℕ) : Type 0 where
  pub is : text ≡ designation_text township
  pub read_back : IsSpelling text township

-- `township_designation_text`: this spelling, which nothing refuses
abbrev pub IsDesignationTextCall : TownshipDesignation → List ℕ → List ℕ → TownshipAnswer → Type 0
IsDesignationTextCall given old new = InTownship given (λ township.
    Answers (IsTextPut (IsWrittenDesignation township) old new) (λ answer. ⊥))
