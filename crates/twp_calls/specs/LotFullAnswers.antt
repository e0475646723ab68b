-- Everything that is answered by a lot table about many descriptions, which are given as bytes in a row and
-- the offsets between them.
use Rattle.std.specs.Prelude.{ℕ, Bool, List}
use Rattle.twp_grid.specs.Townships.{Designation}
use Rattle.twp_plat.specs.LotTables.{lots_of}
use Rattle.twp_plat.specs.declared.lots.returned.ReturnedLots.{ReturnedLots}
use Rattle.twp_spell.specs.CanonicalText.{IsCanonicalText}
use Rattle.twp_answers.specs.Answers.{IsNoDescription}
use Rattle.twp_answers.specs.OnLands.{IsLandOf}
use Rattle.twp_calls.specs.Calls.{Answers, IsRefusedFor, IsTextPut}
use Rattle.twp_calls.specs.FullAnswers.{DescriptionCalls, IsFullAnswer}
use Rattle.twp_calls.specs.LotCalls.{ByLots, IsLotsAcresCall}
use Rattle.twp_calls.specs.LotExplanations.{ExplainsByLots}
use Rattle.twp_calls.specs.LotManyAnswers.{IsTableVerdict}
use Rattle.twp_calls.specs.declared.answer.TownshipAnswer.{TownshipAnswer}
use Rattle.twp_calls.specs.declared.full_answer.TownshipFullAnswer.{TownshipFullAnswer}
use Rattle.twp_calls.specs.declared.lots.TownshipLots.{TownshipLots as GivenLots}

-- the bytes describe land on the table's plat, and this is its canonical text
pub record HasNormalByLots (township : Designation) (lots : ReturnedLots) (description text : List ℕ)
    : Type 0 where
  pub places : ℕ → ℕ → ℕ → Bool
  pub described : IsLandOf (lots_of lots) township description places
  pub text_is : IsCanonicalText (lots_of lots) township places text

-- the canonical text of the land described, as `township_lots_land_read` and `township_lots_land_text` give
-- it
abbrev pub IsNormalByLots : GivenLots → List ℕ → List ℕ → List ℕ → TownshipAnswer → Type 0
IsNormalByLots given description old new = ByLots given (λ township.
    Answers (IsTextPut (HasNormalByLots township given.lots description) old new)
    (IsRefusedFor (IsNoDescription (lots_of given.lots) township description)))

-- `township_lots_acres`, that text, and `township_lots_explain_description`; and the verdict on the table
abbrev pub calls_by_lots : GivenLots → DescriptionCalls
calls_by_lots given = record {
  acres = λ description. IsLotsAcresCall given description;
  normal = λ description. IsNormalByLots given description;
  explains = λ description. ExplainsByLots given description;
  returns = IsTableVerdict given;
}

-- `township_lots_answer_many`: each is answered, even if the table is not valid
abbrev pub IsLotsFullCall : GivenLots → List ℕ → List ℕ → List TownshipFullAnswer → List TownshipFullAnswer
    → TownshipAnswer → Type 0
IsLotsFullCall given bytes offsets old new = IsFullAnswer (calls_by_lots given) bytes offsets old new
