-- The answers by a lot table to many descriptions, which are given as bytes in a row and the offsets between
-- them.
use Rattle.std.specs.Prelude.{◌≡◌, ℕ, List}
use Rattle.twp_calls.specs.Answers.{ACCEPTED, bare}
use Rattle.twp_calls.specs.LotCalls.{ByLots, IsLotsAcresCall}
use Rattle.twp_calls.specs.ManyAnswers.{IsManyAnswer, ReturnedVerdict}
use Rattle.twp_calls.specs.declared.answer.TownshipAnswer.{TownshipAnswer}
use Rattle.twp_calls.specs.declared.lots.TownshipLots.{TownshipLots as GivenLots}

-- the verdict on a lot table
abbrev pub IsTableVerdict : GivenLots → ReturnedVerdict
IsTableVerdict given = ByLots given (λ township answer. answer ≡ bare ACCEPTED)

-- `township_lots_acres_many`: each is answered as by `township_lots_acres`, even if the table is not valid
abbrev pub IsLotsManyCall : GivenLots → List ℕ → List ℕ → List TownshipAnswer → List TownshipAnswer
    → TownshipAnswer → Type 0
IsLotsManyCall given bytes offsets old new =
    IsManyAnswer (IsLotsAcresCall given) (IsTableVerdict given) bytes offsets old new
