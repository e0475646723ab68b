-- The field notes that are written for a plat: read again, they make that plat.
use Rattle.std.specs.Prelude.{ℕ, List}
use Rattle.twp_answers.specs.Answers.{ArePlatted}
use Rattle.twp_calls.specs.Calls.{Answers, IsTextPut, OnPlat}
use Rattle.twp_calls.specs.declared.answer.TownshipAnswer.{TownshipAnswer}
use Rattle.twp_calls.specs.declared.plat.TownshipPlat.{TownshipPlat}

-- `township_write_notes`: field notes that make the plat, which nothing refuses
abbrev pub IsWriteNotesCall : TownshipPlat → List ℕ → List ℕ → TownshipAnswer → Type 0
IsWriteNotesCall given old new = OnPlat given (λ plat.
    Answers (IsTextPut (λ text. ArePlatted text plat) old new) (λ answer. ⊥))
