-- What the call answers that gives the plain table of a lot table as a spreadsheet saves it.
use Rattle.std.specs.Prelude.{ℕ, List}
use Rattle.twp_plat.specs.PlainTables.{IsPlainTable}
use Rattle.twp_calls.specs.Calls.{Answers, IsTextPut}
use Rattle.twp_calls.specs.declared.answer.TownshipAnswer.{TownshipAnswer}

-- `township_lots_plain`: the plain table, which nothing refuses
abbrev pub IsLotsPlainCall : List ℕ → List ℕ → List ℕ → TownshipAnswer → Type 0
IsLotsPlainCall table old new = Answers (IsTextPut (IsPlainTable table) old new) (λ answer. ⊥)
