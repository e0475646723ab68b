-- A note on accepted input, or none; over plain values.
use Rattle.std.proofs.Common.{◌≡◌, ℕ, List, Option, Some, None, Result, Ok, Err, IfOk}
use Rattle.std.proofs.Common.{ap, inl, inr, arith}
use Rattle.twp_measure.specs.Areas.{Fraction}
use Rattle.twp_grid.specs.Townships.{Designation}
use Rattle.twp_plat.specs.Plats.{SurveyPlat}
use Rattle.twp_plat.specs.declared.land_area.Account.TheVariants.{Exact}
use Rattle.twp_answers.specs.LotLands.{HasLotAreaOf}
use Rattle.twp_answers.specs.OnPlats.{HasAreaOn}
use Rattle.twp_answers.specs.ReportAnswers.{IsAccountOf}
use Rattle.twp_explain.specs.ShownNotes.{IsNoteOf}
use Rattle.twp_explain.specs.declared.note.Note.{Note}
use Rattle.twp_calls.specs.Answers.{ACCEPTED, IsRefused}
use Rattle.twp_calls.specs.Calls.{Answers, IsPut, accepted, no_memory, put, not_put}
use Rattle.twp_calls.specs.Explanations.{IsOfArea, IsOfAccount, located_at}
use Rattle.twp_calls.specs.Explanations.{clear, noted, clear_list, noted_list}
use Rattle.twp_calls.specs.LotExplanations.{IsOfAreaByLots}
use Rattle.twp_calls.specs.steps.Noting.{AnswersNoted}
use Rattle.twp_calls.specs.declared.answer.TownshipAnswer.{TownshipAnswer}
use Rattle.twp_calls.specs.declared.lots.TownshipLots.{TownshipLots as GivenLots}

-- a description that is accepted, and its note
pub noted_on : {E : Type 0} (Refused : TownshipAnswer → Type 0) (plat : SurveyPlat)
    (description old new : List ℕ) (answer : TownshipAnswer) (area : Fraction)
    (explained : Result (Option Note) E)
    → HasAreaOn plat description Exact area → IfOk explained (IsNoteOf description)
    → AnswersNoted explained old new answer → Answers (IsOfArea plat description old new) Refused answer
noted_on Refused plat description old new answer area (Ok (Some note)) has first is =
    accepted (record { area = area; has = has; is_noted = noted note first is })
noted_on Refused plat description old new answer area (Ok None) has none is =
    accepted (record { area = area; has = has; is_noted = clear none is })
noted_on Refused plat description old new answer area (Err fault) has none is = no_memory is

-- a description that is accepted by a lot table, and its note
pub noted_by_lots : {E : Type 0} (Refused : TownshipAnswer → Type 0) (given : GivenLots)
    (township : Designation) (description old new : List ℕ) (answer : TownshipAnswer) (area : Fraction)
    (explained : Result (Option Note) E)
    → HasLotAreaOf township given.lots description area → IfOk explained (IsNoteOf description)
    → AnswersNoted explained old new answer
    → Answers (IsOfAreaByLots given township description old new) Refused answer
noted_by_lots Refused given township description old new answer area (Ok (Some note)) has first is =
    accepted (record { area = area; has = has; is_noted = noted note first is })
noted_by_lots Refused given township description old new answer area (Ok None) has none is =
    accepted (record { area = area; has = has; is_noted = clear none is })
noted_by_lots Refused given township description old new answer area (Err fault) has none is = no_memory is

-- a list that is accepted, and its note
pub noted_list_on : {E : Type 0} (Refused : TownshipAnswer → Type 0) (plat : SurveyPlat)
    (list old new : List ℕ) (answer : TownshipAnswer) (text : List ℕ) (explained : Result (Option Note) E)
    → IsAccountOf plat list text → AnswersNoted explained old new answer
    → Answers (IsOfAccount plat list old new) Refused answer
noted_list_on Refused plat list old new answer text (Ok (Some note)) has is =
    accepted (record { text = text; has = has; is_noted = noted_list note is })
noted_list_on Refused plat list old new answer text (Ok None) has is =
    accepted (record { text = text; has = has; is_noted = clear_list is })
noted_list_on Refused plat list old new answer text (Err fault) has is = no_memory is

-- what was put beside a refusal doesn't accept
pub not_accepted : (explained : TownshipAnswer) (line column : ℕ) (text old new : List ℕ)
    (answer : TownshipAnswer)
    → IsRefused explained.verdict → IsPut (located_at explained line column) text old new answer
    → answer.verdict ≡ ACCEPTED → ⊥
not_accepted explained line column text old new answer (inl refused) (put room new_is answer_is) accepts =
    let same : answer.verdict ≡ explained.verdict = ap (λ (a : TownshipAnswer). a.verdict) answer_is in
    omega arith
not_accepted explained line column text old new answer (inr refused) (put room new_is answer_is) accepts =
    let same : answer.verdict ≡ explained.verdict = ap (λ (a : TownshipAnswer). a.verdict) answer_is in
    omega arith
not_accepted explained line column text old new answer refused (not_put room answer_is) accepts =
    let other : answer.verdict ≡ 5 = ap (λ (a : TownshipAnswer). a.verdict) answer_is in omega arith
