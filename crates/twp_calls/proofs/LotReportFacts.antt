-- What the account of a list by a lot table is as plain data, by what its stages came to; over plain values.
use Rattle.std.proofs.Common.{◌≡◌, ℕ, ◌<◌, ◌≤◌, List, [], ◌∷◌, length, get_or, Option, Some, None, IfSome}
use Rattle.std.proofs.Common.{refl, sym, ◌∙◌, subst, inl, inr, arith}
use Rattle.std.specs.List.{SameFrom}
use Rattle.twp_grid.specs.Townships.{Designation}
use Rattle.twp_plat.specs.declared.lots.returned.ReturnedLots.{ReturnedLots}
use Rattle.twp_notes.specs.Records.{Fields, record_at}
use Rattle.twp_answers.specs.TractFaults.{verdict_of}
use Rattle.twp_answers.specs.declared.account_figures.TractFigure.{TractFigure}
use Rattle.twp_answers.specs.declared.tract_fault.TractFault.{TractFault}
use Rattle.twp_answers.specs.declared.stop.Verdict.{Verdict}
use Rattle.twp_answers.specs.LotAccounts.{AreFiguresByLots, AreTractAcres, IsAccountByLots}
use Rattle.twp_answers.specs.LotAccounts.{IsFigureByLots}
use Rattle.twp_answers.specs.LotTractFaults.{AnswersFaultByLots, IsFirstFaultByLots}
use Rattle.twp_calls.specs.Accounts.{tract_count}
use Rattle.twp_calls.specs.Answers.{accepted_acres, answer_of_fault, answer_of_verdict, with_text}
use Rattle.twp_calls.specs.Answers.{without_room}
use Rattle.twp_calls.specs.Calls.{Answers, no_memory, refused_for}
use Rattle.twp_calls.specs.LotReports.{PutsAccountByLots, IsListRefusedByLots, IsTractByLots}
use Rattle.twp_calls.specs.steps.Plain.{ArePlainTractsTo, IsPlainTract}
use Rattle.twp_calls.specs.declared.account_call.TownshipTract.{TownshipTract}
use Rattle.twp_calls.specs.declared.answer.TownshipAnswer.{TownshipAnswer}

-- a tract by the table as plain data
tract_is : (township : Designation) (lots : ReturnedLots) (fields : Fields) (figure : TractFigure)
    (plain : TownshipTract)
    → IsFigureByLots township lots fields figure → IsPlainTract figure plain
    → IsTractByLots township lots fields plain
tract_is township lots fields figure plain is same = record {
  name_is = same.name_is ∙ is.name_is;
  ended = same.ended;
  acres = subst (AreTractAcres township lots fields) (sym same.hundredths_is) is.acres;
}

each_is : (township : Designation) (lots : ReturnedLots) (rows : List Fields) (figures : List TractFigure)
    (tracts : List TownshipTract)
    (count : ℕ) → AreFiguresByLots township lots rows count figures → ArePlainTractsTo count figures tracts
    → (index : ℕ) (default : TownshipTract) → index < count
    → IsTractByLots township lots (record_at rows index) (get_or tracts index default)
each_is township lots rows [] tracts count are plain index default below =
    absurd (omega (arith, are.count_is))
each_is township lots rows (one ∷ more) tracts count are plain index default below =
    tract_is township lots (record_at rows index) _ _ (are.each index one below)
    (plain index one default below)

-- all were put there
pub all_put_by : (township : Designation) (lots : ReturnedLots) (list : List ℕ) (figures : List TractFigure)
    (total : ℕ)
    (old new : List TownshipTract) (answer : TownshipAnswer) → length figures ≤ length old
    → length new ≡ length old → ArePlainTractsTo (length figures) figures new
    → SameFrom old new (length figures) → answer ≡ with_text (accepted_acres total) (length figures)
    → IsAccountByLots township lots list figures total → PutsAccountByLots township lots list old new answer
all_put_by township lots list figures total old new answer room long plain kept is account =
    let number : length figures ≡ tract_count list = account.figures_are.count_is in
    inl (record {
      list_is = account.list;
      room = subst (λ n. n ≤ length old) number room;
      length_is = long;
      each =
          each_is township lots _ figures new (tract_count list) account.figures_are
          (subst (λ n. ArePlainTractsTo n figures new) number plain);
      kept = subst (SameFrom old new) number kept;
      total = total;
      total_is = account.total_is;
      answer_is = subst (λ n. answer ≡ with_text (accepted_acres total) n) number is;
    })

-- there is less room than there are tracts
pub too_many_by : (township : Designation) (lots : ReturnedLots) (list : List ℕ) (figures : List TractFigure)
    (total : ℕ)
    (old : List TownshipTract) (answer : TownshipAnswer) → length old < length figures
    → answer ≡ without_room (accepted_acres total) (length figures)
    → IsAccountByLots township lots list figures total → PutsAccountByLots township lots list old old answer
too_many_by township lots list figures total old answer short is account =
    let number : length figures ≡ tract_count list = account.figures_are.count_is in
    inr (record {
      figures = figures;
      total = total;
      account = account;
      short = subst (λ n. length old < n) number short;
      answer_is = subst (λ n. answer ≡ without_room (accepted_acres total) n) number is;
    })

-- a list that is refused, or for which memory ran out
stopped_by : (Accepted : TownshipAnswer → Type 0) (township : Designation) (lots : ReturnedLots)
    (list : List ℕ)
    (is : TractFault) (found : Option Verdict) → verdict_of is ≡ found
    → IfSome found (λ verdict. IsFirstFaultByLots township lots list is)
    → Answers Accepted (IsListRefusedByLots township lots list) (answer_of_verdict found)
stopped_by Accepted township lots list is (Some verdict) same first =
    refused_for (record {
      fault = is;
      first = first;
      verdict = verdict;
      verdict_is = same;
      answer_is = refl;
    })
stopped_by Accepted township lots list is None same first = no_memory refl

pub stopped_list_by : (Accepted : TownshipAnswer → Type 0) (township : Designation) (lots : ReturnedLots)
    (list : List ℕ)
    (is : TractFault) (answer : TownshipAnswer) → answer ≡ answer_of_fault is
    → AnswersFaultByLots township lots list is
    → Answers Accepted (IsListRefusedByLots township lots list) answer
stopped_list_by Accepted township lots list is answer same first =
    subst (Answers Accepted (IsListRefusedByLots township lots list)) (sym same)
    (stopped_by Accepted township lots list is (verdict_of is) refl first)
