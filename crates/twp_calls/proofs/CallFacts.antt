-- What each call answers, by what its stages came to; over plain values.
use Rattle.std.proofs.Common.{◌≡◌, ℕ, List, Option, Some, None, IfSome, refl, sym, subst, ap}
use Rattle.std.proofs.Common.{◌∙◌, ◌≢◌, ◌+◌, ◌*◌, ◌^◌, ◌/◌, ◌%◌, inl, inr}
use Rattle.std.proofs.Math.Nat.{mod-add-div}
use Rattle.twp_grid.specs.Townships.{Designation}
use Rattle.twp_grid.specs.declared.refusal.Refusal.{Refusal}
use Rattle.twp_plat.specs.Plats.{SurveyPlat}
use Rattle.twp_answers.specs.Answers.{IsNoPlat, IsNoDescription}
use Rattle.twp_answers.specs.OnPlats.{StopsOn}
use Rattle.twp_answers.specs.PlatReading.{IfRefused}
use Rattle.twp_answers.specs.TractFaults.{AnswersFault, IsFirstTractFault, verdict_of}
use Rattle.twp_answers.specs.declared.stop.Verdict.{Verdict}
use Rattle.twp_answers.specs.declared.stop.Stop.{Stop}
use Rattle.twp_answers.specs.declared.stop.Stop.TheVariants as stop
use Rattle.twp_answers.specs.declared.tract_fault.TractFault.{TractFault}
use Rattle.twp_calls.specs.Answers.{stopped, answer_of_fault, answer_of_verdict}
use Rattle.twp_plat.specs.declared.land_area.Account.{Account}
use Rattle.twp_calls.specs.Answers.{ACCEPTED, bare}
use Rattle.twp_calls.specs.Calls.{Answers, IsRefusedFor, IsRefusedList, refused_for, no_memory}
use Rattle.twp_calls.specs.Calls.{OfDescription, OfDescriptionBy, account_of, on_plat, by_account}
use Rattle.twp_calls.specs.Calls.{IsPut, IsTextPut}
use Rattle.twp_calls.specs.Explanations.{IsExplained, IsExplainedFault, IsOfAccount, IsOfFirstFault}
use Rattle.twp_calls.specs.Answers.{IsRefused, verdict_answer}
use Rattle.twp_answers.specs.TractFaults.{refusal_of}
use Rattle.twp_answers.specs.declared.tract_fault.TractFault.TheVariants as fault
use Rattle.twp_calls.specs.GivenPlats.{IsGivenPlat}
use Rattle.twp_calls.specs.declared.plat.TownshipPlat.{TownshipPlat}
use Rattle.twp_calls.specs.declared.answer.TownshipAnswer.{TownshipAnswer}
use Rattle.twp_grid.specs.Lands.{Lotting, STANDARD_LOTS}

-- a description that is refused, or for which memory ran out
pub stopped_on : {lots : Lotting} (Accepted : TownshipAnswer → Type 0) (township : Designation)
    (description : List ℕ)
    (stopping : Stop) → StopsOn lots township description stopping
    → Answers Accepted (IsRefusedFor (IsNoDescription lots township description)) (stopped stopping)
stopped_on Accepted township description (stop.Refused refusal) first =
    refused_for (record { refusal = refusal; first = first; answer_is = refl })
stopped_on Accepted township description (stop.Failed cause) is = no_memory refl

-- notes that are refused, or for which memory ran out
pub stopped_notes : (Accepted : TownshipAnswer → Type 0) (notes : List ℕ) (stopping : Stop)
    → IfRefused stopping (IsNoPlat notes)
    → Answers Accepted (IsRefusedFor (IsNoPlat notes)) (stopped stopping)
stopped_notes Accepted notes (stop.Refused refusal) first =
    refused_for (record { refusal = refusal; first = first; answer_is = refl })
stopped_notes Accepted notes (stop.Failed cause) is = no_memory refl

-- a list that is refused, or for which memory ran out
stopped_by : (Accepted : TownshipAnswer → Type 0) (plat : SurveyPlat) (list : List ℕ)
    (is : TractFault) (found : Option Verdict) → verdict_of is ≡ found
    → IfSome found (λ verdict. IsFirstTractFault STANDARD_LOTS plat.township list is)
    → Answers Accepted (IsRefusedList plat list) (answer_of_verdict found)
stopped_by Accepted plat list is (Some verdict) same first =
    refused_for (record {
      fault = is;
      first = first;
      verdict = verdict;
      verdict_is = same;
      answer_is = refl;
    })
stopped_by Accepted plat list is None same first = no_memory refl

pub stopped_list : (Accepted : TownshipAnswer → Type 0) (plat : SurveyPlat) (list : List ℕ)
    (is : TractFault) → AnswersFault STANDARD_LOTS plat.township list is
    → Answers Accepted (IsRefusedList plat list) (answer_of_fault is)
stopped_list Accepted plat list is first =
    stopped_by Accepted plat list is (verdict_of is) refl first

-- on the plat whose parts are given, a description that is refused, or for which memory ran out
pub stops_on : (given : TownshipPlat) (plat : SurveyPlat) → IsGivenPlat given plat
    → (Accepted : SurveyPlat → TownshipAnswer → Type 0) (description : List ℕ) (stopping : Stop)
    (answer : TownshipAnswer) → answer ≡ stopped stopping
    → StopsOn STANDARD_LOTS plat.township description stopping
    → OfDescription given description Accepted answer
stops_on given plat is Accepted description stopping answer same stops =
    on_plat plat is
    (subst (Answers (Accepted plat) (IsRefusedFor (IsNoDescription STANDARD_LOTS plat.township description)))
    (sym same)
    (stopped_on (Accepted plat) plat.township description stopping stops))

-- the same by an account
pub stops_by : (given : TownshipPlat) (plat : SurveyPlat) → IsGivenPlat given plat
    → (code : ℕ) (account : Account) → account_of code ≡ Some account
    → (Accepted : SurveyPlat → Account → TownshipAnswer → Type 0) (description : List ℕ)
    (stopping : Stop) (answer : TownshipAnswer) → answer ≡ stopped stopping
    → StopsOn STANDARD_LOTS plat.township description stopping
    → OfDescriptionBy given description code Accepted answer
stops_by given plat is code account account_is Accepted description stopping answer same stops =
    on_plat plat is (by_account account account_is
    (subst
    (Answers (Accepted plat account) (IsRefusedFor (IsNoDescription STANDARD_LOTS plat.township description)))
    (sym same) (stopped_on (Accepted plat account) plat.township description stopping stops)))

-- a text that was put beside the verdict that it is there
pub text_put : (IsSuch : List ℕ → Type 0) (explained : TownshipAnswer) (text made old new : List ℕ)
    (answer : TownshipAnswer) → explained ≡ bare ACCEPTED → text ≡ made → IsSuch made
    → IsPut explained text old new answer → IsTextPut IsSuch old new answer
text_put IsSuch explained text made old new answer explained_is text_is such is_put =
    record {
      text = text;
      is = subst IsSuch (sym text_is) such;
      put_is = subst (λ explained. IsPut explained text old new answer) explained_is is_put;
    }

-- the refusal of a description that stopped for it
pub refused_on : {lots : Lotting} (township : Designation) (description : List ℕ) (stopping : Stop)
    (refusal : Refusal)
    → stopping ≡ stop.Refused refusal → StopsOn lots township description stopping
    → IsNoDescription lots township description refusal
refused_on {lots = lots} township description stopping refusal same stops =
    subst (StopsOn lots township description) same stops

-- the refusal of notes that stopped for it
pub refused_in : (notes : List ℕ) (stopping : Stop) (refusal : Refusal) → stopping ≡ stop.Refused refusal
    → IfRefused stopping (IsNoPlat notes) → IsNoPlat notes refusal
refused_in notes stopping refusal same stops =
    subst (λ (s : Stop). IfRefused s (IsNoPlat notes)) same stops

-- what holds of a thing that was found
pub held_by : {A : Type 0} (Holds : A → Type 0) (found : Option A) (it : A) → found ≡ Some it
    → IfSome found Holds → Holds it
held_by Holds None it is holds = absurd (cc is)
held_by Holds (Some other) it is holds = subst Holds (cc is) holds

-- a fault of a list that is a refusal has a verdict, which is one of a refusal
pub refused_by : (is : TractFault) (refusal : Refusal) → refusal_of is ≡ Some refusal
    → (verdict : Verdict) × (verdict_of is ≡ Some verdict) × IsRefused (verdict_answer verdict).verdict
refused_by fault.TractsTooLarge refusal same = (_, refl, inl refl)
refused_by (fault.TractRow number) refusal same = (_, refl, inl refl)
refused_by (fault.NameRepeated number) refusal same = (_, refl, inl refl)
refused_by (fault.TractRefused number inner) refusal same = (_, refl, inr refl)
refused_by (fault.TractsOverlap number) refusal same = (_, refl, inl refl)
refused_by fault.TooManyTracts refusal same = (_, refl, inl refl)
refused_by fault.Memory refusal same = cc same

-- a list that is refused, and its explanation
pub explained_list : (plat : SurveyPlat) (list old new : List ℕ) (explained answer : TownshipAnswer)
    (is : TractFault) (refusal : Refusal) → refusal_of is ≡ Some refusal
    → AnswersFault STANDARD_LOTS plat.township list is → explained ≡ answer_of_fault is
    → IsExplained (IsOfFirstFault plat list) explained old new answer
    → Answers (IsOfAccount plat list old new) (IsExplainedFault plat list old new) answer
explained_list plat list old new explained answer is refusal same first explained_is put =
    let known = refused_by is refusal same in
    refused_for (record {
      fault = is;
      first =
          subst (λ found. IfSome found (λ verdict. IsFirstTractFault STANDARD_LOTS plat.township list is))
          known.1 first;
      verdict = known.0;
      verdict_is = known.1;
      explained =
          subst (λ explained. IsExplained (IsOfFirstFault plat list) explained old new answer)
          (explained_is ∙ ap answer_of_verdict known.1) put;
    })

-- so the answer of such a fault has one
pub refused_verdict : (explained : TownshipAnswer) (is : TractFault) (refusal : Refusal)
    → refusal_of is ≡ Some refusal → explained ≡ answer_of_fault is → IsRefused explained.verdict
refused_verdict explained is refusal same explained_is =
    let known = refused_by is refusal same in
    subst IsRefused
    (sym
    (ap (λ (explained : TownshipAnswer). explained.verdict) (explained_is ∙ ap answer_of_verdict known.1)))
    known.2

-- nothing is written elsewhere
pub kept_list : {Room : Type 0} (old new : Room) (explained answer : TownshipAnswer) (is : TractFault)
    (refusal : Refusal)
    → refusal_of is ≡ Some refusal → explained ≡ answer_of_fault is
    → (answer.verdict ≢ explained.verdict → new ≡ old) → ¬ IsRefused answer.verdict → new ≡ old
kept_list old new explained answer is refusal same explained_is kept none =
    let known = refused_by is refusal same in
    kept (λ alike. none (subst IsRefused
    (sym (alike ∙ ap (λ explained. explained.verdict) (explained_is ∙ ap answer_of_verdict known.1)))
    known.2))

-- a number is what its two words make
pub two_words : (n : ℕ) → n % 18446744073709551616 + 2 ^ 64 * (n / 18446744073709551616) ≡ n
two_words n = mod-add-div n 18446744073709551616
