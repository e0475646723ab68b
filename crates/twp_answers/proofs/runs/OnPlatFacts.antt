-- How answers on a plat give the answers for notes and a description, over plain values.
use Rattle.std.proofs.Common.{◌≡◌, ℕ, List, Bool, Option, Result, Ok, Err, subst}
use Rattle.std.proofs.Common.{inl, inr, arith}
use Rattle.std.specs.Prelude.{IfOk, IfErr}
use Rattle.twp_measure.specs.Areas.{Fraction, IsRounded}
use Rattle.twp_grid.specs.Places.{PLACE_DIGITS}
use Rattle.twp_grid.specs.Townships.{Designation}
use Rattle.twp_grid.specs.declared.refusal.Refusal.{Refusal}
use Rattle.twp_plat.specs.Plats.{SurveyPlat}
use Rattle.twp_plat.specs.PlatAccounts.{IsAreaBy}
use Rattle.twp_plat.specs.declared.land_area.Account.{Account}
use Rattle.twp_plat.specs.declared.land_area.Account.TheVariants.{Exact, Plat}
use Rattle.twp_plat.proofs.AreaLaws.{one_land_area}
use Rattle.twp_plat.proofs.PlatLaws.{one_plat_area}
use Rattle.twp_answers.specs.Answers.{ArePlatted, Describe, IsNoDescription, IsLandOnPlat, IsRefusal}
use Rattle.twp_answers.specs.Answers.{acres_line, refusal_line}
use Rattle.twp_answers.specs.AccountAnswers.{HasAcresBy, IsAcresAnswerBy}
use Rattle.twp_answers.specs.NormalAnswers.{IsNormalAnswer, IsNormalForm}
use Rattle.twp_answers.specs.PlatAnswers.{IsPrintedPlat}
use Rattle.twp_answers.specs.OnPlats.{HasAcresOn, HasAreaOn, HasNormalOn, IsTextOfPlat, StopsOn}
use Rattle.twp_answers.specs.OnPlatLaws.{AcresOnAreOfNotes, NormalOnIsOfNotes, TextOfPlatIsOfNotes}
use Rattle.twp_answers.specs.OnPlatLaws.{RefusalOnIsOfNotes, AnsweredOrRefusedOn, OneAreaOn}
use Rattle.twp_answers.specs.Runs.{AnswerRelation, ReadsTwo}
use Rattle.twp_answers.specs.steps.OnPlatSteps.{IsAcresAnswerOn, IsNormalAnswerOn}
use Rattle.twp_answers.specs.steps.RunStops.{AnswersStop}
use Rattle.twp_answers.specs.declared.runs.answer.Answer.{Answer}
use Rattle.twp_answers.specs.declared.stop.Stop.{Stop}
use Rattle.twp_answers.specs.declared.stop.Stop.TheVariants as stop
use Rattle.twp_answers.specs.declared.stop.RunFault.{RunFault}
use Rattle.twp_answers.specs.declared.stop.RunFault.TheVariants.{Memory}
use Rattle.twp_answers.specs.declared.stop.Verdict.{Verdict}
use Rattle.twp_answers.specs.declared.stop.Verdict.TheVariants as verdict
use Rattle.twp_answers.proofs.OneAnswer.{one_plat, one_land, not_described, not_platted}
use Rattle.twp_grid.specs.Lands.{STANDARD_LOTS}

-- with a stop on the plat, the answer can only fail because memory runs out
pub stop_memory : (township : Designation) (d : List ℕ) (by : Stop) (r : Result Answer RunFault)
    → StopsOn STANDARD_LOTS township d by → AnswersStop by r → IfErr r (λ fault. fault ≡ Memory)
stop_memory township d (stop.Refused refusal) (Ok answer) is answers = tt
stop_memory township d (stop.Refused refusal) (Err fault) is answers = answers
stop_memory township d (stop.Failed fault) (Ok answer) is answers = absurd answers
stop_memory township d (stop.Failed fault) (Err answered) is answers = cc (answers, is)

-- the answer is the refusal
pub stop_refused : (Answers : AnswerRelation) (township : Designation) (d : List ℕ) (by : Stop)
    (r : Result Answer RunFault)
    → StopsOn STANDARD_LOTS township d by → AnswersStop by r
    → ((refusal : Refusal) → IsNoDescription STANDARD_LOTS township d refusal
    → Answers (refusal_line refusal) (verdict.Refused refusal))
    → IfOk r (λ answer. Answers answer.text.items answer.verdict)
stop_refused Answers township d (stop.Refused refusal) (Ok answer) is answers refused =
    rw (answers.0, answers.1) (refused refusal is)
stop_refused Answers township d (stop.Refused refusal) (Err fault) is answers refused = tt
stop_refused Answers township d (stop.Failed fault) (Ok answer) is answers refused = absurd answers
stop_refused Answers township d (stop.Failed fault) (Err answered) is answers refused = tt

-- the answer that accepts has the acres of the area that was found
pub area_accepted : (account : Account) (plat : SurveyPlat) (d : List ℕ) (area : Fraction) (h : ℕ)
    (r : Result Answer RunFault)
    → HasAreaOn plat d account area → IsRounded area h
    → IfOk r (λ answer. (answer.text.items ≡ acres_line h) × (answer.verdict ≡ verdict.Accepted))
    → IfOk r (λ answer. IsAcresAnswerOn account plat d answer.text.items answer.verdict)
area_accepted account plat d area h (Ok answer) found rounded is =
    rw is.1 (h, record { area = area; area_is = found; rounded = rounded }, is.0)
area_accepted account plat d area h (Err fault) found rounded is = tt

-- land on the plat of the notes
abbrev land_on : (notes d : List ℕ) (plat : SurveyPlat) (places : ℕ → ℕ → ℕ → Bool)
    → ArePlatted notes plat → Describe STANDARD_LOTS plat.township d places → IsLandOnPlat notes d plat places
land_on notes d plat places platted described = record { platted = platted; described = described }

pub acres_of_notes : (account : Account) (notes d : List ℕ) (plat : SurveyPlat) (h : ℕ)
    → ArePlatted notes plat → HasAcresOn plat d account h → HasAcresBy account notes d h
acres_of_notes Exact notes d plat h platted has = record {
  plat = plat;
  places = has.area_is.places;
  land = land_on notes d plat has.area_is.places platted has.area_is.described;
  acres = record { area = has.area; area_is = has.area_is.area_is; rounded = has.rounded };
}
acres_of_notes Plat notes d plat h platted has = record {
  plat = plat;
  places = has.area_is.places;
  land = land_on notes d plat has.area_is.places platted has.area_is.described;
  acres = record { area = has.area; area_is = has.area_is.area_is; rounded = has.rounded };
}

acres_on_plat : (account : Account) (notes d : List ℕ) (plat : SurveyPlat) (h : ℕ)
    → ArePlatted notes plat → HasAcresBy account notes d h → HasAcresOn plat d account h
acres_on_plat Exact notes d plat h platted has =
    subst (λ p. HasAcresOn p d Exact h) (one_plat notes has.plat plat has.land.platted platted) (record {
      area = has.acres.area;
      area_is = record {
        places = has.places;
        described = has.land.described;
        area_is = has.acres.area_is;
      };
      rounded = has.acres.rounded;
    })
acres_on_plat Plat notes d plat h platted has =
    subst (λ p. HasAcresOn p d Plat h) (one_plat notes has.plat plat has.land.platted platted) (record {
      area = has.acres.area;
      area_is = record {
        places = has.places;
        described = has.land.described;
        area_is = has.acres.area_is;
      };
      rounded = has.acres.rounded;
    })

pub acres_on_are_of_notes : AcresOnAreOfNotes
acres_on_are_of_notes notes d plat account h platted = (
  (λ has. acres_of_notes account notes d plat h platted has),
  (λ has. acres_on_plat account notes d plat h platted has),
)

pub normal_of_notes : (notes d text : List ℕ) (plat : SurveyPlat) → ArePlatted notes plat
    → HasNormalOn plat d text → IsNormalForm notes d text
normal_of_notes notes d text plat platted has = record {
  plat = plat;
  places = has.places;
  land = land_on notes d plat has.places platted has.described;
  text_is = has.text_is;
}

normal_on_plat : (notes d text : List ℕ) (plat : SurveyPlat) → ArePlatted notes plat
    → IsNormalForm notes d text → HasNormalOn plat d text
normal_on_plat notes d text plat platted form =
    subst (λ p. HasNormalOn p d text) (one_plat notes form.plat plat form.land.platted platted) (record {
      places = form.places;
      described = form.land.described;
      text_is = form.text_is;
    })

pub normal_on_is_of_notes : NormalOnIsOfNotes
normal_on_is_of_notes notes d text plat platted = (
  (λ has. normal_of_notes notes d text plat platted has),
  (λ form. normal_on_plat notes d text plat platted form),
)

pub text_of_notes : (notes text : List ℕ) (plat : SurveyPlat) → ArePlatted notes plat
    → IsTextOfPlat plat text → IsPrintedPlat notes text
text_of_notes notes text plat platted is =
    record { plat = plat; platted = platted; figures = is.figures; are = is.are; text_is = is.text_is }

text_of_plat : (notes text : List ℕ) (plat : SurveyPlat) → ArePlatted notes plat
    → IsPrintedPlat notes text → IsTextOfPlat plat text
text_of_plat notes text plat platted is =
    subst (λ p. IsTextOfPlat p text) (one_plat notes is.plat plat is.platted platted)
    (record { figures = is.figures; are = is.are; text_is = is.text_is })

pub text_of_plat_is_of_notes : TextOfPlatIsOfNotes
text_of_plat_is_of_notes notes text plat platted =
    ((λ is. text_of_notes notes text plat platted is), (λ is. text_of_plat notes text plat platted is))

pub refusal_of_notes : (notes d : List ℕ) (plat : SurveyPlat) (refusal : Refusal) → ArePlatted notes plat
    → IsNoDescription STANDARD_LOTS plat.township d refusal → IsRefusal notes d refusal
refusal_of_notes notes d plat refusal platted is =
    inr (record { plat = plat; platted = platted; refused = is })

refusal_on_plat : (notes d : List ℕ) (plat : SurveyPlat) (refusal : Refusal) → ArePlatted notes plat
    → IsRefusal notes d refusal → IsNoDescription STANDARD_LOTS plat.township d refusal
refusal_on_plat notes d plat refusal platted (inl none) =
    absurd (not_platted notes refusal plat none platted)
refusal_on_plat notes d plat refusal platted (inr is) =
    subst (λ (p : SurveyPlat). IsNoDescription STANDARD_LOTS p.township d refusal)
    (one_plat notes is.plat plat is.platted platted) is.refused

pub refusal_on_is_of_notes : RefusalOnIsOfNotes
refusal_on_is_of_notes notes d plat refusal platted = (
  (λ is. refusal_of_notes notes d plat refusal platted is),
  (λ is. refusal_on_plat notes d plat refusal platted is),
)

pub answered_or_refused_on : AnsweredOrRefusedOn
answered_or_refused_on d plat account area refusal has is =
    not_described STANDARD_LOTS plat.township d refusal has.places is has.described

one_area_by : (account : Account) (plat : SurveyPlat) (places : ℕ → ℕ → ℕ → Bool) (area area' : Fraction)
    → IsAreaBy account PLACE_DIGITS plat places area → IsAreaBy account PLACE_DIGITS plat places area'
    → area ≡ area'
one_area_by Exact plat places area area' is is' =
    one_land_area PLACE_DIGITS (omega arith) plat places area area' is is'
one_area_by Plat plat places area area' is is' = one_plat_area PLACE_DIGITS plat places area area' is is'

pub one_area_on : OneAreaOn
one_area_on d plat account area area' has has' =
    let same : has.places ≡ has'.places =
    one_land STANDARD_LOTS plat.township d has.places has'.places has.described has'.described in
    one_area_by account plat has'.places area area'
    (subst (λ p. IsAreaBy account PLACE_DIGITS plat p area) same has.area_is) has'.area_is

-- the answers on the plat of the notes are those for the notes and the description
pub acres_answered : (account : Account) (notes d : List ℕ) (plat : SurveyPlat) (answer : List ℕ)
    (v : Verdict)
    → ArePlatted notes plat → IsAcresAnswerOn account plat d answer v
    → IsAcresAnswerBy account notes d answer v
acres_answered account notes d plat answer verdict.Accepted platted (h, has, is) =
    (h, acres_of_notes account notes d plat h platted has, is)
acres_answered account notes d plat answer (verdict.Refused refusal) platted (refused, is) =
    (refusal_of_notes notes d plat refusal platted refused, is)
acres_answered account notes d plat answer (verdict.TractRefused at_ inner) platted is = absurd is

pub normal_answered : (notes d : List ℕ) (plat : SurveyPlat) (answer : List ℕ) (v : Verdict)
    → ArePlatted notes plat → IsNormalAnswerOn plat d answer v → IsNormalAnswer notes d answer v
normal_answered notes d plat answer verdict.Accepted platted has =
    normal_of_notes notes d answer plat platted has
normal_answered notes d plat answer (verdict.Refused refusal) platted (refused, is) =
    (refusal_of_notes notes d plat refusal platted refused, is)
normal_answered notes d plat answer (verdict.TractRefused at_ inner) platted is = absurd is

-- so the answer for the texts that were read is that for the two texts
pub answered_of_two : (first second : Option (List ℕ)) (GoesOn : List ℕ → Type 0) (unread : Type 0)
    (On : SurveyPlat → List ℕ → AnswerRelation) (Answers : List ℕ → List ℕ → AnswerRelation)
    (plat : SurveyPlat) (description : List ℕ) (r : Result Answer RunFault)
    → ((n d : List ℕ) (a : List ℕ) (v : Verdict) → ArePlatted n plat → On plat d a v → Answers n d a v)
    → ReadsTwo first second GoesOn unread (λ n d. ArePlatted n plat × (description ≡ d))
    → IfOk r (λ answer. On plat description answer.text.items answer.verdict)
    → ReadsTwo first second GoesOn unread (λ n d. IfOk r (λ answer. Answers n d answer.text.items
    answer.verdict))
answered_of_two first second GoesOn unread On Answers plat description r answered read is = record {
  first_bytes = read.first_bytes;
  second_bytes = read.second_bytes;
  first_tells = read.first_tells;
  second_tells = read.second_tells;
  holds = of r (subst (λ d. IfOk r (λ answer. On plat d answer.text.items answer.verdict)) read.holds.1 is);
  order = read.order;
} where
  of : (r : Result Answer RunFault)
      → IfOk r (λ answer. On plat read.second_bytes answer.text.items answer.verdict)
      → IfOk r (λ answer. Answers read.first_bytes read.second_bytes answer.text.items answer.verdict)
  of (Ok answer) on =
      answered read.first_bytes read.second_bytes answer.text.items answer.verdict read.holds.0 on
  of (Err fault) on = tt
