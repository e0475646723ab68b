-- The explanation of a refused list is its first fault; over plain values.
use Rattle.std.proofs.Common.{◌≡◌, ◌≢◌, ℕ, List, Some, refl, inl, inr, subst}
use Rattle.twp_grid.specs.Townships.{Designation}
use Rattle.twp_grid.specs.declared.refusal.Refusal.{Refusal}
use Rattle.twp_plat.specs.Plats.{SurveyPlat}
use Rattle.twp_answers.specs.Answers.{ArePlatted, IsNoPlat}
use Rattle.twp_answers.specs.TractFaults.{AnswersFault, IsFirstTractFault, refusal_of, verdict_of}
use Rattle.twp_answers.specs.declared.tract_fault.TractFault.{TractFault}
use Rattle.twp_answers.specs.declared.tract_fault.TractFault.TheVariants as fault
use Rattle.twp_answers.specs.declared.stop.Verdict.{Verdict}
use Rattle.twp_answers.specs.declared.stop.Verdict.TheVariants.{Refused, TractRefused}
use Rattle.twp_explain.specs.Refusals.{first_refusal, IsListRefusal}
use Rattle.twp_diagnose.specs.Findings.{IfFound, IsOf}
use Rattle.twp_diagnose.specs.declared.finding.SearchStop.{SearchStop}
use Rattle.twp_diagnose.specs.declared.finding.SearchStop.TheVariants as stop
use Rattle.twp_grid.specs.Lands.{STANDARD_LOTS}

-- a fault of a list is its first one
pub is_first : (township : Designation) (bytes : List ℕ) (is : TractFault) → is ≢ fault.Memory
    → AnswersFault STANDARD_LOTS township bytes is → IsFirstTractFault STANDARD_LOTS township bytes is
is_first township bytes fault.TractsTooLarge some first = first
is_first township bytes (fault.TractRow number) some first = first
is_first township bytes (fault.NameRepeated number) some first = first
is_first township bytes (fault.TractRefused number inner) some first = first
is_first township bytes (fault.TractsOverlap number) some first = first
is_first township bytes fault.TooManyTracts some first = first
is_first township bytes fault.Memory some first = absurd (some refl)

-- the verdict on a fault has its refusal
pub same_refusal : (is : TractFault) (verdict : Verdict) (refusal : Refusal)
    → verdict_of is ≡ Some verdict → refusal_of is ≡ Some refusal
    → first_refusal verdict ≡ Some refusal
same_refusal (fault.TractRefused number inner) verdict refusal judged refused =
    let same : TractRefused number inner ≡ verdict = cc judged in
    subst (λ v. first_refusal v ≡ Some refusal) same refused
same_refusal fault.TractsTooLarge verdict refusal judged refused =
    let same : Refused refusal ≡ verdict = cc (judged, refused) in
    subst (λ v. first_refusal v ≡ Some refusal) same refl
same_refusal (fault.TractRow number) verdict refusal judged refused =
    let same : Refused refusal ≡ verdict = cc (judged, refused) in
    subst (λ v. first_refusal v ≡ Some refusal) same refl
same_refusal (fault.NameRepeated number) verdict refusal judged refused =
    let same : Refused refusal ≡ verdict = cc (judged, refused) in
    subst (λ v. first_refusal v ≡ Some refusal) same refl
same_refusal (fault.TractsOverlap number) verdict refusal judged refused =
    let same : Refused refusal ≡ verdict = cc (judged, refused) in
    subst (λ v. first_refusal v ≡ Some refusal) same refl
same_refusal fault.TooManyTracts verdict refusal judged refused =
    let same : Refused refusal ≡ verdict = cc (judged, refused) in
    subst (λ v. first_refusal v ≡ Some refusal) same refl
same_refusal fault.Memory verdict refusal judged refused = absurd (cc refused)

-- notes that make no plat are what is explained of
pub told_of_notes : (stopped : SearchStop) (notes tracts : List ℕ) (verdict : Verdict) (refusal : Refusal)
    → IfFound stopped (IsNoPlat notes) → IsOf stopped refusal → verdict ≡ Refused refusal
    → IsListRefusal notes tracts verdict refusal
told_of_notes (stop.Found finding) notes tracts verdict refusal none is judged =
    inl (subst (IsNoPlat notes) is none, judged)
told_of_notes stop.Memory notes tracts verdict refusal none is judged = absurd is

-- a list's first fault is what is explained of
pub told_of_list : (notes tracts : List ℕ) (plat : SurveyPlat) (is : TractFault) (verdict : Verdict)
    (refusal : Refusal)
    → ArePlatted notes plat → IsFirstTractFault STANDARD_LOTS plat.township tracts is
    → verdict_of is ≡ Some verdict → refusal_of is ≡ Some refusal
    → IsListRefusal notes tracts verdict refusal
told_of_list notes tracts plat is verdict refusal platted first judged refused =
    inr (record {
      plat = plat;
      platted = platted;
      fault = is;
      first = first;
      verdict_is = judged;
      refusal_is = refused;
    })
