-- What was found, over plain values.
use Rattle.std.proofs.Common.{◌≡◌, Option, Some, Result, Ok, Err, sym, subst}
use Rattle.std.specs.Prelude.{IfOk}
use Rattle.twp_grid.specs.declared.refusal.Refusal.{Refusal}
use Rattle.twp_diagnose.specs.Findings.{IfFinds, IfFound, IsStopOf}
use Rattle.twp_diagnose.specs.declared.finding.SearchStop.{SearchStop}
use Rattle.twp_diagnose.specs.declared.finding.Finding.{Finding}
use Rattle.twp_diagnose.specs.declared.finding.SearchStop.TheVariants as stop

-- what was found of a refusal is of the fault that has it
pub of_fault : (stopped : SearchStop) (refusal : Refusal) (answered : Option Refusal)
    → answered ≡ Some refusal → IfFound stopped (λ found. found ≡ refusal)
    → IfFound stopped (λ found. answered ≡ Some found)
of_fault (stop.Found finding) refusal answered is found = cc (is, found)
of_fault stop.Memory refusal answered is found = tt

-- and what holds of it
pub of_found : {Error : Type 0} (Holds : Finding → Type 0) (found : Result Finding Error)
    (stopped : SearchStop)
    → IsStopOf found stopped → IfOk found Holds → IfFinds stopped Holds
of_found Holds (Ok finding) stopped is holds = subst (λ (s : SearchStop). IfFinds s Holds) (sym is) holds
of_found Holds (Err error) stopped is holds = subst (λ (s : SearchStop). IfFinds s Holds) (sym is) tt
