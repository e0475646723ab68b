-- What was found wrong with a lot table is its first fault; over plain values.
use Rattle.std.proofs.Common.{◌≡◌, ℕ, List, Some}
use Rattle.std.specs.Prelude.{IfSome}
use Rattle.twp_plat.specs.LotsFaults.{IsFirstLotsFault, refusal_of}
use Rattle.twp_plat.specs.declared.lots.fault.LotsFault.{LotsFault}
use Rattle.twp_diagnose.specs.Findings.{IfFound}
use Rattle.twp_diagnose.specs.declared.finding.SearchStop.{SearchStop}
use Rattle.twp_diagnose.specs.declared.finding.SearchStop.TheVariants as stop
use Rattle.twp_explain.specs.LotRefusals.{AreNoLots}
use Rattle.twp_explain.proofs.FindingFacts.{held}

-- a lot table that is refused is none
pub lots_refused : (stopped : SearchStop) (bytes : List ℕ) (fault : LotsFault)
    → IfSome (refusal_of fault) (λ _. IsFirstLotsFault bytes fault)
    → IfFound stopped (λ found. refusal_of fault ≡ Some found) → IfFound stopped (AreNoLots bytes)
lots_refused (stop.Found finding) bytes fault first is = record {
  fault = fault;
  first = held (refusal_of fault) finding.refusal (IsFirstLotsFault bytes fault) is first;
  refusal_is = is;
}
lots_refused stop.Memory bytes fault first is = tt
