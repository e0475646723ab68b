-- What the calls by a lot table answer, by what their stages came to; over plain values.
use Rattle.std.proofs.Common.{◌≡◌, ℕ, Bool, List, Option, Some, None, IfSome, refl, sym, subst}
use Rattle.twp_grid.specs.declared.refusal.Refusal.{Refusal}
use Rattle.twp_plat.specs.LotAreas.{IsFirstLacking}
use Rattle.twp_plat.specs.LotTables.{figure_of, lots_of}
use Rattle.twp_grid.specs.Townships.{Designation}
use Rattle.twp_plat.specs.declared.lots.returned.ReturnedLots.{ReturnedLots}
use Rattle.twp_plat.specs.LotsFaults.{IsFirstLotsFault, lacking_refusal, refusal_of}
use Rattle.twp_plat.specs.declared.lots.fault.LotsFault.{LotsFault}
use Rattle.twp_answers.specs.declared.stop.Stop.{Stop}
use Rattle.twp_answers.specs.declared.stop.Stop.TheVariants as stop
use Rattle.twp_calls.specs.Answers.{answer_of_refusal, refused, stopped}
use Rattle.twp_calls.specs.Calls.{Answers, IsRefusedFor, no_memory, refused_for}
use Rattle.twp_explain.specs.LotRefusals.{AreNoLots}
use Rattle.twp_answers.specs.LotLands.{HasNoLotAreaOf, IsLackingLot}
use Rattle.twp_calls.specs.declared.answer.TownshipAnswer.{TownshipAnswer}
use Rattle.twp_calls.specs.steps.LotSteps.{StopsByLots}

-- bytes that are no lot table, or for which memory ran out
no_lots : (Accepted : TownshipAnswer → Type 0) (bytes : List ℕ) (fault : LotsFault)
    (found : Option Refusal) → refusal_of fault ≡ found → IfSome found (λ _. IsFirstLotsFault bytes fault)
    → Answers Accepted (IsRefusedFor (AreNoLots bytes)) (answer_of_refusal found)
no_lots Accepted bytes fault (Some refusal) same first =
    refused_for (record {
      refusal = refusal;
      first = record { fault = fault; first = first; refusal_is = same };
      answer_is = refl;
    })
no_lots Accepted bytes fault None same first = no_memory refl

pub refused_lots : (Accepted : TownshipAnswer → Type 0) (bytes : List ℕ) (fault : LotsFault)
    (answer : TownshipAnswer) → answer ≡ answer_of_refusal (refusal_of fault)
    → IfSome (refusal_of fault) (λ _. IsFirstLotsFault bytes fault)
    → Answers Accepted (IsRefusedFor (AreNoLots bytes)) answer
refused_lots Accepted bytes fault answer same first =
    subst (Answers Accepted (IsRefusedFor (AreNoLots bytes))) (sym same)
    (no_lots Accepted bytes fault (refusal_of fault) refl first)

-- a description that has no area by the table, or for which memory ran out
stopped_by_lots : (Accepted : TownshipAnswer → Type 0) (township : Designation) (lots : ReturnedLots)
    (description : List ℕ)
    (stopping : Stop) → StopsByLots township lots description stopping
    → Answers Accepted (IsRefusedFor (HasNoLotAreaOf township lots description)) (stopped stopping)
stopped_by_lots Accepted township lots description (stop.Refused refusal) first =
    refused_for (record { refusal = refusal; first = first; answer_is = refl })
stopped_by_lots Accepted township lots description (stop.Failed fault) is = no_memory refl

pub stops_by_lots : (Accepted : TownshipAnswer → Type 0) (township : Designation) (lots : ReturnedLots)
    (description : List ℕ)
    (stopping : Stop) (answer : TownshipAnswer) → answer ≡ stopped stopping
    → StopsByLots township lots description stopping
    → Answers Accepted (IsRefusedFor (HasNoLotAreaOf township lots description)) answer
stops_by_lots Accepted township lots description stopping answer same stops =
    subst (Answers Accepted (IsRefusedFor (HasNoLotAreaOf township lots description))) (sym same)
    (stopped_by_lots Accepted township lots description stopping stops)

-- land with a lot that the table lacks
pub lacks_lot : (lots : ReturnedLots) (places : ℕ → ℕ → ℕ → Bool) (section number : ℕ)
    (refusal : Refusal) (answer : TownshipAnswer)
    → IsFirstLacking (lots_of lots) (figure_of lots) places section number
    → refusal ≡ lacking_refusal section number → answer ≡ refused refusal
    → IsRefusedFor (IsLackingLot lots places) answer
lacks_lot lots places section number refusal answer first is answer_is = record {
  refusal = refusal;
  first = record { section = section; number = number; first = first; refusal_is = is };
  answer_is = answer_is;
}
