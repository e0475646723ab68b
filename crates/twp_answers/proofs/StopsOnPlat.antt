-- Why a description stops an answer on a plat, over plain values.
use Rattle.std.proofs.Common.{ℕ, List, inl, inr, refl}
use Rattle.std.specs.Prelude.{IfSome}
use Rattle.twp_grid.specs.Townships.{Designation}
use Rattle.twp_grammar.specs.declared.item.Item.{Item}
use Rattle.twp_read.specs.TextFaults.{IsReadAs}
use Rattle.twp_read.specs.TextFaults as text_faults
use Rattle.twp_read.specs.declared.fault.TextFault.{TextFault}
use Rattle.twp_resolve.specs.PlaceFaults.{IsFirstPlaceFault}
use Rattle.twp_resolve.specs.declared.place_fault.PlaceFault.{PlaceFault}
use Rattle.twp_answers.specs.Answers.{IsNoDescription}
use Rattle.twp_answers.specs.OnPlats.{StopsOn}
use Rattle.twp_answers.specs.PlatReading.{IfRefused}
use Rattle.twp_answers.specs.steps.PassedFaults.{IsStopOfPlaces, IsStopOfText}
use Rattle.twp_answers.specs.steps.Stops.{IfFailed}
use Rattle.twp_answers.specs.declared.stop.Stop.{Stop}
use Rattle.twp_answers.specs.declared.stop.Stop.TheVariants as stop
use Rattle.twp_answers.specs.declared.stop.RunFault.{RunFault}
use Rattle.twp_answers.specs.declared.stop.RunFault.TheVariants.{Memory, Read, Write}
use Rattle.twp_grid.specs.Lands.{Lotting}

-- items that do not lie on the plat stop the run with their refusal
pub stopped_by_places : (lots : Lotting) (township : Designation) (d : List ℕ) (is : List Item)
    (fault : PlaceFault)
    (stopped : Stop)
    → IsReadAs d is
    → IsFirstPlaceFault lots township is fault → IsStopOfPlaces fault stopped
    → IfRefused stopped (IsNoDescription lots township d)
stopped_by_places lots township d is fault (stop.Refused refusal) read first by =
    inr (record { items = is; read = read; fault = fault; first = first; refusal_is = by })
stopped_by_places lots township d is fault (stop.Failed failed) read first by = tt

-- on an existing plat, a text that cannot be read stops a call with its refusal, or for want of memory
pub text_stops_on : (lots : Lotting) (township : Designation) (d : List ℕ) (fault : TextFault)
    (stopped : Stop)
    → IfSome (text_faults.refusal_of fault) (λ _. text_faults.IsFirstTextFault d fault)
    → IsStopOfText fault stopped
    → StopsOn lots township d stopped
text_stops_on lots township d fault (stop.Refused refusal) first by =
    inl (record { fault = fault; first = rw by at first; refusal_is = by })
text_stops_on lots township d fault (stop.Failed Memory) first by = refl
text_stops_on lots township d fault (stop.Failed Read) first by = absurd by
text_stops_on lots township d fault (stop.Failed Write) first by = absurd by

-- and items that do not lie on it, with theirs
pub places_stop_on : (lots : Lotting) (township : Designation) (d : List ℕ) (is : List Item)
    (fault : PlaceFault)
    (stopped : Stop)
    → IsReadAs d is
    → IsFirstPlaceFault lots township is fault → IsStopOfPlaces fault stopped
    → StopsOn lots township d stopped
places_stop_on lots township d is fault (stop.Refused refusal) read first by =
    inr (record { items = is; read = read; fault = fault; first = first; refusal_is = by })
places_stop_on lots township d is fault (stop.Failed failed) read first by = absurd by

-- they do not stop it for anything that failed
pub places_never_fail : (fault : PlaceFault) (stopped : Stop) (Holds : RunFault → Type 0)
    → IsStopOfPlaces fault stopped → IfFailed stopped Holds
places_never_fail fault (stop.Refused refusal) Holds by = tt
places_never_fail fault (stop.Failed failed) Holds by = absurd by
