-- Where a refused description is shown, over plain values.
use Rattle.std.proofs.Common.{◌≡◌, ℕ, Bool, true, false, cond, List, Option, Some, None}
use Rattle.std.proofs.Common.{Result, Ok, Err, drop, refl, sym, ap, subst}
use Rattle.std.specs.Prelude.{IfOk}
use Rattle.std.specs.List.{list_all}
use Rattle.std.proofs.lemmas.List.Sums.{AllPass-from_list_all}
use Rattle.twp_excerpt.specs.Spots.{is_white, end_of}
use Rattle.twp_grid.specs.declared.refusal.Refusal.{Refusal}
use Rattle.twp_read.specs.TextFaults as text_faults
use Rattle.twp_read.specs.declared.fault.TextFault.{TextFault}
use Rattle.twp_read.specs.declared.fault.TextFault.TheVariants as faults
use Rattle.twp_diagnose.specs.Findings.{IfFinds, IsStopOf}
use Rattle.twp_diagnose.specs.Sights.{shown_place}
use Rattle.twp_diagnose.specs.declared.finding.Finding.{Finding}
use Rattle.twp_diagnose.specs.declared.finding.SearchStop.{SearchStop}
use Rattle.twp_diagnose.specs.declared.location.Location.{Location}
use Rattle.twp_diagnose.specs.declared.location.Origin.{Origin}
use Rattle.twp_sentences.specs.ShownPlaces.{BeginsAt, ShowsAt, ShowsRefused, as_a_whole, there, at_the_end}
use Rattle.twp_sentences.specs.ShownPlaces.{IfShown}
use Rattle.twp_sentences.specs.Underlined.{EndsWithSign}

begins_refused : (origin : Origin) (bytes : List ℕ) (refusal : Refusal) (place : Location) (ends : Bool)
    → list_all is_white (drop refusal.at bytes) ≡ ends
    → BeginsAt origin (cond ends (end_of bytes) refusal.at) place → ShowsRefused origin bytes refusal place
begins_refused origin bytes refusal place true ends begins =
    at_the_end (AllPass-from_list_all is_white (drop refusal.at bytes) ends) begins
begins_refused origin bytes refusal place false ends begins = there begins

-- the number of a refusal, if there is one
abbrev number_of : Option Refusal → ℕ
number_of None = 0
number_of (Some refusal) = refusal.number

shows_refused : (origin : Origin) (bytes : List ℕ) (fault : TextFault) (refusal : Refusal) (place : Location)
    → text_faults.refusal_of fault ≡ Some refusal
    → ShowsAt origin fault (shown_place bytes refusal.at) place → ShowsRefused origin bytes refusal place
shows_refused origin bytes faults.TooLarge refusal place is shows = as_a_whole (sym (ap number_of is)) shows
shows_refused origin bytes (faults.BadByte at_) refusal place is shows =
    begins_refused origin bytes refusal place (list_all is_white (drop refusal.at bytes)) refl shows
shows_refused origin bytes (faults.BadNumber at_) refusal place is shows =
    begins_refused origin bytes refusal place (list_all is_white (drop refusal.at bytes)) refl shows
shows_refused origin bytes (faults.Syntax at_ expected) refusal place is shows =
    begins_refused origin bytes refusal place (list_all is_white (drop refusal.at bytes)) refl shows
shows_refused origin bytes faults.Memory refusal place is shows =
    begins_refused origin bytes refusal place (list_all is_white (drop refusal.at bytes)) refl shows

pub text_shown : {Error : Type 0} (found : Result Finding Error) (stopped : SearchStop) (origin : Origin)
    (bytes : List ℕ) (fault : TextFault) (refusal : Refusal)
    → text_faults.refusal_of fault ≡ Some refusal → IsStopOf found stopped
    → IfOk found (λ finding. finding.refusal ≡ refusal)
    → IfOk found (λ finding. ShowsAt origin fault (shown_place bytes refusal.at) finding.place)
    → IfShown origin bytes stopped
text_shown (Ok finding) stopped origin bytes fault refusal has stop_is same shows =
    subst (IfShown origin bytes) (sym stop_is)
    (subst (λ (r : Refusal). ShowsRefused origin bytes r finding.place) (sym same)
    (shows_refused origin bytes fault refusal finding.place has shows))
text_shown (Err error) stopped origin bytes fault refusal has stop_is same shows =
    subst (IfShown origin bytes) (sym stop_is) tt

pub items_shown : {Error : Type 0} (found : Result Finding Error) (stopped : SearchStop) (origin : Origin)
    (bytes : List ℕ) (refusal : Refusal)
    → IsStopOf found stopped → IfOk found (λ finding. finding.refusal ≡ refusal)
    → IfOk found (λ finding. BeginsAt origin refusal.at finding.place) → IfShown origin bytes stopped
items_shown (Ok finding) stopped origin bytes refusal stop_is same begins =
    subst (IfShown origin bytes) (sym stop_is)
    (subst (λ (r : Refusal). ShowsRefused origin bytes r finding.place) (sym same) (there begins))
items_shown (Err error) stopped origin bytes refusal stop_is same begins =
    subst (IfShown origin bytes) (sym stop_is) tt

-- and what was found ends with its sign
pub ends_there : {Error : Type 0} (found : Result Finding Error) (stopped : SearchStop) (origin : Origin)
    (bytes : List ℕ) (refusal : Refusal)
    → IsStopOf found stopped → IfOk found (λ finding. finding.refusal ≡ refusal)
    → IfOk found (λ finding. EndsWithSign origin bytes refusal.at finding.place)
    → IfFinds stopped (λ finding. EndsWithSign origin bytes finding.refusal.at finding.place)
ends_there (Ok finding) stopped origin bytes refusal stop_is same ends =
    subst (λ (s : SearchStop). IfFinds s (λ it. EndsWithSign origin bytes it.refusal.at it.place))
    (sym stop_is)
    (subst (λ (r : Refusal). EndsWithSign origin bytes r.at finding.place) (sym same) ends)
ends_there (Err error) stopped origin bytes refusal stop_is same ends =
    subst (λ (s : SearchStop). IfFinds s (λ it. EndsWithSign origin bytes it.refusal.at it.place))
    (sym stop_is)
    tt
