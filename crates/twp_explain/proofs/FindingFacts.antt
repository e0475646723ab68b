-- What was found wrong is what the stages refuse; over plain values.
use Rattle.std.proofs.Common.{◌≡◌, ◌≢◌, ℕ, List, Option, Some, None, Result, Ok, Err, inl, inr, subst}
use Rattle.std.specs.Prelude.{IfOk, IfSome}
use Rattle.twp_grid.specs.Townships.{Designation}
use Rattle.twp_grid.specs.declared.refusal.Refusal.{Refusal}
use Rattle.twp_notes.specs.NotesFaults as notes_faults
use Rattle.twp_notes.specs.declared.fault.NotesFault.{NotesFault}
use Rattle.twp_notes.specs.FieldNotes.{FieldNotes, AreNotes}
use Rattle.twp_plat.specs.Plats.{SurveyPlat}
use Rattle.twp_plat.specs.PlatFaults as plat_faults
use Rattle.twp_plat.specs.declared.fault.PlatFault.{PlatFault}
use Rattle.twp_read.specs.TextFaults as text_faults
use Rattle.twp_read.specs.declared.fault.TextFault.{TextFault}
use Rattle.twp_grammar.specs.Sentences.{IsReadAs}
use Rattle.twp_grammar.specs.declared.item.Item.{Item}
use Rattle.twp_resolve.specs.PlaceFaults as place_faults
use Rattle.twp_resolve.specs.declared.place_fault.PlaceFault.{PlaceFault}
use Rattle.twp_answers.specs.Answers.{ArePlatted, IsNoPlat, IsNoDescription, IsRefusal}
use Rattle.twp_answers.specs.declared.stop.Verdict.{Verdict}
use Rattle.twp_answers.specs.declared.stop.Verdict.TheVariants.{Refused}
use Rattle.twp_answers.proofs.OneAnswer.{not_platted, not_described, one_plat_refusal, one_refusal, one_plat}
use Rattle.twp_read.specs.declared.fault.TextFault.TheVariants as text
use Rattle.twp_sentences.specs.OtherPlaces.{IsOtherPlace}
use Rattle.twp_sentences.specs.ShownPlaces.{IfShown}
use Rattle.twp_sentences.specs.Underlined.{EndsWithFault, EndsWithSign}
use Rattle.twp_explain.specs.FoundFaults.{ShowsFound}
use Rattle.twp_explain.specs.Refusals.{IsOfNone, IsNotOf, DescribeLand}
use Rattle.twp_diagnose.specs.Findings.{IfFinds, IfFound}
use Rattle.twp_diagnose.specs.declared.location.Origin.{Origin}
use Rattle.twp_diagnose.specs.declared.explanation.Explanation.{Explanation}
use Rattle.twp_diagnose.specs.declared.finding.SearchStop.{SearchStop}
use Rattle.twp_diagnose.specs.declared.finding.SearchStop.TheVariants as stop
use Rattle.twp_grid.specs.Lands.{Lotting, STANDARD_LOTS}

-- what holds where there is a refusal, of one that there is
pub held : (answered : Option Refusal) (refusal : Refusal) (Held : Type 0)
    → answered ≡ Some refusal → IfSome answered (λ _. Held) → Held
held None refusal Held is held_if = absurd (cc is)
held (Some some) refusal Held is held_if = held_if

-- notes that are refused make no plat
pub notes_refused : (stopped : SearchStop) (bytes : List ℕ) (fault : NotesFault)
    → IfSome (notes_faults.refusal_of fault) (λ _. notes_faults.IsFirstNotesFault bytes fault)
    → IfFound stopped (λ found. notes_faults.refusal_of fault ≡ Some found)
    → IfFound stopped (IsNoPlat bytes)
notes_refused (stop.Found finding) bytes fault first is =
    inl (record {
      fault = fault;
      first = held (notes_faults.refusal_of fault) finding.refusal
          (notes_faults.IsFirstNotesFault bytes fault) is first;
      refusal_is = is;
    })
notes_refused stop.Memory bytes fault first is = tt

-- notes whose lines are out of their limits make no plat
pub lines_refused : (stopped : SearchStop) (bytes : List ℕ) (notes : FieldNotes) (fault : PlatFault)
    → AreNotes bytes notes → plat_faults.IsFirstPlatFault notes fault
    → IfFound stopped (λ found. plat_faults.refusal_of fault ≡ Some found)
    → IfFound stopped (IsNoPlat bytes)
lines_refused (stop.Found finding) bytes notes fault are first is =
    inr (record { notes = notes; notes_are = are; fault = fault; first = first; refusal_is = is })
lines_refused stop.Memory bytes notes fault are first is = tt

-- a text that isn't read is no description
pub text_refused : (lots : Lotting) (stopped : SearchStop) (township : Designation) (bytes : List ℕ)
    (fault : TextFault)
    → IfSome (text_faults.refusal_of fault) (λ _. text_faults.IsFirstTextFault bytes fault)
    → IfFound stopped (λ found. text_faults.refusal_of fault ≡ Some found)
    → IfFound stopped (IsNoDescription lots township bytes)
text_refused lots (stop.Found finding) township bytes fault first is =
    inl (record {
      fault = fault;
      first = held (text_faults.refusal_of fault) finding.refusal
          (text_faults.IsFirstTextFault bytes fault) is first;
      refusal_is = is;
    })
text_refused lots stop.Memory township bytes fault first is = tt

-- items that don't lie on the plat are no description of land on it
pub items_refused : (lots : Lotting) (stopped : SearchStop) (township : Designation) (bytes : List ℕ)
    (items : List Item)
    (fault : PlaceFault)
    → IsReadAs bytes items → place_faults.IsFirstPlaceFault lots township items fault
    → IfFound stopped (λ found. place_faults.refusal_of fault ≡ Some found)
    → IfFound stopped (IsNoDescription lots township bytes)
items_refused lots (stop.Found finding) township bytes items fault read first is =
    inr (record { items = items; read = read; fault = fault; first = first; refusal_is = is })
items_refused lots stop.Memory township bytes items fault read first is = tt

-- of notes that make a plat no refusal is the verdict
pub platted_is_none : (bytes : List ℕ) (plat : SurveyPlat) (verdict : Verdict) → ArePlatted bytes plat
    → IsOfNone (IsNoPlat bytes) verdict
platted_is_none bytes plat verdict are refusal none said = not_platted bytes refusal plat none are

-- where what was found isn't the verdict, no refusal of the notes is
pub other_than_found : (Is : Refusal → Type 0) (stopped : SearchStop) (verdict : Verdict)
    → ((r r' : Refusal) → Is r → Is r' → r ≡ r') → IfFound stopped Is → IsNotOf stopped verdict
    → IsOfNone Is verdict
other_than_found Is (stop.Found finding) verdict one found other refusal is said =
    other (subst (λ r. verdict ≡ Refused r) (one refusal finding.refusal is found) said)
other_than_found Is stop.Memory verdict one found other refusal is said = absurd other

-- and so where nothing was explained of the notes, or of the land, since the verdict is another
pub none_of_notes : {E : Type 0} (result : Result (Option Explanation) E) (bytes : List ℕ)
    (stopped : SearchStop)
    (verdict : Verdict)
    → IfFound stopped (IsNoPlat bytes)
    → IfOk result (λ explained. explained ≡ None → IsNotOf stopped verdict)
    → IfOk result (λ explained. explained ≡ None → IsOfNone (IsNoPlat bytes) verdict)
none_of_notes (Ok explained) bytes stopped verdict found none = λ is.
    other_than_found (IsNoPlat bytes) stopped verdict (one_plat_refusal bytes) found (none is)
none_of_notes (Err fault) bytes stopped verdict found none = tt

pub none_of_land : {E : Type 0} (result : Result (Option Explanation) E) (notes description : List ℕ)
    (stopped : SearchStop) (verdict : Verdict)
    → IfFound stopped (IsRefusal notes description)
    → IfOk result (λ explained. explained ≡ None → IsNotOf stopped verdict)
    → IfOk result (λ explained. explained ≡ None → IsOfNone (IsRefusal notes description) verdict)
none_of_land (Ok explained) notes description stopped verdict found none = λ is.
    other_than_found (IsRefusal notes description) stopped verdict (one_refusal notes description) found
    (none is)
none_of_land (Err fault) notes description stopped verdict found none = tt

-- notes that make no plat are refused, whatever the description
pub of_land : (notes description : List ℕ) (stopped : SearchStop) → IfFound stopped (IsNoPlat notes)
    → IfFound stopped (IsRefusal notes description)
of_land notes description (stop.Found finding) none = inl none
of_land notes description stop.Memory none = tt

-- and so is a description that is of no land on their plat
pub of_description : (notes description : List ℕ) (plat : SurveyPlat) (stopped : SearchStop)
    → ArePlatted notes plat → IfFound stopped (IsNoDescription STANDARD_LOTS plat.township description)
    → IfFound stopped (IsRefusal notes description)
of_description notes description plat (stop.Found finding) are none =
    inr (record { plat = plat; platted = are; refused = none })
of_description notes description plat stop.Memory are none = tt

-- of land on their plat no refusal is the verdict
pub land_is_none : (notes description : List ℕ) (plat : SurveyPlat) (verdict : Verdict)
    → ArePlatted notes plat → DescribeLand STANDARD_LOTS plat.township description
    → IsOfNone (IsRefusal notes description) verdict
land_is_none notes description plat verdict are land refusal (inl none) said =
    not_platted notes refusal plat none are
land_is_none notes description plat verdict are land refusal (inr is) said =
    let same : is.plat ≡ plat = one_plat notes is.plat plat is.platted are in
    not_described STANDARD_LOTS plat.township description refusal land.0
    (subst (λ (p : SurveyPlat). IsNoDescription STANDARD_LOTS p.township description refusal) same
    is.refused)
    land.1

-- a text that isn't read is shown up to the sign at fault
pub text_shows : (lots : Lotting) (stopped : SearchStop) (origin : Origin) (township : Designation)
    (bytes : List ℕ)
    (fault : TextFault)
    → IfSome (text_faults.refusal_of fault) (λ _. text_faults.IsFirstTextFault bytes fault)
    → IfFound stopped (λ found. text_faults.refusal_of fault ≡ Some found) → IfShown origin bytes stopped
    → (fault ≢ text.TooLarge → IfFinds stopped (λ finding.
    EndsWithSign origin bytes finding.refusal.at finding.place))
    → IfFinds stopped (λ finding. finding.other ≡ None)
    → IfFinds stopped (ShowsFound lots origin township bytes)
text_shows lots (stop.Found finding) origin township bytes fault first is begins ends none =
    record {
      begins = begins;
      ends = inl (record {
        fault = fault;
        first = held (text_faults.refusal_of fault) finding.refusal
            (text_faults.IsFirstTextFault bytes fault) is first;
        refusal_is = is;
        ends = ends;
        no_other = none;
      });
    }
text_shows lots stop.Memory origin township bytes fault first is begins ends none = tt

-- items that name no land on the plat are shown up to the end of what is at fault
pub items_show : (lots : Lotting) (stopped : SearchStop) (origin : Origin) (township : Designation)
    (bytes : List ℕ)
    (items : List Item) (fault : PlaceFault)
    → IsReadAs bytes items → place_faults.IsFirstPlaceFault lots township items fault
    → IfFound stopped (λ found. place_faults.refusal_of fault ≡ Some found) → IfShown origin bytes stopped
    → IfFinds stopped (λ finding. EndsWithFault origin bytes items fault finding.place)
    → IfFinds stopped (λ finding. IsOtherPlace lots origin bytes township items fault finding.other)
    → IfFinds stopped (ShowsFound lots origin township bytes)
items_show lots (stop.Found finding) origin township bytes items fault read first is begins ends other =
    record {
      begins = begins;
      ends = inr (record {
        items = items;
        read = read;
        fault = fault;
        first = first;
        refusal_is = is;
        ends = ends;
        other_is = other;
      });
    }
items_show lots stop.Memory origin township bytes items fault read first is begins ends other = tt
