-- What is shown of a record of a list, over plain values.
use Rattle.std.proofs.Common.{◌≡◌, ℕ, ◌≤◌, List, Result, Ok, Err}
use Rattle.std.proofs.Common.{sym, subst, inl, inr, arith}
use Rattle.std.specs.Prelude.{IfErr, OnOk}
use Rattle.twp_grid.specs.Lands.{Lotting}
use Rattle.twp_grid.specs.Townships.{Designation}
use Rattle.twp_notes.specs.Records.{Fields, records_of}
use Rattle.twp_answers.specs.Tracts.{name_in}
use Rattle.twp_answers.proofs.TractLands.{earlier_or_last}
use Rattle.twp_diagnose.specs.Findings.{IfFinds}
use Rattle.twp_diagnose.specs.RecordFields.{IsListedAt, fields_listed, number_listed}
use Rattle.twp_diagnose.specs.declared.explanation.OtherPlace.{OtherPlace}
use Rattle.twp_diagnose.specs.declared.finding.SearchStop.{SearchStop}
use Rattle.twp_diagnose.specs.declared.finding.SearchStop.TheVariants as stop
use Rattle.twp_diagnose.specs.declared.location.Given.{Given}
use Rattle.twp_diagnose.specs.declared.listed.Listed.{Listed}
use Rattle.twp_diagnose.specs.declared.location.Origin.{Origin}
use Rattle.twp_explain.specs.BlamedTracts.{IsDescriptionOf, IsFirstNamed, IsRefusedTract, description_listed}
use Rattle.twp_explain.specs.FoundFaults.{ShowsFound}
use Rattle.twp_explain.specs.OtherTracts.{IsFieldOf, IsNamedBefore}

-- what holds anyway holds if there is a value
pub holds_on_ok : {Value Error Holds : Type 0} (r : Result Value Error) → Holds → OnOk r Holds
holds_on_ok (Ok value) holds = holds
holds_on_ok (Err error) holds = tt

-- the description of a record is refused where it is in the list
pub refused_tract : {Value : Type 0} (result : Result Value SearchStop) (origin : Origin)
    (lots : Lotting) (township : Designation)
    (listed : Listed) (bytes : List ℕ) → IsDescriptionOf listed origin → bytes ≡ description_listed listed
    → IfErr result (λ stopped. IfFinds stopped (ShowsFound lots origin township bytes))
    → IfErr result (λ stopped. IfFinds stopped (IsRefusedTract lots township listed))
refused_tract (Ok value) origin lots township listed bytes of_record same shown = tt
refused_tract (Err (stop.Found finding)) origin lots township listed bytes of_record same shown = record {
  origin = origin;
  origin_is = of_record;
  shows = subst (λ (text : List ℕ). ShowsFound lots origin township text finding) same shown;
}
refused_tract (Err stop.Memory) origin lots township listed bytes of_record same shown = tt

-- a record of a list is the one of its own number
pub listed_itself : (tracts : Given) (number : ℕ) (listed : Listed) → IsListedAt tracts number listed
    → IsListedAt listed.file (number_listed listed) listed
listed_itself tracts number listed is =
    subst (λ (file : Given). IsListedAt file (number_listed listed) listed) (sym is.file_is)
    (subst (λ (n : ℕ). IsListedAt tracts n listed) (sym is.record_is.number_is) is)

-- the first tract with a name is a record of the list
from_one : (rows : List Fields) (name : List ℕ) (last number : ℕ) → IsFirstNamed rows name last number
    → 1 ≤ last → 1 ≤ number
from_one rows name last number is some =
    let until : number ≤ last = is.until in
    elim (earlier_or_last last number (omega arith)) [
      | inl earlier ↦ let two : 2 ≤ number = is.is_tract earlier in omega arith
      | inr same ↦ omega arith
    ]

-- and it is the other place
pub named_before : (listed earlier : Listed) (number : ℕ) (other : OtherPlace)
    → IsFirstNamed (records_of listed.file.bytes.now) (name_in (fields_listed listed)) (number_listed listed)
    number
    → 1 ≤ number_listed listed → (1 ≤ number → IsListedAt listed.file number earlier)
    → IsFieldOf earlier 0 other → IsNamedBefore listed other
named_before listed earlier number other first some is field =
    let at : IsListedAt listed.file number earlier =
    is (from_one (records_of listed.file.bytes.now) (name_in (fields_listed listed)) (number_listed listed)
    number first some) in
    let numbered : number_listed earlier ≡ number = at.record_is.number_is in
    let same : number ≡ other.number = cc (numbered, field.number_is) in
    record {
      earlier = earlier;
      listed_is = subst (λ (n : ℕ). IsListedAt listed.file n earlier) same at;
      field_is = field;
      first =
          subst (λ (n : ℕ). IsFirstNamed (records_of listed.file.bytes.now) (name_in (fields_listed listed))
          (number_listed listed) n) same first;
    }
