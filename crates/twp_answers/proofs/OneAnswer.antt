-- The same two texts have only one plat, one land, and one refusal.
use Rattle.std.proofs.Common.{◌≡◌, ℕ, Bool, List, Some, Result, Ok, Err, subst, sym, ◌∙◌}
use Rattle.std.proofs.Common.{inl, inr}
use Rattle.twp_grid.specs.Townships.{Designation}
use Rattle.twp_grid.specs.declared.refusal.Refusal.{Refusal}
use Rattle.twp_notes.specs.FieldNotes.{FieldNotes, AreNotes}
use Rattle.twp_notes.proofs.OneAnswer.{one_notes, one_first, no_fault}
use Rattle.twp_plat.specs.Plats.{SurveyPlat, IsPlatOf}
use Rattle.twp_plat.specs.PlatFaults as plat_faults
use Rattle.twp_plat.specs.declared.fault.PlatFault.{PlatFault}
use Rattle.twp_plat.proofs.OneAnswer as plats
use Rattle.twp_resolve.specs.PlaceFaults as place_faults
use Rattle.twp_resolve.specs.declared.place_fault.PlaceFault.{PlaceFault}
use Rattle.twp_read.proofs.OneAnswer as texts
use Rattle.twp_resolve.proofs.PlaceAnswers as lands
use Rattle.twp_answers.specs.Answers.{ArePlatted, Describe, AreRefused, IsNoDescription, IsNoPlat, IsRefusal}
use Rattle.twp_grid.specs.Lands.{Lotting, STANDARD_LOTS}

-- the plat of notes, or their fault
abbrev made : SurveyPlat → Result SurveyPlat PlatFault
made plat = Ok plat

abbrev unmade : PlatFault → Result SurveyPlat PlatFault
unmade fault = Err fault

-- the land of items, or their fault
abbrev found : (ℕ → ℕ → ℕ → Bool) → Result (ℕ → ℕ → ℕ → Bool) PlaceFault
found places = Ok places

abbrev unfound : PlaceFault → Result (ℕ → ℕ → ℕ → Bool) PlaceFault
unfound fault = Err fault

-- the same notes make only one plat
pub one_plat : (notes : List ℕ) (plat plat' : SurveyPlat) → ArePlatted notes plat → ArePlatted notes plat'
    → plat ≡ plat'
one_plat notes plat plat' are are' =
    let same : are.notes ≡ are'.notes = one_notes notes are.notes are'.notes are.notes_are are'.notes_are in
    let both : made plat ≡ made plat' =
    plats.one_answer are'.notes (Ok plat) (Ok plat') (subst (λ n. IsPlatOf n plat) same are.plat_is)
    are'.plat_is in
    cc both

-- a description names only one land
pub one_land : (lots : Lotting) (township : Designation) (description : List ℕ)
    (places places' : ℕ → ℕ → ℕ → Bool)
    → Describe lots township description places
    → Describe lots township description places' → places ≡ places'
one_land lots township description places places' is is' =
    let same : is.items ≡ is'.items = texts.one_reading description is.items is'.items is.read is'.read in
    let land : place_faults.IsLandOfItems lots township is'.items places = rw same at is.land in
    let both : found places ≡ found places' =
    lands.one_answer lots township is'.items (Ok places) (Ok places') land is'.land in
    cc both

-- bytes that are refused as notes are not notes
not_both : (notes : List ℕ) (refusal : Refusal) (others : FieldNotes) → AreRefused notes refusal
    → AreNotes notes others → ⊥
not_both notes refusal others is are = no_fault notes others is.fault are is.first.is

-- bytes that make no plat do not make one
pub not_platted : (notes : List ℕ) (refusal : Refusal) (plat : SurveyPlat) → IsNoPlat notes refusal
    → ArePlatted notes plat → ⊥
not_platted notes refusal plat (inl is) are = not_both notes refusal are.notes is are.notes_are
not_platted notes refusal plat (inr is) are =
    let same : is.notes ≡ are.notes = one_notes notes is.notes are.notes is.notes_are are.notes_are in
    let both : made plat ≡ unmade is.fault =
    plats.one_answer are.notes (Ok plat) (Err is.fault) are.plat_is
    (subst (λ n. plat_faults.IsFirstPlatFault n is.fault) same is.first) in
    cc both

-- bytes that are not a description of land describe none
pub not_described : (lots : Lotting) (township : Designation) (d : List ℕ) (refusal : Refusal)
    (places : ℕ → ℕ → ℕ → Bool)
    → IsNoDescription lots township d refusal
    → Describe lots township d places → ⊥
not_described lots township d refusal places (inl is) land =
    texts.no_fault d land.items is.fault land.read is.first.is
not_described lots township d refusal places (inr is) land =
    let same : is.items ≡ land.items = texts.one_reading d is.items land.items is.read land.read in
    let both : found places ≡ unfound is.fault =
    lands.one_answer lots township land.items (Ok places) (Err is.fault) land.land
    (subst (λ i. place_faults.IsFirstPlaceFault lots township i is.fault) same is.first) in
    cc both

-- only one refusal of notes or plat is the first
pub one_plat_refusal : (notes : List ℕ) (r r' : Refusal) → IsNoPlat notes r → IsNoPlat notes r' → r ≡ r'
one_plat_refusal notes r r' (inl is) (inl is') =
    let same : is.fault ≡ is'.fault = one_first notes is.fault is'.fault is.first is'.first in
    let both : Some r ≡ Some r' = sym is.refusal_is ∙ rw same is'.refusal_is in
    cc both
one_plat_refusal notes r r' (inl is) (inr is') = absurd (not_both notes r is'.notes is is'.notes_are)
one_plat_refusal notes r r' (inr is) (inl is') = absurd (not_both notes r' is.notes is' is.notes_are)
one_plat_refusal notes r r' (inr is) (inr is') =
    let same : is.notes ≡ is'.notes = one_notes notes is.notes is'.notes is.notes_are is'.notes_are in
    let both : unmade is.fault ≡ unmade is'.fault =
    plats.one_answer is'.notes (Err is.fault) (Err is'.fault)
    (subst (λ n. plat_faults.IsFirstPlatFault n is.fault) same is.first) is'.first in
    let fault : is.fault ≡ is'.fault = cc both in
    let refusals : Some r ≡ Some r' = sym is.refusal_is ∙ rw fault is'.refusal_is in
    cc refusals

-- only one refusal of a description is the first
pub one_description_refusal : (lots : Lotting) (township : Designation) (d : List ℕ) (r r' : Refusal)
    → IsNoDescription lots township d r → IsNoDescription lots township d r' → r ≡ r'
one_description_refusal lots township d r r' (inl is) (inl is') =
    let refusals : Some r ≡ Some r' =
    sym is.refusal_is ∙ texts.one_refusal d is.fault is'.fault is.first is'.first ∙ is'.refusal_is in
    cc refusals
one_description_refusal lots township d r r' (inl is) (inr is') =
    absurd (texts.no_fault d is'.items is.fault is'.read is.first.is)
one_description_refusal lots township d r r' (inr is) (inl is') =
    absurd (texts.no_fault d is.items is'.fault is.read is'.first.is)
one_description_refusal lots township d r r' (inr is) (inr is') =
    let same : is.items ≡ is'.items = texts.one_reading d is.items is'.items is.read is'.read in
    let both : unfound is.fault ≡ unfound is'.fault =
    lands.one_answer lots township is'.items (Err is.fault) (Err is'.fault)
    (subst (λ i. place_faults.IsFirstPlaceFault lots township i is.fault) same is.first) is'.first in
    let fault : is.fault ≡ is'.fault = cc both in
    let refusals : Some r ≡ Some r' = sym is.refusal_is ∙ rw fault is'.refusal_is in
    cc refusals

-- only one refusal is the first
pub one_refusal : (notes d : List ℕ) (r r' : Refusal) → IsRefusal notes d r → IsRefusal notes d r' → r ≡ r'
one_refusal notes d r r' (inl is) (inl is') = one_plat_refusal notes r r' is is'
one_refusal notes d r r' (inl is) (inr is') = absurd (not_platted notes r is'.plat is is'.platted)
one_refusal notes d r r' (inr is) (inl is') = absurd (not_platted notes r' is.plat is' is.platted)
one_refusal notes d r r' (inr is) (inr is') =
    let same : is.plat ≡ is'.plat = one_plat notes is.plat is'.plat is.platted is'.platted in
    one_description_refusal STANDARD_LOTS is'.plat.township d r r'
    (subst (λ (p : SurveyPlat). IsNoDescription STANDARD_LOTS p.township d r) same is.refused) is'.refused
